-- The function by which paths are ordered keeps the relation. Assumes nothing.
use Rattle.std.proofs.Common.{◌≡◌, List, [], ◌∷◌, Less, Equal, Greater, Ordering, refl}
use Rattle.std.specs.Cmp.{ranks}
use Rattle.std.specs.Cmp.Lexicographic.{slice_cmp}
use Rattle.std.specs.Ordering.{MatchOrdering, ordering_then}
use Rattle.ids.specs.Paths.{names_of, ByNumber, Lex, InOrder, number_order, path_order}
use Rattle.ids.specs.declared.numbers.NameId.{NameId}
use Rattle.ids.specs.declared.path_struct.Path.{Path}

first_or_rest : (s rest : Ordering) (P : Ordering → Type 0) → P rest → MatchOrdering s (ordering_then s rest ≡ Less) (P (ordering_then s rest)) (ordering_then s rest ≡ Greater)
first_or_rest Less rest P h = refl
first_or_rest Equal rest P h = h
first_or_rest Greater rest P h = refl

lists_in_order : (ms ns : List NameId) → Lex ByNumber ms ns (slice_cmp number_order ms ns)
lists_in_order [] [] = refl
lists_in_order [] (n ∷ ns) = refl
lists_in_order (m ∷ ms) [] = refl
lists_in_order (m ∷ ms) (n ∷ ns) = (number_order m n, (ranks m.0 n.0, first_or_rest (number_order m n) (slice_cmp number_order ms ns) (Lex ByNumber ms ns) (lists_in_order ms ns)))

pub paths_in_order : (p q : Path) → InOrder p q (path_order p q)
paths_in_order p q = lists_in_order (names_of p) (names_of q)
