-- A path by the list of its names. Assumes nothing.
use Rattle.std.specs.Prelude.{◌≡◌, ◌-◌, ◌<◌, Bool, List, [], ◌∷◌, length, take, replicate, Ok, Err, Option, Result, MatchOption, refl, ◌==◌}
use Rattle.std.specs.declared.cmp.Ordering.{Ordering}
use Rattle.std.specs.declared.cmp.Ordering.TheVariants.{Less, Equal, Greater}
use Rattle.std.proofs.Common.{lit≤}
use Rattle.std.specs.Cmp.{unsigned_ties}
use Rattle.std.specs.Cmp.Lexicographic.{pointwise, slice_cmp, lists_ties}
use Rattle.std.specs.Ordering.{MatchOrdering, nat_cmp, on, as_partial_cmp, eq_by_cmp}
use Rattle.ids.specs.Names.{limit, default_name}
use Rattle.ids.specs.declared.numbers.NameId.{NameId}
use Rattle.ids.specs.declared.path_struct.Path.{Path}
use Rattle.ids.specs.declared.paths.PathError.{PathError}
use Rattle.ids.specs.declared.paths.PathError.TheVariants.{Empty, TooLong}

-- the names of a path, first to last
abbrev pub names_of : Path → List NameId
names_of p = take p.len p.names

-- what comes of the wish for a path of these names: that path, or a refusal. A path has at least
-- one name and at most `limit`, so which of the three comes is settled by the names
abbrev pub Makes : List NameId → Result Path PathError → Type 0
Makes ns (Ok p) = names_of p ≡ ns
Makes ns (Err Empty) = length ns ≡ 0
Makes ns (Err TooLong) = limit < length ns

-- whether two paths have the same names
abbrev pub same_names : Path → Path → Bool
same_names = on names_of (pointwise (on (λ (n : NameId). n.0) ◌==◌))

-- two names by their numbers
abbrev pub ByNumber : NameId → NameId → Ordering → Type 0
ByNumber a b r = MatchOrdering r (a.0 < b.0) (a.0 ≡ b.0) (b.0 < a.0)

-- two lists of names by R: the first pair that is not equal decides, and a list comes before those that go on from it
abbrev pub Lex : (NameId → NameId → Ordering → Type 0) → List NameId → List NameId → Ordering → Type 0
Lex R [] [] r = r ≡ Equal
Lex R [] (n ∷ ns) r = r ≡ Less
Lex R (m ∷ ms) [] r = r ≡ Greater
Lex R (m ∷ ms) (n ∷ ns) r = (s : Ordering) × (R m n s × MatchOrdering s (r ≡ Less) (Lex R ms ns r) (r ≡ Greater))

-- two paths name by name: the first difference decides, and a path comes before those that go on from it
abbrev pub InOrder : Path → Path → Ordering → Type 0
InOrder p q = Lex ByNumber (names_of p) (names_of q)

abbrev pub InSomeOrder : Path → Path → Option Ordering → Type 0
InSomeOrder p q r = MatchOption r ⊥ (InOrder p q)

-- the same as functions
abbrev pub number_order : NameId → NameId → Ordering
number_order = on (λ (n : NameId). n.0) nat_cmp

abbrev pub path_order : Path → Path → Ordering
path_order = on names_of (slice_cmp number_order)

abbrev pub path_partial_order : Path → Path → Option Ordering
path_partial_order = as_partial_cmp path_order

-- paths have the same names exactly where neither comes first
pub names_tie : (p q : Path) → same_names p q ≡ eq_by_cmp path_order p q
names_tie p q = lists_ties number_order (λ m n. unsigned_ties m.0 n.0) (names_of p) (names_of q)

-- the path of one name
abbrev pub one_name : NameId → Path
one_name n = record {
  names = n ∷ replicate (limit - 1) default_name;
  len = 1;
  wide = refl;
  some = lit≤ tt;
  few = lit≤ tt;
  padded = refl;
}

-- the path `default`
abbrev pub default_path : Path
default_path = one_name default_name
