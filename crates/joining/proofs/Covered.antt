-- Facts on covering. Assumes nothing.
use Rattle.std.proofs.Common.{◌≡◌, ℕ, suc, ◌+◌, ◌<◌, ◌≤◌, true, false, Bool, ◌||◌, List, [], ◌∷◌, ◌++◌, length, refl, arith}
use Rattle.std.proofs.lemmas.Bool.{ne_eqb, false≢true}
use Rattle.std.proofs.lemmas.Bool.Decides.{nat_tests}
use Rattle.std.proofs.lemmas.List.Folds.{list_any-append}
use Rattle.ids.specs.declared.numbers.NameId.{NameId}
use Rattle.ids.specs.declared.path_struct.Path.{Path}
use Rattle.ids.specs.Paths.{names_of, one_name}
use Rattle.ids.proofs.Padding.{length_names}
use Rattle.joining.specs.Covering.{covers, of_default}
use Rattle.joining.specs.Joining.{some_covers, some_of_default, default_names, uncovered}

pub covers_self : (p : List NameId) → covers p p ≡ true
covers_self [] = refl
covers_self (n ∷ p) = grind (arith, nat_tests, covers_self p)

pub covers_chain : (p q r : List NameId) → covers p q ≡ true → covers q r ≡ true → covers p r ≡ true
covers_chain [] q r h k = refl
covers_chain (a ∷ p) [] r h k = absurd (false≢true h)
covers_chain (a ∷ p) (b ∷ q) [] h k = k
covers_chain (a ∷ p) (b ∷ q) (c ∷ r) h k = grind (arith, nat_tests, covers_chain p q r)

-- a path and one that it covers begin alike
begins_alike : (p q : List NameId) → 1 ≤ length p → covers p q ≡ true → of_default q ≡ of_default p
begins_alike [] q some h = absurd (omega arith)
begins_alike (a ∷ p) [] some h = absurd (false≢true h)
begins_alike (a ∷ p) (b ∷ q) some h = grind (arith, nat_tests)

pub path_some : (p : Path) → 1 ≤ length (names_of p)
path_some p = omega (arith, length_names p, p.some)

pub path_begins : (p : Path) (q : List NameId) → covers (names_of p) q ≡ true → of_default q ≡ of_default (names_of p)
path_begins p q h = begins_alike (names_of p) q (path_some p) h

-- `default` covers what begins with it
pub default_covers : (q : List NameId) → covers default_names q ≡ of_default q
default_covers [] = refl
default_covers (n ∷ q) = grind (arith, nat_tests)

-- what covers `default` covers all that begins with it
above_default : (p q : List NameId) → 1 ≤ length p → covers p default_names ≡ true → of_default q ≡ true → covers p q ≡ true
above_default [] q some h d = refl
above_default (a ∷ []) [] some h d = absurd (false≢true d)
above_default (a ∷ []) (b ∷ q) some h d = grind (arith, nat_tests)
above_default (a ∷ (c ∷ p)) q some h d = grind arith

-- of the kept paths

pub some_chain : (ps : List Path) (p q : List NameId) → some_covers ps p ≡ true → covers p q ≡ true → some_covers ps q ≡ true
some_chain [] p q h k = h
some_chain (s ∷ ps) p q h k = grind (arith, covers_chain (names_of s) p q, some_chain ps p q)

pub some_default : (ps : List Path) (q : List NameId) → some_covers ps q ≡ true → of_default q ≡ true → some_of_default ps ≡ true
some_default [] q h d = h
some_default (s ∷ ps) q h d = grind (arith, path_begins s q, some_default ps q)

pub some_above_default : (ps : List Path) (q : List NameId) → some_covers ps default_names ≡ true → of_default q ≡ true → some_covers ps q ≡ true
some_above_default [] q h d = h
some_above_default (s ∷ ps) q h d = grind (arith, above_default (names_of s) q (path_some s), some_above_default ps q)

-- p takes the place of what it covers, and nothing that was covered is lost
pub replaced : (p : List NameId) (ps : List Path) (q : List NameId) → (some_covers (uncovered p ps) q || covers p q) ≡ (some_covers ps q || covers p q)
replaced p [] q = refl
replaced p (s ∷ ps) q = grind (arith, replaced p ps q, covers_chain p (names_of s) q)

pub with_path : (p : Path) (ps : List Path) (q : List NameId) → some_covers (uncovered (names_of p) ps ++ (p ∷ [])) q ≡ (some_covers ps q || covers (names_of p) q)
with_path p ps q = grind (arith, list_any-append (λ s. covers (names_of s) q) (uncovered (names_of p) ps) (p ∷ []), replaced (names_of p) ps q)

-- a name that no kept path begins with, and that is not `default`

abbrev first_number : List NameId → ℕ
first_number [] = 0
first_number (n ∷ ns) = n.0

abbrev pub past : List Path → ℕ
past [] = 1
past (p ∷ ps) = suc (first_number (names_of p)) + past ps

pub past_some : (ps : List Path) → 1 ≤ past ps
past_some [] = omega arith
past_some (p ∷ ps) = omega arith

abbrev single : ℕ → List NameId
single n = record { 0 = n } ∷ []

past_first : (p : List NameId) (n : ℕ) → 1 ≤ length p → first_number p < n → covers p (single n) ≡ false
past_first [] n some h = absurd (omega arith)
past_first (a ∷ p) n some h = grind (arith, nat_tests)

pub past_covers : (ps : List Path) (n : ℕ) → past ps ≤ n → some_covers ps (single n) ≡ false
past_covers [] n h = refl
past_covers (p ∷ ps) n h = grind (arith, path_some p, past_first (names_of p) n, past_covers ps n)

abbrev pub fresh : List Path → Path
fresh ps = one_name record { 0 = past ps }

pub fresh_uncovered : (ps : List Path) → some_covers ps (names_of (fresh ps)) ≡ false
fresh_uncovered ps = past_covers ps (past ps) (omega arith)

pub fresh_not_default : (ps : List Path) → of_default (names_of (fresh ps)) ≡ false
fresh_not_default ps = ne_eqb (past ps) 0 (λ e. omega (arith, past_some ps))

or_swap : (a b c : Bool) → (a || (b || c)) ≡ (b || (a || c))
or_swap true true c = refl
or_swap true false c = refl
or_swap false b c = refl
