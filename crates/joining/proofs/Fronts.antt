-- Covering step by step, and that to cover is to be a front. Assumes nothing.
use Rattle.std.proofs.Common.{◌≡◌, ◌<◌, true, ◌&&◌, eqb, List, [], ◌∷◌, ◌++◌, length, get_or, drop, Decides, refl, ap, ◌∙◌, arith}
use Rattle.std.proofs.lemmas.Bool.Decides.{nat_tests}
use Rattle.std.proofs.lemmas.Bool.{false≢true}
use Rattle.ids.specs.declared.numbers.NameId.{NameId}
use Rattle.joining.specs.Covering.{covers, Front}

pub covers_none : (p q : List NameId) → length p ≡ 0 → true ≡ covers p q
covers_none [] q e = refl
covers_none (a ∷ p) q e = absurd (omega arith)

pub covers_more : (p q : List NameId) (d : NameId) → 0 < length p → 0 < length q → covers p q ≡ (eqb (get_or p 0 d).0 (get_or q 0 d).0 && covers (drop 1 p) (drop 1 q))
covers_more [] q d h k = absurd (omega arith)
covers_more (a ∷ p) [] d h k = absurd (omega arith)
covers_more (a ∷ p) (b ∷ q) d h k = refl

to_front : (p q : List NameId) → covers p q ≡ true → Front p q
to_front [] q h = (q, refl)
to_front (f ∷ p) [] h = absurd (false≢true h)
to_front (f ∷ p) (g ∷ q) h =
    let rest = to_front p q (grind arith) in
    (rest.0, grind (arith, nat_tests, rest.1))

itself_first : (p rest : List NameId) → covers p (p ++ rest) ≡ true
itself_first [] rest = refl
itself_first (f ∷ p) rest = grind (arith, nat_tests, itself_first p rest)

pub covers_front : (p q : List NameId) → Decides (covers p q) (Front p q)
covers_front p q = (to_front p q, λ f. ap (covers p) f.1 ∙ itself_first p f.0)
