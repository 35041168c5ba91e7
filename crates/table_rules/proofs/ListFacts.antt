-- Lists whose elements are tested with their places. Assumes nothing.
use Rattle.std.proofs.Common.{◌≡◌, ℕ, suc, Bool, ◌&&◌, List, [], ◌∷◌, map, sym, refl, ap, ◌∙◌, add-one}
use Rattle.std.specs.List.{enumerate_from, list_all}
use Rattle.host.specs.Tests.{all_at}

-- a test of each element and its place, over the pairs of the two
pub all_at_pairs : {X Y : Type 0} (t : ℕ → Y → Bool) (f : X → Y) (i : ℕ) (xs : List X) → all_at t i (map f xs) ≡ list_all (λ p. t p.0 (f p.1)) (enumerate_from i xs)
all_at_pairs t f i [] = refl
all_at_pairs t f i (x ∷ xs) = ap (λ b. t i (f x) && b) (all_at_pairs t f (suc i) xs ∙ ap (λ k. list_all (λ p. t p.0 (f p.1)) (enumerate_from k xs)) (sym (add-one i)))
