-- Numbers told apart, one element on. Assumes nothing.
use Rattle.std.proofs.Common.{◌≡◌, ℕ, ◌||◌, eqb, List, [], ◌∷◌, map, refl, ap}
use Rattle.std.specs.List.{list_any}
use Rattle.host.specs.Tests.{among}

module _ {X : Type 0} (number : X → ℕ) (n : ℕ) where
  -- whether one of the elements has the number n
  pub any_among : (xs : List X) → list_any (λ x. eqb n (number x)) xs ≡ among n (map number xs)
  any_among [] = refl
  any_among (x ∷ xs) = ap (λ b. eqb n (number x) || b) (any_among xs)
