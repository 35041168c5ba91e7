-- Places of a list. Assumes nothing.
use Rattle.std.proofs.Common.{◌≡◌, ℕ, ◌+◌, ◌<◌, ◌⊎◌, inl, inr, arith}
use Rattle.std.proofs.lemmas.Bool.{cases_eq}

-- a place below the next is below this one, or is it
pub before_or_at : (place i : ℕ) → i < place + 1 → (i < place) ⊎ (i ≡ place)
before_or_at place i h = elim (cases_eq i place) [ inl e ↦ inr e | inr other ↦ inl (omega arith) ]
