-- What a closure answers of each element of a list. Assumes nothing.
use Rattle.std.specs.Prelude.{◌≡◌, ℕ}
use Rattle.std.specs.Fn.{Shared}
use denote.Ref.{Bor}

-- each answer of f is the number of what it was asked of
abbrev pub Gives : {F X : Type 0} → Shared F (Bor X × Unit {0}) ℕ → F → (X → ℕ) → Type 0
Gives {X = X} g f number = (x : Bor X) (n : ℕ) → g.post f (x, tt) n → n ≡ number x.now
