-- What stands in a list. Assumes nothing.
use Rattle.std.specs.Prelude.{◌≡◌, List, ◌∷◌}

pub data In {X : Type 0} (x : X) : List X → Type 0 where
  first : {y : X} {ys : List X} → x ≡ y → In x (y ∷ ys)
  later : {y : X} {ys : List X} → In x ys → In x (y ∷ ys)
