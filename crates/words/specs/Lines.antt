-- The lines of a text. Assumes nothing.
use Rattle.std.specs.Prelude.{◌≡◌, ◌<◌, List, [], ◌∷◌, length}
use Rattle.std.specs.Str.Lines.{IsFirstLine as FirstLine}
use Rattle.words.specs.Texts.{Text}

-- the text w is the lines ls, and then rest
abbrev pub Lines : Text → List Text → Text → Type 0
Lines w [] rest = w ≡ rest
Lines w (l ∷ ls) rest = (after : Text) × (0 < length w) × FirstLine w l after × Lines after ls rest
