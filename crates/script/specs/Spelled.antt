-- What a word asks for. Assumes nothing.
use Rattle.std.specs.Prelude.{◌≡◌, cond, List, [], ◌∷◌, codes, ◌==◌, ◌≢◌}
use Rattle.ids.specs.Paths.{names_of}
use Rattle.joining.specs.declared.requests.Request.{Request}
use Rattle.joining.specs.declared.requests.Request.TheVariants.{Path as Ask, Star, Full}
use Rattle.words.specs.Spelled.{dot, Spells}
use Rattle.words.specs.Texts.{Text}

-- the word without the dot that it may begin with
abbrev pub bare : Text → Text
bare [] = []
bare (b ∷ bs) = cond (b == dot) bs (b ∷ bs)

-- what the word w asks for, where ts are the names' texts
abbrev pub Asks : List Text → Text → Request → Type 0
Asks ts w Star = w ≡ codes "star"
Asks ts w Full = w ≡ codes "full"
Asks ts w (Ask p) = Spells ts (bare w) (names_of p) × (w ≢ codes "star") × (w ≢ codes "full")
