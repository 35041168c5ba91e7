-- Requests as words. Assumes nothing.
use Rattle.std.specs.Prelude.{Bool, cond, ◌||◌, List, ◌∷◌, codes}
use Rattle.std.specs.Str.{bytes_eq}
use Rattle.joining.specs.declared.requests.Request.{Request}
use Rattle.joining.specs.declared.requests.Request.TheVariants.{Path as Ask, Star, Full}
use Rattle.words.specs.Spelled.{dot, spelled}
use Rattle.words.specs.Texts.{Text}

-- a word that does not ask for one path
abbrev pub special : Text → Bool
special t = bytes_eq t (codes "star") || bytes_eq t (codes "full")

-- a path's word: with a dot in front where it would ask for something else
abbrev pub guarded : Text → Text
guarded t = cond (special t) (dot ∷ t) t

abbrev pub written : List Text → Request → Text
written ts Star = codes "star"
written ts Full = codes "full"
written ts (Ask p) = guarded (spelled ts p)
