-- Four short histories of one module's record, each from nothing. Assumes nothing.
use Rattle.std.specs.Prelude.{◌≡◌, [], ◌∷◌, Some, None}
use Rattle.ids.specs.Names.{default_name}
use Rattle.ids.specs.Paths.{names_of, default_path}
use Rattle.ids.specs.declared.numbers.NameId.{NameId}
use Rattle.ids.specs.declared.path_struct.Path.{Path}
use Rattle.joining.specs.Joining.{nothing, joined, handed}
use Rattle.joining.specs.declared.requests.Request.TheVariants.{Path as Ask, Star, Full}

pub record Examples : Type 0 where
  -- `f.g` asked twice is handed out once
  pub once : (p : Path) (f g : NameId) → names_of p ≡ f ∷ g ∷ [] → (handed nothing (Ask p) ≡ Some (Ask p)) × (handed (joined nothing (Ask p)) (Ask p) ≡ None)
  -- after `f`, `f.g` hands out nothing
  pub below : (p q : Path) (f g : NameId) → names_of p ≡ f ∷ [] → names_of q ≡ f ∷ g ∷ [] → handed (joined nothing (Ask p)) (Ask q) ≡ None
  -- star, then `default.g`, hands out `default`
  pub star_first : (p : Path) (g : NameId) → names_of p ≡ default_name ∷ g ∷ [] → handed (joined nothing Star) (Ask p) ≡ Some (Ask default_path)
  -- `default.g`, then star, hands out full
  pub star_last : (p : Path) (g : NameId) → names_of p ≡ default_name ∷ g ∷ [] → handed (joined nothing (Ask p)) Star ≡ Some Full
