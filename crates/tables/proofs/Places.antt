-- What a look at a place of a list gives, over a list that is made from it. Assumes nothing.
use Rattle.std.proofs.Common.{◌≡◌, ℕ, List, map, Some, None, Option, sym, refl, ap, ◌∙◌, Bor}
use Rattle.std.specs.Option.{option_map}
use Rattle.std.specs.List.{slice_get}
use Rattle.std.proofs.lemmas.Option.{slice_get-map}

pub told_at : {X Y : Type 0} (f : X → Y) (r : Option (Bor X)) (xs : List X) (i : ℕ) → option_map (λ x. x.now) r ≡ slice_get xs i → option_map (λ x. f x.now) r ≡ slice_get (map f xs) i
told_at f r xs i e = twice r ∙ ap (option_map f) e ∙ sym (slice_get-map f xs i)
  where
    twice : (o : Option (Bor _)) → option_map (λ x. f x.now) o ≡ option_map f (option_map (λ x. x.now) o)
    twice None = refl
    twice (Some x) = refl
