-- One step of a way. Assumes nothing.
use Rattle.std.specs.Prelude.{◌≡◌, ℕ, suc, cond, List, [], ◌∷◌, ◌++◌, Some, None, Option, refl}
use Rattle.ids.specs.declared.numbers.ModuleId.{ModuleId}
use Rattle.redirects.specs.Following.{next, seen_before, walk}
use Rattle.redirects.specs.declared.redirect.Redirect.{Redirect}

abbrev pub onward : List Redirect → List ModuleId → ModuleId → ℕ → Option ModuleId → ModuleId
onward rs seen m more None = m
onward rs seen m more (Some to) = cond (seen_before to seen) m (walk rs more (seen ++ to ∷ []) to)

pub walk_more : (rs : List Redirect) (seen : List ModuleId) (m : ModuleId) (k : ℕ) → walk rs (suc k) seen m ≡ onward rs seen m k (next rs m)
walk_more rs seen m k = by_case (next rs m)
  where
    by_case : (o : Option ModuleId) → (elim o as (λ _. ModuleId) [ None ↦ m | Some to ↦ cond (seen_before to seen) m (walk rs k (seen ++ to ∷ []) to) ]) ≡ onward rs seen m k o
    by_case None = refl
    by_case (Some to) = refl
