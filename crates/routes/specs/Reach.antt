-- What a search through export-alls has reached, step by step. Assumes nothing.
use Rattle.std.specs.Prelude.{◌≡◌, ℕ, Bool, true, false, cond, ◌||◌, List, [], ◌∷◌, ◌++◌, map, length, nat_le}
use Rattle.std.specs.List.{AllByRecursion}
use Rattle.ids.specs.declared.numbers.ModuleId.{ModuleId}
use Rattle.host.specs.Program.{Program}
use Rattle.resolution.specs.Targets.{stands}
use Rattle.offering.specs.ExportedNames.{contains}
use Rattle.resolution.specs.Laws.{Leads}
use Rattle.routes.specs.declared.reached.Reached.{Reached}

abbrev pub modules_in : List Reached → List ModuleId
modules_in rs = map (λ r. r.«module») rs

module _ (p : Program) where
  -- a module is past the last, or was reached
  abbrev pub known : List Reached → ModuleId → Bool
  known rs y = nat_le (length p.modules) y.0 || contains (modules_in rs) y

  -- what was reached after a module was added
  abbrev pub Added : Reached → List Reached → List Reached → Type 0
  Added r before after = after ≡ cond (known before r.«module») before (before ++ r ∷ [])

  -- r was reached by an export-all of x, which has the number `from`
  abbrev pub Led : ModuleId → ℕ → Reached → Type 0
  Led x from r = (r.from ≡ from) × ((z : ModuleId) × Leads p x r.place z × (r.«module» ≡ stands p z))

  -- each of these was not known before it came
  abbrev pub Fresh : List Reached → List Reached → Type 0
  Fresh before [] = Unit {0}
  Fresh before (r ∷ rs) = (known before r.«module» ≡ false) × Fresh (before ++ r ∷ []) rs

  -- from x, which has the number `from`, the export-alls at places of which P holds were followed: nothing goes, what is
  -- new was reached by an export-all of x and is new in the list, and all that those places lead to is known
  pub record Spread (x : ModuleId) (from : ℕ) (P : ℕ → Type 0) (before after : List Reached) : Type 0 where
    pub new : List Reached
    pub grown : after ≡ before ++ new
    pub led : AllByRecursion (Led x from) new
    pub fresh : Fresh before new
    pub all_known : (i : ℕ) (z : ModuleId) → P i → Leads p x i z → known after (stands p z) ≡ true
