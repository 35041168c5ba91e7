-- Routes from module to module, to one that exports a name. Assumes nothing.
use Rattle.std.specs.Prelude.{◌≡◌, ℕ, ◌<◌, true, false, List, [], ◌∷◌, Some, ◌≢◌}
use Rattle.std.specs.List.{slice_get}
use Rattle.ids.specs.declared.numbers.ModuleId.{ModuleId}
use Rattle.ids.specs.declared.numbers.NameId.{NameId}
use Rattle.host.specs.Program.{Program}
use Rattle.resolution.specs.Targets.{stands, exports}
use Rattle.resolution.specs.Laws.{Leads}
use Rattle.routes.specs.Reach.{known}
use Rattle.routes.specs.declared.reached.Reached.{Reached}
use Rattle.routes.specs.declared.steps.Step.{Step}

-- the steps lead from x to a module that exports f. `default` takes no step
abbrev pub Route : Program → NameId → ModuleId → List Step → Type 0
Route p f x [] = exports p x f ≡ true
Route p f x (s ∷ steps) = (f.0 ≢ 0) × ((z : ModuleId) × Leads p x s.place z × (s.to ≡ stands p z)) × Route p f s.to steps

-- the module at which a search starts
abbrev pub start_of : ModuleId → Reached
start_of x = record { «module» = x; from = 0; place = 0 }

-- the step by which a module was reached
abbrev pub step_of : Reached → Step
step_of r = record { place = r.place; to = r.«module» }

-- the steps from the number k to the number `end` of what was reached
pub data Trail (rs : List Reached) (end : ℕ) : ℕ → List Step → Type 0 where
  here : {k : ℕ} → k ≡ end → Trail rs end k []
  on : {k from : ℕ} {r : Reached} {steps : List Step} → 0 < k → slice_get rs k ≡ Some r → r.from ≡ from → Trail rs end k steps → Trail rs end from (step_of r ∷ steps)

-- all but the first were reached from one before them
abbrev pub Down : List Reached → Type 0
Down rs = (k : ℕ) (r : Reached) → 0 < k → slice_get rs k ≡ Some r → r.from < k

-- a search from start for f has reached these and looked at the first of them, as many as `turn`: those do not export f, and what
-- their export-alls lead to is known
pub record Searching (p : Program) (f : NameId) (start : ModuleId) (rs : List Reached) (turn : ℕ) : Type 0 where
  pub first : slice_get rs 0 ≡ Some (start_of start)
  pub down : Down rs
  pub linked : (k : ℕ) (r : Reached) → 0 < k → slice_get rs k ≡ Some r → (q : Reached) × (slice_get rs r.from ≡ Some q) × ((z : ModuleId) × Leads p q.«module» r.place z × (r.«module» ≡ stands p z))
  pub looked : (k : ℕ) (r : Reached) → k < turn → slice_get rs k ≡ Some r → (exports p r.«module» f ≡ false) × ((i : ℕ) (z : ModuleId) → Leads p r.«module» i z → known p rs (stands p z) ≡ true)
