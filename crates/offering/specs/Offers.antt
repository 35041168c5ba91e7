-- Which modules offer a name. Assumes nothing.
use Rattle.std.specs.Prelude.{◌≡◌, ℕ, ◌<◌, ◌≤◌, Bool, true, List, length, Some, None, Ok, Err, Decides, Option, Result, ◌≢◌}
use Rattle.ids.specs.declared.numbers.ModuleId.{ModuleId}
use Rattle.ids.specs.declared.numbers.NameId.{NameId}
use Rattle.host.specs.Program.{Program}
use Rattle.offering.specs.ExportedNames.{Standard}
use Rattle.offering.specs.Marks.{blanked}
use Rattle.offering.specs.Refusals.{number}
use Rattle.resolution.specs.Laws.{Leads}
use Rattle.resolution.specs.Targets.{stands, exports}
use Rattle.offering.specs.declared.refusals.Refusal.{Refusal}

-- x offers f: it exports f itself, or one of its export-alls passes f on. `default` is never passed on
pub data Offers (p : Program) (f : NameId) : ModuleId → Type 0 where
  own : {x : ModuleId} → exports p x f ≡ true → Offers p f x
  passed : {x y : ModuleId} {i : ℕ} → (f.0 ≢ 0) → Leads p x i y → Offers p f (stands p y) → Offers p f x

-- b says whether x offers f: as the relation has it, as GetExportedNames has it, and of `default` only where x itself exports it
pub record Offered (p : Program) (f : NameId) (x : ModuleId) (b : Bool) : Type 0 where
  pub offers : Decides b (Offers p f x)
  pub standard : Standard p x f b
  pub default_own : f.0 ≡ 0 → b ≡ exports p x f

-- the export-all of x at place i passes f on
pub record Passes (p : Program) (f : NameId) (x : ModuleId) (i : ℕ) : Type 0 where
  pub not_default : f.0 ≡ 0 → ⊥
  pub to : ModuleId
  pub leads : Leads p x i to
  pub offers : Offers p f (stands p to)

-- the place of the first export-all of x that passes f on
abbrev pub First : Program → NameId → ModuleId → Option ℕ → Type 0
First p f x (Some i) = Passes p f x i × ((j : ℕ) → j < i → Passes p f x j → ⊥)
First p f x None = (j : ℕ) → Passes p f x j → ⊥

-- what comes of a search in a lent sheet: its answer, and then the sheet is blank as far as it has modules; or it is
-- refused for being shorter than the modules, and is as it was
abbrev pub Searched : {X : Type 0} → Program → (X → Type 0) → List ℕ → List ℕ → Result X Refusal → Type 0
Searched p P before after (Ok x) = (length p.modules ≤ length before) × P x × (after ≡ blanked (length p.modules) before)
Searched p P before after (Err e) = (number e ≡ 7) × (length before < length p.modules) × (after ≡ before)
