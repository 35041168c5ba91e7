-- What a walk has met, step by step. Assumes nothing.
use Rattle.std.specs.Prelude.{◌≡◌, ℕ, ◌+◌, ◌<◌, ◌≤◌, false, ◌⊎◌, List, length, ◌≢◌}
use Rattle.ids.specs.declared.numbers.ModuleId.{ModuleId}
use Rattle.ids.specs.declared.numbers.NameId.{NameId}
use Rattle.host.specs.Program.{Program}
use Rattle.offering.specs.Marks.{mark_of, Met, undone}
use Rattle.offering.specs.Offers.{Offers}
use Rattle.resolution.specs.Laws.{Leads}
use Rattle.resolution.specs.Targets.{stands, exports}

-- of the export-alls of x, those at places of which P holds were followed: what they lead to has been met, and nothing else has been met
pub record Followed (p : Program) (x : ModuleId) (P : ℕ → Type 0) (before after : List ℕ) : Type 0 where
  pub long : length after ≡ length before
  pub still_met : (y : ModuleId) → Met before y → Met after y
  pub none_done : (y : ModuleId) → mark_of after y ≡ 2 → mark_of before y ≡ 2
  pub all_met : (i : ℕ) (y : ModuleId) → P i → Leads p x i y → Met after (stands p y)
  pub no_other : (y : ModuleId) → y.0 < length before → (mark_of after y ≢ 0) → (mark_of before y ≢ 0) ⊎ ((i : ℕ) × (z : ModuleId) × Leads p x i z × (y.0 ≡ (stands p z).0))
  pub as_many : undone after ≡ undone before
  pub still_small : ((y : ModuleId) → mark_of before y ≤ 2) → (y : ModuleId) → mark_of after y ≤ 2

-- x waited and is done: all its export-alls were followed
pub record Visited (p : Program) (x : ModuleId) (before after : List ℕ) : Type 0 where
  pub long : length after ≡ length before
  pub still_met : (y : ModuleId) → Met before y → Met after y
  pub one_done : (y : ModuleId) → mark_of after y ≡ 2 → (mark_of before y ≡ 2) ⊎ (y.0 ≡ x.0)
  pub all_met : (i : ℕ) (y : ModuleId) → Leads p x i y → Met after (stands p y)
  pub no_other : (y : ModuleId) → y.0 < length before → (mark_of after y ≢ 0) → (mark_of before y ≢ 0) ⊎ ((i : ℕ) × (z : ModuleId) × Leads p x i z × (y.0 ≡ (stands p z).0))
  pub fewer : undone after + 1 ≡ undone before
  pub still_small : ((y : ModuleId) → mark_of before y ≤ 2) → (y : ModuleId) → mark_of after y ≤ 2

-- a walk from start that looks for f: what was met offers f only if start does, and what is done does not export f itself and has
-- had all its export-alls followed
pub record Walked (p : Program) (f : NameId) (start : ModuleId) (marks : List ℕ) : Type 0 where
  pub long : length marks ≡ length p.modules
  pub small : (y : ModuleId) → mark_of marks y ≤ 2
  pub begun : Met marks start
  pub sound : (y : ModuleId) → y.0 < length marks → (mark_of marks y ≢ 0) → Offers p f y → Offers p f start
  pub closed : (y : ModuleId) → y.0 < length marks → mark_of marks y ≡ 2 → (exports p y f ≡ false) × ((i : ℕ) (z : ModuleId) → Leads p y i z → Met marks (stands p z))
