-- What targets, standing modules and exports are, in words of the records. Assumes nothing.
use Rattle.std.specs.Prelude.{◌≡◌, ℕ, zero, suc, ◌≤◌, true, false, ◌⊎◌, Some, None, Option}
use Rattle.ids.specs.declared.numbers.ModuleId.{ModuleId}
use Rattle.ids.specs.declared.numbers.NameId.{NameId}
use Rattle.host.specs.Lookups.{module_at, dependency_at, re_export_all_at, export_at}
use Rattle.host.specs.Program.{Program}
use Rattle.host.specs.declared.told.Dependency.{Dependency}
use Rattle.host.specs.declared.told.Export.{Export}
use Rattle.host.specs.declared.told.ReExportAll.{ReExportAll}
use Rattle.resolution.specs.Targets.{kind_of, types_of, is_missing, is_inside, target, types_steps, module_symbol}

module _ (p : Program) where
  -- m has a dependency with this specifier, and it aims so
  pub record Aims (m : ModuleId) (n : NameId) (aimed : Option ModuleId) : Type 0 where
    pub place : ℕ
    pub dependency : Dependency
    pub there : dependency_at p m place ≡ Some dependency
    pub named : dependency.specifier ≡ n
    pub aims : dependency.target ≡ aimed

  abbrev pub IsMissing : ModuleId → Type 0
  IsMissing c = is_missing (kind_of (module_at p c)) ≡ true

  abbrev pub IsThere : ModuleId → Type 0
  IsThere c = is_missing (kind_of (module_at p c)) ≡ false

  -- the target of a specifier in m, case by case
  pub data TargetOf (m : ModuleId) (n : NameId) : Option ModuleId → Type 0 where
    -- no dependency has the specifier
    lacking : ((aimed : Option ModuleId) → Aims m n aimed → ⊥) → TargetOf m n None
    nowhere : Aims m n None → TargetOf m n None
    lost : {c : ModuleId} → Aims m n (Some c) → IsMissing c → TargetOf m n None
    -- the module aimed at has no types module
    itself : {c : ModuleId} → Aims m n (Some c) → IsThere c → types_of (module_at p c) ≡ None → TargetOf m n (Some c)
    -- its types module is missing
    untyped : {c t : ModuleId} → Aims m n (Some c) → IsThere c → types_of (module_at p c) ≡ Some t → IsMissing t → TargetOf m n (Some c)
    typed : {c t : ModuleId} → Aims m n (Some c) → IsThere c → types_of (module_at p c) ≡ Some t → IsThere t → TargetOf m n (Some t)

  -- the export-all of x at place i leads to y
  pub record Leads (x : ModuleId) (i : ℕ) (y : ModuleId) : Type 0 where
    pub re_export_all : ReExportAll
    pub there : re_export_all_at p x i ≡ Some re_export_all
    pub leads : target p x re_export_all.specifier ≡ Some y

  -- a step from a module to its types module, which is neither missing nor external
  pub record Steps (m t : ModuleId) : Type 0 where
    pub types : types_of (module_at p m) ≡ Some t
    pub inside : is_inside (kind_of (module_at p t)) ≡ true

  -- so many such steps one after another
  pub data Way : ℕ → ModuleId → ModuleId → Type 0 where
    stay : {m : ModuleId} → Way zero m m
    step : {k : ℕ} {m t end : ModuleId} → Steps m t → Way k t end → Way (suc k) m end

  -- the end stands for m: it is reached by at most eight steps, and there are eight or none can follow
  pub record StandsFor (m end : ModuleId) : Type 0 where
    pub steps : ℕ
    pub way : Way steps m end
    pub few : steps ≤ types_steps
    pub last : (steps ≡ types_steps) ⊎ ((t : ModuleId) → Steps end t → ⊥)

  -- one of the exports of m has the name f
  pub record HasExport (m : ModuleId) (f : NameId) : Type 0 where
    pub place : ℕ
    pub export : Export
    pub there : export_at p m module_symbol place ≡ Some export
    pub named : export.name ≡ f
