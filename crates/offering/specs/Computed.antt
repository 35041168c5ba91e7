-- Who offers a name, as a test that computes. Assumes nothing.
use Rattle.std.specs.Prelude.{ℕ, zero, suc, Bool, false, cond, not, ◌&&◌, ◌||◌, List, [], ◌∷◌, length, Some, None, Option, ◌==◌}
use Rattle.std.specs.Option.{option_map}
use Rattle.ids.specs.declared.numbers.ModuleId.{ModuleId}
use Rattle.ids.specs.declared.numbers.NameId.{NameId}
use Rattle.host.specs.Program.{Program}
use Rattle.host.specs.declared.told.ReExportAll.{ReExportAll}
use Rattle.resolution.specs.Targets.{target, stands, exports}
use Rattle.offering.specs.ExportedNames.{star_entries}

-- the test of what is there
abbrev pub holds : {X : Type 0} → (X → Bool) → Option X → Bool
holds t None = false
holds t (Some x) = t x

-- one of the elements passes
abbrev pub some_passes : {X : Type 0} → (X → Bool) → List X → Bool
some_passes t [] = false
some_passes t (x ∷ xs) = t x || some_passes t xs

-- the place of the first element that passes
abbrev pub first_place : {X : Type 0} → (X → Bool) → List X → Option ℕ
first_place t [] = None
first_place t (x ∷ xs) = cond (t x) (Some 0) (option_map suc (first_place t xs))

module _ (p : Program) (f : NameId) where
  -- an export-all of x leads to a module of which the test holds
  abbrev pub leads_to : (ModuleId → Bool) → ModuleId → ReExportAll → Bool
  leads_to t x e = holds (λ y. t (stands p y)) (target p x e.specifier)

  -- x offers f through at most so many export-alls, one after another. `default` goes through none
  unfoldable pub offers_within : ℕ → ModuleId → Bool
  offers_within zero x = exports p x f
  offers_within (suc k) x = exports p x f || (not (f.0 == 0) && some_passes (leads_to (offers_within k) x) (star_entries p x))

  -- x offers f: through at most as many export-alls as there are modules
  abbrev pub offers? : ModuleId → Bool
  offers? x = offers_within (length p.modules) x

  -- the place of the first export-all of x that passes f on
  abbrev pub first_offer : ModuleId → Option ℕ
  first_offer x = cond (f.0 == 0) None (first_place (leads_to offers? x) (star_entries p x))
