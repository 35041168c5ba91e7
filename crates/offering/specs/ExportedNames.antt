-- GetExportedNames of ECMA-262, of source text modules, over the records. Assumes nothing.
-- The local and indirect export entries of a module are the exports of its symbol 0; its star export entries are its export-alls;
-- the module that an entry requests is the one that stands for the target of its specifier. An entry that leads nowhere brings nothing.
use Rattle.std.specs.Prelude.{◌≡◌, Bool, true, false, cond, ◌||◌, List, [], ◌∷◌, ◌++◌, map, Some, None, ◌==◌}
use Rattle.ids.specs.declared.numbers.ModuleId.{ModuleId}
use Rattle.ids.specs.declared.numbers.NameId.{NameId}
use Rattle.host.specs.Lookups.{within, module_at, symbol_at}
use Rattle.host.specs.Program.{Program}
use Rattle.host.specs.declared.told.ReExportAll.{ReExportAll}
use Rattle.resolution.specs.Targets.{target, stands, module_symbol}

-- a module is in a set
abbrev pub contains : List ModuleId → ModuleId → Bool
contains [] x = false
contains (y ∷ set) x = y.0 == x.0 || contains set x

-- a name is in a list
abbrev pub has_name : List NameId → NameId → Bool
has_name [] f = false
has_name (n ∷ names) f = n.0 == f.0 || has_name names f

-- the export names of the local and indirect export entries of a module
abbrev pub own_names : Program → ModuleId → List NameId
own_names p x = map (λ e. e.name) (within (λ s. s.exports) (symbol_at p x module_symbol))

-- the star export entries of a module
abbrev pub star_entries : Program → ModuleId → List ReExportAll
star_entries p x = within (λ m. m.re_export_alls) (module_at p x)

-- a name is appended unless it is `default` or is there
abbrev pub with_new : List NameId → NameId → List NameId
with_new names n = cond (n.0 == 0 || has_name names n) names (names ++ n ∷ [])

-- each of the names that an entry brings, in their order
abbrev pub with_star_names : List NameId → List NameId → List NameId
with_star_names names [] = names
with_star_names names (n ∷ ns) = with_star_names (with_new names n) ns

mutual
  -- GetExportedNames of a module, called with an export star set, returns names and leaves the set as `after`
  pub data GetExportedNames (p : Program) : List ModuleId → ModuleId → List NameId → List ModuleId → Type 0 where
    -- the module is in the set: export-alls have come round
    circular : {set : List ModuleId} {x : ModuleId} → contains set x ≡ true → GetExportedNames p set x [] set
    -- the module goes into the set; its own names, and then what its star export entries bring
    collected : {set : List ModuleId} {x : ModuleId} {names : List NameId} {after : List ModuleId} → contains set x ≡ false → StarNames p x (star_entries p x) (set ++ x ∷ []) (own_names p x) names after → GetExportedNames p set x names after

  -- star export entries of a module, one after another, make of names so far the names at last
  pub data StarNames (p : Program) : ModuleId → List ReExportAll → List ModuleId → List NameId → List NameId → List ModuleId → Type 0 where
    over : {x : ModuleId} {set : List ModuleId} {names : List NameId} → StarNames p x [] set names names set
    lost : {x : ModuleId} {e : ReExportAll} {es : List ReExportAll} {set : List ModuleId} {so_far names : List NameId} {after : List ModuleId} → target p x e.specifier ≡ None → StarNames p x es set so_far names after → StarNames p x (e ∷ es) set so_far names after
    brought : {x y : ModuleId} {e : ReExportAll} {es : List ReExportAll} {set between after : List ModuleId} {so_far star_names names : List NameId} → target p x e.specifier ≡ Some y → GetExportedNames p set (stands p y) star_names between → StarNames p x es between (with_star_names so_far star_names) names after → StarNames p x (e ∷ es) set so_far names after

-- GetExportedNames of a module, called with no export star set, ends, and has f exactly where b says so
pub record Standard (p : Program) (x : ModuleId) (f : NameId) (b : Bool) : Type 0 where
  pub ends : (names : List NameId) × (after : List ModuleId) × GetExportedNames p [] x names after
  pub has : (names : List NameId) (after : List ModuleId) → GetExportedNames p [] x names after → b ≡ has_name names f
