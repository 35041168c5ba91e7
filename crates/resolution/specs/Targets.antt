-- Where a specifier leads, and which module stands for another. Assumes nothing.
use Rattle.std.specs.Prelude.{ℕ, zero, suc, Bool, true, false, cond, ◌||◌, List, [], ◌∷◌, Some, None, Option, ◌==◌}
use Rattle.std.specs.Option.{option_and_then}
use Rattle.ids.specs.declared.numbers.ModuleId.{ModuleId}
use Rattle.ids.specs.declared.numbers.NameId.{NameId}
use Rattle.ids.specs.declared.numbers.SymbolId.{SymbolId}
use Rattle.host.specs.Lookups.{within, module_at, re_export_all_at, symbol_at}
use Rattle.host.specs.Program.{Module, Program}
use Rattle.host.specs.declared.told.Dependency.{Dependency}
use Rattle.host.specs.declared.told.Export.{Export}
use Rattle.host.specs.declared.told.ModuleKind.{ModuleKind}
use Rattle.host.specs.declared.told.ModuleKind.TheVariants.{Missing, Typed, Untyped, Json, Wasm, External}

abbrev pub kind_of : Option Module → ModuleKind
kind_of None = Missing
kind_of (Some m) = m.kind

abbrev pub types_of : Option Module → Option ModuleId
types_of None = None
types_of (Some m) = m.types

abbrev pub is_missing : ModuleKind → Bool
is_missing Missing = true
is_missing Typed = false
is_missing Untyped = false
is_missing Json = false
is_missing Wasm = false
is_missing External = false

-- a module that has an inside: neither missing nor external
abbrev pub is_inside : ModuleKind → Bool
is_inside Missing = false
is_inside Typed = true
is_inside Untyped = true
is_inside Json = true
is_inside Wasm = true
is_inside External = false

-- the module that a specifier aims at: none where the module lacks the specifier, or it aims nowhere
abbrev pub aim : List Dependency → NameId → Option ModuleId
aim [] n = None
aim (d ∷ ds) n = cond (d.specifier.0 == n.0) d.target (aim ds n)

-- f of what is there, and else m
abbrev pub onward : {X : Type 0} → (X → X) → X → Option X → X
onward f m None = m
onward f m (Some t) = f t

module _ (p : Program) where
  -- c, or the module that has its types, unless that one is missing
  abbrev pub with_types : ModuleId → Option ModuleId → ModuleId
  with_types c None = c
  with_types c (Some t) = cond (is_missing (kind_of (module_at p t))) c t

  -- where an aim leads: nowhere if it is missing
  abbrev pub led : Option ModuleId → Option ModuleId
  led None = None
  led (Some c) = cond (is_missing (kind_of (module_at p c))) None (Some (with_types c (types_of (module_at p c))))

  -- the target of a specifier that a module uses
  abbrev pub target : ModuleId → NameId → Option ModuleId
  target m n = led (aim (within (λ x. x.dependencies) (module_at p m)) n)

  -- the target of the export-all at a place of a module
  abbrev pub re_export_target : ModuleId → ℕ → Option ModuleId
  re_export_target m i = option_and_then (λ e. target m e.specifier) (re_export_all_at p m i)

  -- the module that has the types of m, unless it is missing or external
  abbrev pub entered : Option ModuleId → Option ModuleId
  entered None = None
  entered (Some t) = cond (is_inside (kind_of (module_at p t))) (Some t) None

  -- from a module to the one that has its types, so many times at the most
  unfoldable pub standing : ℕ → ModuleId → ModuleId
  standing zero m = m
  standing (suc n) m = onward (standing n) m (entered (types_of (module_at p m)))

-- the most such steps
abbrev pub types_steps : ℕ
types_steps = 8

-- the module that stands for m
abbrev pub stands : Program → ModuleId → ModuleId
stands p m = standing p types_steps m

-- the names that a symbol exports
abbrev pub has_export : List Export → NameId → Bool
has_export [] f = false
has_export (e ∷ es) f = e.name.0 == f.0 || has_export es f

-- the symbol of the module itself
abbrev pub module_symbol : SymbolId
module_symbol = record { 0 = 0 }

-- whether a module itself exports a name
abbrev pub exports : Program → ModuleId → NameId → Bool
exports p m f = has_export (within (λ x. x.exports) (symbol_at p m module_symbol)) f
