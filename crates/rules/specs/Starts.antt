-- What the start of a trace gives, in the order in which it is met. Assumes nothing.
use Rattle.std.specs.Prelude.{ℕ, Bool, true, false, not, ◌&&◌, List, [], ◌∷◌, ◌++◌, Some, None, Option, ◌==◌}
use Rattle.std.specs.List.{slice_get, flat_map}
use Rattle.ids.specs.Paths.{names_of}
use Rattle.ids.specs.declared.numbers.ModuleId.{ModuleId}
use Rattle.ids.specs.declared.numbers.NameId.{NameId}
use Rattle.ids.specs.declared.numbers.PackageId.{PackageId}
use Rattle.ids.specs.declared.numbers.SymbolId.{SymbolId}
use Rattle.host.specs.Lookups.{within, module_at}
use Rattle.host.specs.Program.{Program}
use Rattle.host.specs.declared.told.Export.{Export}
use Rattle.host.specs.declared.told.ModuleKind.{ModuleKind}
use Rattle.host.specs.declared.told.ModuleKind.TheVariants.{Missing, Typed, Untyped, Json, Wasm, External}
use Rattle.host.specs.declared.told.ReExportAll.{ReExportAll}
use Rattle.joining.specs.Joining as joining
use Rattle.resolution.specs.Targets as targets
use Rattle.offering.specs.Computed.{first_offer}
use Rattle.offering.specs.ExportedNames.{star_entries}
use Rattle.rules.specs.Facts.{below, path, star, Outcome, reached, found, reported, requested, package_requested}
use Rattle.rules.specs.Lists.{when, given, asks, Trace, package_of, symbol_of, export_named}
use Rattle.rules.specs.Symbols.{exported_namespaces, same_package}
use Rattle.rules.specs.declared.facts.DiagnosticKind.TheVariants.{UnsupportedNestedJavaScript}

module _ (t : Trace) where
  -- the exports of the module
  abbrev pub module_exports : List Export
  module_exports = within (λ x. x.exports) (symbol_of t targets.module_symbol)

  abbrev pub module_alls : List ReExportAll
  module_alls = star_entries t.program t.at

  -- an export is asked by the module in its exported namespaces
  abbrev pub export_asked : SymbolId → List Outcome
  export_asked s = given (λ x. asks s targets.module_symbol (exported_namespaces x)) (symbol_of t s)

  -- star or full: each export, but `default` under star

  abbrev pub star_export : Bool → Export → List Outcome
  star_export with_default e = when (not (not with_default && e.name.0 == 0)) (export_asked e.symbol)

  -- a target with a package is asked for star, and another package is asked for
  abbrev pub star_into : ModuleId → PackageId → List Outcome
  star_into y g = requested y star ∷ when (not (same_package t.owner g)) (package_requested g ∷ [])

  abbrev pub star_all : ReExportAll → List Outcome
  star_all e = found e.range ∷ given (λ y. given (star_into y) (package_of t.program y)) (targets.target t.program t.at e.specifier)

  abbrev pub star_gives : Bool → List Outcome
  star_gives with_default = flat_map (star_export with_default) module_exports ++ flat_map star_all module_alls

  -- a path: its first name is exported, or the first export-all that offers it is found, or all are

  abbrev pub path_exported : List NameId → SymbolId → List Outcome
  path_exported [] s = export_asked s
  path_exported (g ∷ rest) s = reached (below s targets.module_symbol (g ∷ rest)) ∷ []

  abbrev pub path_into : List NameId → ModuleId → List Outcome
  path_into ns y = given (λ g. requested y (path ns) ∷ []) (package_of t.program y)

  abbrev pub path_offered : List NameId → ReExportAll → List Outcome
  path_offered ns e = found e.range ∷ given (λ y. path_into ns (targets.stands t.program y)) (targets.target t.program t.at e.specifier)

  abbrev pub path_passed : List NameId → Option ℕ → List Outcome
  path_passed ns None = flat_map (λ e. found e.range ∷ []) module_alls
  path_passed ns (Some i) = given (path_offered ns) (slice_get module_alls i)

  abbrev pub path_begun : List NameId → NameId → List NameId → Option SymbolId → List Outcome
  path_begun ns f rest (Some s) = path_exported rest s
  path_begun ns f rest None = path_passed ns (first_offer t.program f t.at)

  abbrev pub path_gives : List NameId → List Outcome
  path_gives [] = []
  path_gives (f ∷ rest) = path_begun (f ∷ rest) f rest (export_named t module_exports f)

  abbrev pub record_gives : joining.Record → List Outcome
  record_gives joining.star = star_gives false
  record_gives joining.full = star_gives true
  record_gives (joining.kept ps) = flat_map (λ q. path_gives (names_of q)) ps

-- where the trace of a module runs
abbrev pub trace_of : Program → ModuleId → Trace
trace_of p m = record { program = p; owner = package_of p m; at = targets.stands p m }

-- a missing or external module gives nothing, an untyped one a diagnostic
abbrev pub kind_starts : ModuleKind → List Outcome → List Outcome
kind_starts Missing os = []
kind_starts Typed os = os
kind_starts Untyped os = reported UnsupportedNestedJavaScript targets.module_symbol targets.module_symbol [] ∷ []
kind_starts Json os = os
kind_starts Wasm os = os
kind_starts External os = []

-- what the start of a trace gives: a module with what is asked of it
unfoldable pub starts : Program → ModuleId → joining.Record → List Outcome
starts p m r = kind_starts (targets.kind_of (module_at p m)) (record_gives (trace_of p m) r)
