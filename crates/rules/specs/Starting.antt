-- The start of a trace as a relation, and what is reached from it. Assumes nothing.
use Rattle.std.specs.Prelude.{◌≡◌, ℕ, Bool, true, false, List, [], ◌∷◌, Some, None, ◌≢◌}
use Rattle.std.specs.List.{slice_get}
use Rattle.ids.specs.Paths.{names_of}
use Rattle.ids.specs.declared.numbers.ModuleId.{ModuleId}
use Rattle.ids.specs.declared.numbers.NameId.{NameId}
use Rattle.ids.specs.declared.numbers.PackageId.{PackageId}
use Rattle.ids.specs.declared.numbers.SymbolId.{SymbolId}
use Rattle.ids.specs.declared.path_struct.Path.{Path}
use Rattle.host.specs.Lookups.{module_at}
use Rattle.host.specs.Program.{Symbol, Program}
use Rattle.host.specs.declared.told.Export.{Export}
use Rattle.host.specs.declared.told.ModuleKind.{ModuleKind}
use Rattle.host.specs.declared.told.ModuleKind.TheVariants.{Missing, Typed, Untyped, Json, Wasm, External}
use Rattle.host.specs.declared.told.ReExportAll.{ReExportAll}
use Rattle.joining.specs.Joining as joining
use Rattle.resolution.specs.Targets as targets
use Rattle.offering.specs.Offers.{First}
use Rattle.rules.specs.Facts.{Fact, ask, below, path, star, Outcome, reached, found, reported, requested, package_requested}
use Rattle.rules.specs.Lists.{Trace, package_of, symbol_of, export_named}
use Rattle.rules.specs.Rules.{Among, Gives}
use Rattle.rules.specs.Starts.{module_exports, module_alls, trace_of}
use Rattle.rules.specs.Symbols.{includes, exported_namespaces, same_package}
use Rattle.rules.specs.declared.facts.DiagnosticKind.TheVariants.{UnsupportedNestedJavaScript}
use Rattle.rules.specs.declared.facts.Namespace.{Namespace}

module _ (t : Trace) where
  -- the symbol of an export, in one of its exported namespaces
  pub record Exported (s : SymbolId) (n : Namespace) : Type 0 where
    pub symbol : Symbol
    pub there : symbol_of t s ≡ Some symbol
    pub exported : includes (exported_namespaces symbol) n ≡ true

  -- an export-all of the module leads to y
  abbrev pub LeadsTo : ReExportAll → ModuleId → Type 0
  LeadsTo e y = targets.target t.program t.at e.specifier ≡ Some y

  -- star, and full where with_default holds
  pub data StarGives (with_default : Bool) : Outcome → Type 0 where
    star_export : {e : Export} {n : Namespace} → Among (module_exports t) e → (with_default ≡ false → e.name.0 ≢ 0) → Exported e.symbol n → StarGives with_default (reached (ask e.symbol targets.module_symbol n))
    star_range : {e : ReExportAll} → Among (module_alls t) e → StarGives with_default (found e.range)
    star_request : {e : ReExportAll} {y : ModuleId} {g : PackageId} → Among (module_alls t) e → LeadsTo e y → package_of t.program y ≡ Some g → StarGives with_default (requested y star)
    star_package : {e : ReExportAll} {y : ModuleId} {g : PackageId} → Among (module_alls t) e → LeadsTo e y → package_of t.program y ≡ Some g → same_package t.owner g ≡ false → StarGives with_default (package_requested g)

  pub data PathGives : List NameId → Outcome → Type 0 where
    -- its first name is exported
    path_export : {f : NameId} {s : SymbolId} {n : Namespace} → export_named t (module_exports t) f ≡ Some s → Exported s n → PathGives (f ∷ []) (reached (ask s targets.module_symbol n))
    path_below : {f g : NameId} {rest : List NameId} {s : SymbolId} → export_named t (module_exports t) f ≡ Some s → PathGives (f ∷ g ∷ rest) (reached (below s targets.module_symbol (g ∷ rest)))
    -- it is not, and comes through the first export-all that offers it
    path_range : {f : NameId} {rest : List NameId} (i : ℕ) {e : ReExportAll} → export_named t (module_exports t) f ≡ None → First t.program f t.at (Some i) → slice_get (module_alls t) i ≡ Some e → PathGives (f ∷ rest) (found e.range)
    path_request : {f : NameId} {rest : List NameId} (i : ℕ) {e : ReExportAll} {y : ModuleId} {g : PackageId} → export_named t (module_exports t) f ≡ None → First t.program f t.at (Some i) → slice_get (module_alls t) i ≡ Some e → LeadsTo e y → package_of t.program (targets.stands t.program y) ≡ Some g → PathGives (f ∷ rest) (requested (targets.stands t.program y) (path (f ∷ rest)))
    -- or no export-all offers it
    path_nowhere : {f : NameId} {rest : List NameId} {e : ReExportAll} → export_named t (module_exports t) f ≡ None → First t.program f t.at None → Among (module_alls t) e → PathGives (f ∷ rest) (found e.range)

  pub data RecordGives : joining.Record → Outcome → Type 0 where
    of_star : {o : Outcome} → StarGives false o → RecordGives joining.star o
    of_full : {o : Outcome} → StarGives true o → RecordGives joining.full o
    of_path : {ps : List Path} {q : Path} {o : Outcome} → Among ps q → PathGives (names_of q) o → RecordGives (joining.kept ps) o

-- a module that a trace looks into: neither missing, nor external, nor untyped
abbrev pub is_traced : ModuleKind → Bool
is_traced Missing = false
is_traced Typed = true
is_traced Untyped = false
is_traced Json = true
is_traced Wasm = true
is_traced External = false

abbrev pub is_untyped : ModuleKind → Bool
is_untyped Missing = false
is_untyped Typed = false
is_untyped Untyped = true
is_untyped Json = false
is_untyped Wasm = false
is_untyped External = false

-- what the start of a trace gives
pub data Starts (p : Program) (m : ModuleId) (r : joining.Record) : Outcome → Type 0 where
  untyped : is_untyped (targets.kind_of (module_at p m)) ≡ true → Starts p m r (reported UnsupportedNestedJavaScript targets.module_symbol targets.module_symbol [])
  traced : {o : Outcome} → is_traced (targets.kind_of (module_at p m)) ≡ true → RecordGives (trace_of p m) r o → Starts p m r o

-- what is reached from a trace: what the start gives, and what each reached fact gives
pub data Reached (p : Program) (m : ModuleId) (r : joining.Record) : Outcome → Type 0 where
  at_start : {o : Outcome} → Starts p m r o → Reached p m r o
  by_fact : {f : Fact} {o : Outcome} → Reached p m r (reached f) → Gives (trace_of p m) f o → Reached p m r o
