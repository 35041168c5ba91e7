-- The rules of the records as tests that compute, field by field as in Rules.antt. Assumes nothing.
use Rattle.std.specs.Prelude.{ℕ, suc, ◌^◌, Bool, true, false, not, ◌&&◌, ◌||◌, List, [], ◌∷◌, map, length, Some, None, Option, ◌==◌, nat_le, nat_lt}
use Rattle.std.specs.List.{list_all, list_any, slice_get}
use Rattle.ids.specs.Paths.{names_of}
use Rattle.ids.specs.declared.numbers.ModuleId.{ModuleId}
use Rattle.ids.specs.declared.numbers.NameId.{NameId}
use Rattle.ids.specs.declared.numbers.SymbolId.{SymbolId}
use Rattle.ids.specs.declared.path_struct.Path.{Path}
use Rattle.host.specs.Program.{DeclKind, target, qualified_target, file_ref, definition, Decl, Symbol, Module, Package, Program}
use Rattle.host.specs.Rules.{name_limit, package_limit, module_limit, list_limit, is_definition, unflagged, is_typed, owner_of}
use Rattle.host.specs.declared.told.Dependency.{Dependency}
use Rattle.host.specs.declared.told.Export.{Export}
use Rattle.host.specs.declared.told.FileDepName.{FileDepName}
use Rattle.host.specs.declared.told.FileDepName.TheVariants.{Star, Name}
use Rattle.host.specs.declared.told.ModuleKind.{ModuleKind}
use Rattle.host.specs.declared.told.ModuleKind.TheVariants.{Missing, Typed, Untyped, Json, Wasm, External}
use Rattle.host.specs.declared.told.ReExportAll.{ReExportAll}
use Rattle.host.specs.declared.told.SourceRange.{SourceRange}
use Rattle.host.specs.declared.told.SymbolNodeDep.{SymbolNodeDep}
use Rattle.host.specs.declared.told.SymbolNodeDep.TheVariants.{Id, QualifiedId, ImportType}

abbrev pub all_at : {X : Type 0} → (ℕ → X → Bool) → ℕ → List X → Bool
all_at t i [] = true
all_at t i (x ∷ xs) = t i x && all_at t (suc i) xs

-- the test of what is there
abbrev pub held : {X : Type 0} → Option X → (X → Bool) → Bool
held None t = true
held (Some x) t = t x

abbrev pub among : ℕ → List ℕ → Bool
among n ns = list_any (λ m. n == m) ns

abbrev pub distinct : List ℕ → Bool
distinct [] = true
distinct (n ∷ ns) = not (among n ns) && distinct ns

abbrev pub name_known : ℕ → NameId → Bool
name_known names n = nat_lt n.0 names

abbrev pub path_known : ℕ → Path → Bool
path_known names p = list_all (name_known names) (names_of p)

abbrev pub symbol_known : ℕ → SymbolId → Bool
symbol_known symbols s = nat_lt s.0 symbols

abbrev pub range_kept : SourceRange → Bool
range_kept r = nat_le r.start r.end && nat_lt r.end (2 ^ 32)

abbrev pub dep_kept : ℕ → ℕ → SymbolNodeDep → Bool
dep_kept names symbols (Id s n) = held s (symbol_known symbols)
dep_kept names symbols (QualifiedId s p) = held s (symbol_known symbols) && path_known names p
dep_kept names symbols (ImportType t p) = name_known names t && held p (path_known names)

abbrev pub file_name_known : ℕ → FileDepName → Bool
file_name_known names Star = true
file_name_known names (Name n) = name_known names n

abbrev pub kind_kept : ℕ → ℕ → DeclKind → Bool
kind_kept names symbols (target s) = held s (symbol_known symbols)
kind_kept names symbols (qualified_target s p) = held s (symbol_known symbols) && path_known names p
kind_kept names symbols (file_ref f) = name_known names f.specifier && file_name_known names f.name
kind_kept names symbols (definition k deps) = nat_le (length deps) list_limit && list_all (dep_kept names symbols) deps

abbrev pub decl_kept : ℕ → ℕ → Decl → Bool
decl_kept names symbols d =
    range_kept d.range && (held d.name (name_known names) && (kind_kept names symbols d.kind && (is_definition d.kind || unflagged d.flags)))

abbrev pub export_known : ℕ → ℕ → Export → Bool
export_known names symbols e = name_known names e.name && symbol_known symbols e.symbol

abbrev pub symbol_kept : ℕ → ℕ → ℕ → Symbol → Bool
symbol_kept names symbols i s =
    held s.parent (λ p. nat_lt p.0 i) && (nat_le 1 (length s.decls) && (nat_le (length s.decls) list_limit && (list_all (decl_kept names symbols) s.decls && (nat_le (length s.exports) list_limit && (list_all (export_known names symbols) s.exports && (distinct (map (λ e. e.name.0) s.exports) && (nat_le (length s.members) list_limit && list_all (symbol_known symbols) s.members)))))))

abbrev pub dependency_kept : ℕ → ℕ → Dependency → Bool
dependency_kept names modules d = name_known names d.specifier && held d.target (λ t. nat_lt t.0 modules)

abbrev pub re_export_all_kept : ℕ → ReExportAll → Bool
re_export_all_kept names e = range_kept e.range && name_known names e.specifier

abbrev pub lists_kept : ModuleKind → ℕ → ℕ → ℕ → Bool
lists_kept Missing dependencies re_export_alls symbols = dependencies == 0 && (re_export_alls == 0 && symbols == 0)
lists_kept Typed dependencies re_export_alls symbols = nat_le 1 symbols
lists_kept Untyped dependencies re_export_alls symbols = nat_le 1 symbols
lists_kept Json dependencies re_export_alls symbols = nat_le 1 symbols
lists_kept Wasm dependencies re_export_alls symbols = nat_le 1 symbols
lists_kept External dependencies re_export_alls symbols = dependencies == 0 && (re_export_alls == 0 && symbols == 0)

abbrev pub module_kept : ℕ → ℕ → ℕ → Module → Bool
module_kept names packages modules m =
    held m.«package» (λ p. nat_lt p.0 packages) && (held m.types (λ t. nat_lt t.0 modules) && (held m.types (λ t. is_typed m.kind) && (lists_kept m.kind (length m.dependencies) (length m.re_export_alls) (length m.symbols) && (nat_le (length m.dependencies) list_limit && (list_all (dependency_kept names modules) m.dependencies && (distinct (map (λ d. d.specifier.0) m.dependencies) && (nat_le (length m.re_export_alls) list_limit && (list_all (re_export_all_kept names) m.re_export_alls && (nat_le (length m.symbols) list_limit && all_at (symbol_kept names (length m.symbols)) 0 m.symbols)))))))))

abbrev pub is_number : ℕ → Option ℕ → Bool
is_number i None = false
is_number i (Some n) = n == i

abbrev pub entry_kept : List Module → ℕ → ModuleId → Bool
entry_kept modules i m = is_number i (owner_of (slice_get modules m.0))

abbrev pub entries_kept : List Module → ℕ → List ModuleId → Bool
entries_kept modules i es = nat_le (length es) list_limit && list_all (entry_kept modules i) es

abbrev pub package_kept : List Module → ℕ → Package → Bool
package_kept modules i p = held p.entries (entries_kept modules i)

-- whether a program keeps the rules
unfoldable pub valid : Program → Bool
valid p =
    nat_le 2 p.names && (nat_le p.names name_limit && (nat_le (length p.packages) package_limit && (nat_le (length p.modules) module_limit && (all_at (package_kept p.modules) 0 p.packages && list_all (module_kept p.names (length p.packages) (length p.modules)) p.modules))))
