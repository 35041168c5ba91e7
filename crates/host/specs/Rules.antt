-- The rules that the records of a program keep, one named field each. Assumes nothing.
use Rattle.std.specs.Prelude.{◌≡◌, ℕ, suc, ◌^◌, ◌<◌, ◌≤◌, Bool, true, false, not, ◌&&◌, List, [], ◌∷◌, map, length, IfSome, Some, None, Option, slice_index}
use Rattle.std.specs.List.{AllByRecursion, slice_get}
use Rattle.ids.specs.Paths.{names_of}
use Rattle.ids.specs.declared.numbers.ModuleId.{ModuleId}
use Rattle.ids.specs.declared.numbers.NameId.{NameId}
use Rattle.ids.specs.declared.numbers.PackageId.{PackageId}
use Rattle.ids.specs.declared.numbers.SymbolId.{SymbolId}
use Rattle.ids.specs.declared.path_struct.Path.{Path}
use Rattle.host.specs.Program.{DeclKind, target, qualified_target, file_ref, definition, Decl, Symbol, Module, Package, Program}
use Rattle.host.specs.declared.told.Dependency.{Dependency}
use Rattle.host.specs.declared.told.Export.{Export}
use Rattle.host.specs.declared.told.FileDepName.{FileDepName}
use Rattle.host.specs.declared.told.FileDepName.TheVariants.{Star, Name}
use Rattle.host.specs.declared.told.ModuleKind.{ModuleKind}
use Rattle.host.specs.declared.told.ModuleKind.TheVariants.{Missing, Typed, Untyped, Json, Wasm, External}
use Rattle.host.specs.declared.told.ReExportAll.{ReExportAll}
use Rattle.host.specs.declared.told.SourceRange.{SourceRange}
use Rattle.host.specs.declared.told.SymbolDeclFlags.{SymbolDeclFlags}
use Rattle.host.specs.declared.told.SymbolNodeDep.{SymbolNodeDep}
use Rattle.host.specs.declared.told.SymbolNodeDep.TheVariants.{Id, QualifiedId, ImportType}

-- the most of each

abbrev pub name_limit : ℕ
name_limit = 65535

abbrev pub package_limit : ℕ
package_limit = 256

abbrev pub module_limit : ℕ
module_limit = 1024

-- the most entries of any other list
abbrev pub list_limit : ℕ
list_limit = 4096

-- words

-- P holds of each element and its place, the first of which is i
abbrev pub AllAt : {X : Type 0} → (ℕ → X → Type 0) → ℕ → List X → Type 0
AllAt P i [] = Unit {0}
AllAt P i (x ∷ xs) = P i x × AllAt P (suc i) xs

-- no two of the numbers are equal
abbrev pub Distinct : List ℕ → Type 0
Distinct ns = (i j : ℕ) → i < length ns → j < length ns → slice_index ns i ≡ slice_index ns j → i ≡ j

-- names

abbrev pub NameKnown : ℕ → NameId → Type 0
NameKnown names n = n.0 < names

abbrev pub PathKnown : ℕ → Path → Type 0
PathKnown names p = AllByRecursion (NameKnown names) (names_of p)

-- a symbol of a module that has so many
abbrev pub SymbolKnown : ℕ → SymbolId → Type 0
SymbolKnown symbols s = s.0 < symbols

-- a range ends where it starts or later, and its offsets are below 2^32
pub record RangeKept (r : SourceRange) : Type 0 where
  pub forward : r.start ≤ r.end
  pub small : r.end < 2 ^ 32

-- references

abbrev pub DepKept : ℕ → ℕ → SymbolNodeDep → Type 0
DepKept names symbols (Id s n) = IfSome s (SymbolKnown symbols)
DepKept names symbols (QualifiedId s p) = IfSome s (SymbolKnown symbols) × PathKnown names p
DepKept names symbols (ImportType t p) = NameKnown names t × IfSome p (PathKnown names)

-- declarations

abbrev pub FileNameKnown : ℕ → FileDepName → Type 0
FileNameKnown names Star = Unit {0}
FileNameKnown names (Name n) = NameKnown names n

abbrev pub KindKept : ℕ → ℕ → DeclKind → Type 0
KindKept names symbols (target s) = IfSome s (SymbolKnown symbols)
KindKept names symbols (qualified_target s p) = IfSome s (SymbolKnown symbols) × PathKnown names p
KindKept names symbols (file_ref f) = NameKnown names f.specifier × FileNameKnown names f.name
KindKept names symbols (definition k deps) = (length deps ≤ list_limit) × AllByRecursion (DepKept names symbols) deps

abbrev pub is_definition : DeclKind → Bool
is_definition (target s) = false
is_definition (qualified_target s p) = false
is_definition (file_ref f) = false
is_definition (definition k deps) = true

-- no flag is set
abbrev pub unflagged : SymbolDeclFlags → Bool
unflagged f = not f.overloads && (not f.body && (not f.export && (not f.private && (not f.member && (not f.function && (not f.class && not f.scope))))))

pub record DeclKept (names symbols : ℕ) (d : Decl) : Type 0 where
  pub range_kept : RangeKept d.range
  pub name_known : IfSome d.name (NameKnown names)
  pub kind_kept : KindKept names symbols d.kind
  -- flags stand on definitions only
  pub flags_kept : is_definition d.kind ≡ false → unflagged d.flags ≡ true

-- symbols: i is the symbol's own number

abbrev pub ExportKnown : ℕ → ℕ → Export → Type 0
ExportKnown names symbols e = NameKnown names e.name × SymbolKnown symbols e.symbol

pub record SymbolKept (names symbols i : ℕ) (s : Symbol) : Type 0 where
  pub parent_lower : IfSome s.parent (λ p. p.0 < i)
  pub decls_some : 1 ≤ length s.decls
  pub decls_few : length s.decls ≤ list_limit
  pub decls_kept : AllByRecursion (DeclKept names symbols) s.decls
  pub exports_few : length s.exports ≤ list_limit
  pub exports_known : AllByRecursion (ExportKnown names symbols) s.exports
  pub exports_distinct : Distinct (map (λ e. e.name.0) s.exports)
  pub members_few : length s.members ≤ list_limit
  pub members_known : AllByRecursion (SymbolKnown symbols) s.members

-- modules

abbrev pub DependencyKept : ℕ → ℕ → Dependency → Type 0
DependencyKept names modules d = NameKnown names d.specifier × IfSome d.target (λ t. t.0 < modules)

abbrev pub ReExportAllKept : ℕ → ReExportAll → Type 0
ReExportAllKept names e = RangeKept e.range × NameKnown names e.specifier

-- a missing or external module has nothing inside; any other has at least the symbol of the module itself
abbrev pub ListsKept : ModuleKind → ℕ → ℕ → ℕ → Type 0
ListsKept Missing dependencies re_export_alls symbols = (dependencies ≡ 0) × ((re_export_alls ≡ 0) × (symbols ≡ 0))
ListsKept Typed dependencies re_export_alls symbols = 1 ≤ symbols
ListsKept Untyped dependencies re_export_alls symbols = 1 ≤ symbols
ListsKept Json dependencies re_export_alls symbols = 1 ≤ symbols
ListsKept Wasm dependencies re_export_alls symbols = 1 ≤ symbols
ListsKept External dependencies re_export_alls symbols = (dependencies ≡ 0) × ((re_export_alls ≡ 0) × (symbols ≡ 0))

abbrev pub is_typed : ModuleKind → Bool
is_typed Missing = false
is_typed Typed = true
is_typed Untyped = false
is_typed Json = false
is_typed Wasm = false
is_typed External = false

pub record ModuleKept (names packages modules : ℕ) (m : Module) : Type 0 where
  pub package_known : IfSome m.«package» (λ p. p.0 < packages)
  pub types_known : IfSome m.types (λ t. t.0 < modules)
  -- only a typed module has its types in another one
  pub types_of_typed : IfSome m.types (λ t. is_typed m.kind ≡ true)
  pub lists_kept : ListsKept m.kind (length m.dependencies) (length m.re_export_alls) (length m.symbols)
  pub dependencies_few : length m.dependencies ≤ list_limit
  pub dependencies_kept : AllByRecursion (DependencyKept names modules) m.dependencies
  pub dependencies_distinct : Distinct (map (λ d. d.specifier.0) m.dependencies)
  pub re_export_alls_few : length m.re_export_alls ≤ list_limit
  pub re_export_alls_kept : AllByRecursion (ReExportAllKept names) m.re_export_alls
  pub symbols_few : length m.symbols ≤ list_limit
  pub symbols_kept : AllAt (SymbolKept names (length m.symbols)) 0 m.symbols

-- packages: i is the package's own number

abbrev pub number_of : Option PackageId → Option ℕ
number_of None = None
number_of (Some p) = Some p.0

-- the number of the package that a module is of
abbrev pub owner_of : Option Module → Option ℕ
owner_of None = None
owner_of (Some m) = number_of m.«package»

-- an entry module is a module of its package
abbrev pub EntryKept : List Module → ℕ → ModuleId → Type 0
EntryKept modules i m = owner_of (slice_get modules m.0) ≡ Some i

abbrev pub EntriesKept : List Module → ℕ → List ModuleId → Type 0
EntriesKept modules i es = (length es ≤ list_limit) × AllByRecursion (EntryKept modules i) es

abbrev pub PackageKept : List Module → ℕ → Package → Type 0
PackageKept modules i p = IfSome p.entries (EntriesKept modules i)

-- the whole program

pub record Kept (p : Program) : Type 0 where
  -- name 0 is `default` and name 1 is `prototype`
  pub names_some : 2 ≤ p.names
  pub names_few : p.names ≤ name_limit
  pub packages_few : length p.packages ≤ package_limit
  pub modules_few : length p.modules ≤ module_limit
  pub packages_kept : AllAt (PackageKept p.modules) 0 p.packages
  pub modules_kept : AllByRecursion (ModuleKept p.names (length p.packages) (length p.modules)) p.modules
