-- The record of a number, and none past the last. Assumes nothing.
use Rattle.std.specs.Prelude.{ℕ, List, [], Some, None, Option}
use Rattle.std.specs.List.{slice_get}
use Rattle.ids.specs.declared.numbers.ModuleId.{ModuleId}
use Rattle.ids.specs.declared.numbers.PackageId.{PackageId}
use Rattle.ids.specs.declared.numbers.SymbolId.{SymbolId}
use Rattle.host.specs.Program.{DeclKind, target, qualified_target, file_ref, definition, Decl, Symbol, Module, Package, Program}
use Rattle.host.specs.declared.told.Dependency.{Dependency}
use Rattle.host.specs.declared.told.Export.{Export}
use Rattle.host.specs.declared.told.ReExportAll.{ReExportAll}
use Rattle.host.specs.declared.told.SymbolNodeDep.{SymbolNodeDep}

-- a list inside a record that may not be there

abbrev pub within : {X Y : Type 0} → (X → List Y) → Option X → List Y
within f None = []
within f (Some x) = f x

abbrev pub entries_of : Package → List ModuleId
entries_of p = within (λ es. es) p.entries

abbrev pub deps_in : DeclKind → List SymbolNodeDep
deps_in (target s) = []
deps_in (qualified_target s p) = []
deps_in (file_ref f) = []
deps_in (definition k deps) = deps

abbrev pub deps_of : Decl → List SymbolNodeDep
deps_of d = deps_in d.kind

module _ (p : Program) where
  abbrev pub package_at : PackageId → Option Package
  package_at g = slice_get p.packages g.0

  abbrev pub entry_at : PackageId → ℕ → Option ModuleId
  entry_at g i = slice_get (within entries_of (package_at g)) i

  abbrev pub module_at : ModuleId → Option Module
  module_at m = slice_get p.modules m.0

  abbrev pub dependency_at : ModuleId → ℕ → Option Dependency
  dependency_at m i = slice_get (within (λ x. x.dependencies) (module_at m)) i

  abbrev pub re_export_all_at : ModuleId → ℕ → Option ReExportAll
  re_export_all_at m i = slice_get (within (λ x. x.re_export_alls) (module_at m)) i

  abbrev pub symbol_at : ModuleId → SymbolId → Option Symbol
  symbol_at m s = slice_get (within (λ x. x.symbols) (module_at m)) s.0

  abbrev pub export_at : ModuleId → SymbolId → ℕ → Option Export
  export_at m s i = slice_get (within (λ x. x.exports) (symbol_at m s)) i

  abbrev pub member_at : ModuleId → SymbolId → ℕ → Option SymbolId
  member_at m s i = slice_get (within (λ x. x.members) (symbol_at m s)) i

  abbrev pub decl_at : ModuleId → SymbolId → ℕ → Option Decl
  decl_at m s i = slice_get (within (λ x. x.decls) (symbol_at m s)) i

  abbrev pub dep_at : ModuleId → SymbolId → ℕ → ℕ → Option SymbolNodeDep
  dep_at m s d i = slice_get (within deps_of (decl_at m s d)) i
