-- An analysed program, as nested lists. A record's number is its place in its list. Assumes nothing.
use Rattle.std.specs.Prelude.{ℕ, List, length, Option}
use Rattle.std.specs.Option.{option_map}
use Rattle.ids.specs.declared.numbers.ModuleId.{ModuleId}
use Rattle.ids.specs.declared.numbers.NameId.{NameId}
use Rattle.ids.specs.declared.numbers.PackageId.{PackageId}
use Rattle.ids.specs.declared.numbers.SymbolId.{SymbolId}
use Rattle.ids.specs.declared.path_struct.Path.{Path}
use Rattle.host.specs.declared.node_kinds.NodeKind.{NodeKind}
use Rattle.host.specs.declared.told.Dependency.{Dependency}
use Rattle.host.specs.declared.told.Export.{Export}
use Rattle.host.specs.declared.told.FileDep.{FileDep}
use Rattle.host.specs.declared.told.ModuleInfo.{ModuleInfo}
use Rattle.host.specs.declared.told.ModuleKind.{ModuleKind}
use Rattle.host.specs.declared.told.PackageInfo.{PackageInfo}
use Rattle.host.specs.declared.told.ReExportAll.{ReExportAll}
use Rattle.host.specs.declared.told.SourceRange.{SourceRange}
use Rattle.host.specs.declared.told.SymbolDecl.{SymbolDecl}
use Rattle.host.specs.declared.told.SymbolDeclFlags.{SymbolDeclFlags}
use Rattle.host.specs.declared.told.SymbolDeclKind.{SymbolDeclKind}
use Rattle.host.specs.declared.told.SymbolDeclKind.TheVariants.{Target, QualifiedTarget, FileRef, Definition}
use Rattle.host.specs.declared.told.SymbolInfo.{SymbolInfo}
use Rattle.host.specs.declared.told.SymbolNodeDep.{SymbolNodeDep}

-- what a declaration is: an alias of a symbol, an alias of a path below one, something of another file,
-- or a definition with its references
pub data DeclKind : Type 0 where
  target : Option SymbolId → DeclKind
  qualified_target : Option SymbolId → Path → DeclKind
  file_ref : FileDep → DeclKind
  definition : NodeKind → List SymbolNodeDep → DeclKind

pub record Decl : Type 0 where
  pub range : SourceRange
  pub name : Option NameId
  pub flags : SymbolDeclFlags
  pub kind : DeclKind

pub record Symbol : Type 0 where
  pub parent : Option SymbolId
  pub decls : List Decl
  pub exports : List Export
  pub members : List SymbolId

pub record Module : Type 0 where
  pub kind : ModuleKind
  pub «package» : Option PackageId
  pub types : Option ModuleId
  pub dependencies : List Dependency
  pub re_export_alls : List ReExportAll
  pub symbols : List Symbol

-- a package has entry modules, or no export table
pub record Package : Type 0 where
  pub entries : Option (List ModuleId)

pub record Program : Type 0 where
  -- how many names there are
  pub names : ℕ
  pub packages : List Package
  pub modules : List Module

-- what a host tells of a record: itself, with the counts of the lists inside

abbrev pub told_kind : DeclKind → SymbolDeclKind
told_kind (target s) = Target s
told_kind (qualified_target s p) = QualifiedTarget s p
told_kind (file_ref f) = FileRef f
told_kind (definition k deps) = Definition k (length deps)

abbrev pub told_decl : Decl → SymbolDecl
told_decl d = record { range = d.range; name = d.name; flags = d.flags; kind = told_kind d.kind }

abbrev pub told_symbol : Symbol → SymbolInfo
told_symbol s = record { parent = s.parent; decls = length s.decls; exports = length s.exports; members = length s.members }

abbrev pub told_module : Module → ModuleInfo
told_module m = record {
  kind = m.kind;
  «package» = m.«package»;
  types = m.types;
  dependencies = length m.dependencies;
  re_export_alls = length m.re_export_alls;
  symbols = length m.symbols;
}

abbrev pub told_package : Package → PackageInfo
told_package p = record { entries = option_map length p.entries }
