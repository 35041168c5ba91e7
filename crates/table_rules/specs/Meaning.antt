-- The analysed program that tables tell: lists in place of vectors, and nothing else changed. Assumes nothing.
use Rattle.std.specs.Prelude.{map, vec_items}
use Rattle.std.specs.Option.{option_map}
use Rattle.host.specs.Program.{DeclKind, target, qualified_target, file_ref, definition, Decl, Symbol, Module, Package, Program}
use Rattle.table_rules.specs.declared.program_table.DeclKindTable.{DeclKindTable}
use Rattle.table_rules.specs.declared.program_table.DeclKindTable.TheVariants.{Target, QualifiedTarget, FileRef, Definition}
use Rattle.table_rules.specs.declared.program_table.DeclTable.{DeclTable}
use Rattle.table_rules.specs.declared.program_table.ModuleTable.{ModuleTable}
use Rattle.table_rules.specs.declared.program_table.PackageTable.{PackageTable}
use Rattle.table_rules.specs.declared.program_table.ProgramTable.{ProgramTable}
use Rattle.table_rules.specs.declared.program_table.SymbolTable.{SymbolTable}

abbrev pub kind_of : DeclKindTable → DeclKind
kind_of (Target s) = target s
kind_of (QualifiedTarget s p) = qualified_target s p
kind_of (FileRef f) = file_ref f
kind_of (Definition k deps) = definition k (vec_items deps)

abbrev pub decl_of : DeclTable → Decl
decl_of d = record { range = d.range; name = d.name; flags = d.flags; kind = kind_of d.kind }

abbrev pub symbol_of : SymbolTable → Symbol
symbol_of s = record {
  parent = s.parent;
  decls = map decl_of (vec_items s.decls);
  exports = vec_items s.exports;
  members = vec_items s.members;
}

abbrev pub module_of : ModuleTable → Module
module_of m = record {
  kind = m.kind;
  «package» = m.«package»;
  types = m.types;
  dependencies = vec_items m.dependencies;
  re_export_alls = vec_items m.re_export_alls;
  symbols = map symbol_of (vec_items m.symbols);
}

abbrev pub package_of : PackageTable → Package
package_of p = record { entries = option_map vec_items p.entries }

abbrev pub program_of : ProgramTable → Program
program_of t = record {
  names = t.names;
  packages = map package_of (vec_items t.packages);
  modules = map module_of (vec_items t.modules);
}
