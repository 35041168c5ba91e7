-- The kinds of modules and of nodes by number, and what is a value, a type or both. Assumes nothing.
use Rattle.std.specs.Prelude.{ℕ, Bool, true, false, not, List, [], ◌∷◌}
use Rattle.host.specs.Tests.{among}
use Rattle.host.specs.declared.node_kinds.NodeKind.{NodeKind}
use Rattle.host.specs.declared.node_kinds.NodeKind.TheVariants.{Module, ExportDefaultExpr, ClassDecl, FnDecl, TsEnum, TsInterface, TsNamespace, TsTypeAlias, Var, UsingVar, AutoAccessor, ClassMethod, ClassProp, ClassParamProp, Constructor, ExpandoProperty, TsIndexSignature, TsCallSignatureDecl, TsConstructSignatureDecl, TsPropertySignature, TsGetterSignature, TsSetterSignature, TsMethodSignature, ExportClass, ExportFn, ExportVar, ExportTsEnum, ExportTsInterface, ExportTsModule, ExportTsTypeAlias, DefaultFn, DefaultTsInterface, DefaultClass}
use Rattle.host.specs.declared.told.ModuleKind.{ModuleKind}
use Rattle.host.specs.declared.told.ModuleKind.TheVariants.{Missing, Typed, Untyped, Json, Wasm, External}
use Rattle.host.specs.declared.told.ReferenceNamespace.{ReferenceNamespace}
use Rattle.host.specs.declared.told.ReferenceNamespace.TheVariants.{Value, «Type», Both}
use Rattle.host.specs.declared.told.SymbolDeclKind.{SymbolDeclKind}
use Rattle.host.specs.declared.told.SymbolDeclKind.TheVariants.{Target, QualifiedTarget, FileRef, Definition}

abbrev pub number : NodeKind → ℕ
number Module = 0
number ExportDefaultExpr = 1
number ClassDecl = 2
number FnDecl = 3
number TsEnum = 4
number TsInterface = 5
number TsNamespace = 6
number TsTypeAlias = 7
number Var = 8
number UsingVar = 9
number AutoAccessor = 10
number ClassMethod = 11
number ClassProp = 12
number ClassParamProp = 13
number Constructor = 14
number ExpandoProperty = 15
number TsIndexSignature = 16
number TsCallSignatureDecl = 17
number TsConstructSignatureDecl = 18
number TsPropertySignature = 19
number TsGetterSignature = 20
number TsSetterSignature = 21
number TsMethodSignature = 22
number ExportClass = 23
number ExportFn = 24
number ExportVar = 25
number ExportTsEnum = 26
number ExportTsInterface = 27
number ExportTsModule = 28
number ExportTsTypeAlias = 29
number DefaultFn = 30
number DefaultTsInterface = 31
number DefaultClass = 32

-- the kinds that are values alone: a default expression, a function, a variable, an expando property
abbrev pub values : List ℕ
values = 1 ∷ 3 ∷ 8 ∷ 9 ∷ 15 ∷ 24 ∷ 25 ∷ 30 ∷ []

-- the kinds that are types alone: an interface, a type alias
abbrev pub types : List ℕ
types = 5 ∷ 7 ∷ 27 ∷ 29 ∷ 31 ∷ []

-- whether a kind is a value, and whether it is a type: every other kind is both
abbrev pub namespaces : ℕ → Bool × Bool
namespaces n = (not (among n types), not (among n values))

-- a definition is what its kind of node is; any other declaration is both
abbrev pub decl_namespaces : SymbolDeclKind → Bool × Bool
decl_namespaces (Target s) = (true, true)
decl_namespaces (QualifiedTarget s p) = (true, true)
decl_namespaces (FileRef f) = (true, true)
decl_namespaces (Definition k deps) = namespaces (number k)

-- as what an id is referred to
abbrev pub referred : ReferenceNamespace → Bool × Bool
referred Value = (true, false)
referred «Type» = (false, true)
referred Both = (true, true)

abbrev pub module_kind_number : ModuleKind → ℕ
module_kind_number Missing = 0
module_kind_number Typed = 1
module_kind_number Untyped = 2
module_kind_number Json = 3
module_kind_number Wasm = 4
module_kind_number External = 5
