-- The word of each kind of syntax. Assumes nothing.
use Rattle.std.specs.Prelude.{◌≡◌, ℕ, codes, Result}
use Rattle.host.specs.declared.node_kinds.NodeKind.{NodeKind}
use Rattle.host.specs.declared.node_kinds.NodeKind.TheVariants.{Module, ExportDefaultExpr, ClassDecl, FnDecl, TsEnum, TsInterface, TsNamespace, TsTypeAlias, Var, UsingVar, AutoAccessor, ClassMethod, ClassProp, ClassParamProp, Constructor, ExpandoProperty, TsIndexSignature, TsCallSignatureDecl, TsConstructSignatureDecl, TsPropertySignature, TsGetterSignature, TsSetterSignature, TsMethodSignature, ExportClass, ExportFn, ExportVar, ExportTsEnum, ExportTsInterface, ExportTsModule, ExportTsTypeAlias, DefaultFn, DefaultTsInterface, DefaultClass}
use Rattle.words.specs.Texts.{Text}
use Rattle.record_text.specs.Faults.{Unread}
use Rattle.record_text.specs.Fields.{No, Read}

abbrev pub node_word : NodeKind → Text
node_word Module = codes "Module"
node_word ExportDefaultExpr = codes "ExportDefaultExpr"
node_word ClassDecl = codes "ClassDecl"
node_word FnDecl = codes "FnDecl"
node_word TsEnum = codes "TsEnum"
node_word TsInterface = codes "TsInterface"
node_word TsNamespace = codes "TsNamespace"
node_word TsTypeAlias = codes "TsTypeAlias"
node_word Var = codes "Var"
node_word UsingVar = codes "UsingVar"
node_word AutoAccessor = codes "AutoAccessor"
node_word ClassMethod = codes "ClassMethod"
node_word ClassProp = codes "ClassProp"
node_word ClassParamProp = codes "ClassParamProp"
node_word Constructor = codes "Constructor"
node_word ExpandoProperty = codes "ExpandoProperty"
node_word TsIndexSignature = codes "TsIndexSignature"
node_word TsCallSignatureDecl = codes "TsCallSignatureDecl"
node_word TsConstructSignatureDecl = codes "TsConstructSignatureDecl"
node_word TsPropertySignature = codes "TsPropertySignature"
node_word TsGetterSignature = codes "TsGetterSignature"
node_word TsSetterSignature = codes "TsSetterSignature"
node_word TsMethodSignature = codes "TsMethodSignature"
node_word ExportClass = codes "ExportClass"
node_word ExportFn = codes "ExportFn"
node_word ExportVar = codes "ExportVar"
node_word ExportTsEnum = codes "ExportTsEnum"
node_word ExportTsInterface = codes "ExportTsInterface"
node_word ExportTsModule = codes "ExportTsModule"
node_word ExportTsTypeAlias = codes "ExportTsTypeAlias"
node_word DefaultFn = codes "DefaultFn"
node_word DefaultTsInterface = codes "DefaultTsInterface"
node_word DefaultClass = codes "DefaultClass"

abbrev pub NodeKindRead : Text → ℕ → Result NodeKind Unread → Type 0
NodeKindRead w = Read (λ k. w ≡ node_word k) (No (λ k. w ≡ node_word k))
