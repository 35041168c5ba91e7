use Rattle.std.proofs.Common.{[], ◌∷◌, arith}
use Rattle.record_text.specs.Forms.{shelf}
use Rattle.record_text.proofs.Dispatch.{keyed}
use Rattle.record_text.proofs.Refusing.{blame}
use Rattle.record_text.proofs.Shapes.{no_keyword}
use Rattle.record_text.proofs.parsing.parse_two.Goals as goal

pub returns-in-package : goal.returns-in-package
returns-in-package c = keyed c.args.texts.now c.args.texts.now _ _ _ c.package_exports.result c.in-package.is c.package_exports.ensures

pub returns-in-dependency : goal.returns-in-dependency
returns-in-dependency c = keyed c.args.texts.now c.dependency.new.texts _ _ _ c.dependency.result c.in-dependency.is c.dependency.ensures

pub returns-in-export : goal.returns-in-export
returns-in-export c = keyed c.args.texts.now c.export.new.texts _ _ _ c.export.result c.in-export.is c.export.ensures

pub returns-in-id : goal.returns-in-id
returns-in-id c = keyed c.args.texts.now c.args.texts.now _ _ _ c.id.result c.in-id.is (c.id.ensures c.args.texts.now)

pub returns-in-text : goal.returns-in-text
returns-in-text c = keyed c.args.texts.now c.qualified_id.new.texts _ _ _ c.qualified_id.result c.in-text.is c.qualified_id.ensures

pub returns-in-text-2 : goal.returns-in-text-2
returns-in-text-2 c = keyed c.args.texts.now c.import_type.new.texts _ _ _ c.import_type.result c.in-text-2.is c.import_type.ensures

pub returns-in_default : goal.returns-in_default
returns-in_default c = blame (shelf c.args.texts.now) (c.args.keyword.now ∷ c.args.a.now ∷ c.args.b.now ∷ []) _ 0 c.misfit.result (omega arith) (λ _. no_keyword (shelf c.args.texts.now) c.args.keyword.now (c.args.a.now ∷ c.args.b.now ∷ []) (c.in_default.not-package, (c.in_default.not-dependency, (c.in_default.not-export, (c.in_default.not-id, (c.in_default.not-text, (c.in_default.not-text-2, tt))))))) c.misfit.ensures
