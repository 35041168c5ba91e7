use Rattle.std.proofs.Common.{[], ◌∷◌, arith}
use Rattle.record_text.specs.Forms.{shelf}
use Rattle.record_text.proofs.Dispatch.{keyed}
use Rattle.record_text.proofs.Refusing.{blame}
use Rattle.record_text.proofs.Shapes.{no_keyword}
use Rattle.record_text.proofs.parsing.parse_five.Goals as goal

pub returns-in-text : goal.returns-in-text
returns-in-text c = keyed c.args.texts.now c.qualified_alias.new.texts _ _ _ c.qualified_alias.result c.in-text.is c.qualified_alias.ensures

pub returns-in-text-2 : goal.returns-in-text-2
returns-in-text-2 c = keyed c.args.texts.now c.file_ref.new.texts _ _ _ c.file_ref.result c.in-text-2.is c.file_ref.ensures

pub returns-in-definition : goal.returns-in-definition
returns-in-definition c = keyed c.args.texts.now c.definition.new.texts _ _ _ c.definition.result c.in-definition.is c.definition.ensures

pub returns-in_default : goal.returns-in_default
returns-in_default c = blame (shelf c.args.texts.now) (c.args.keyword.now ∷ c.args.a.now ∷ c.args.b.now ∷ c.args.c.now ∷ c.args.d.now ∷ c.args.e.now ∷ []) _ 0 c.misfit.result (omega arith) (λ _. no_keyword (shelf c.args.texts.now) c.args.keyword.now (c.args.a.now ∷ c.args.b.now ∷ c.args.c.now ∷ c.args.d.now ∷ c.args.e.now ∷ []) (c.in_default.not-text, (c.in_default.not-text-2, (c.in_default.not-definition, tt)))) c.misfit.ensures
