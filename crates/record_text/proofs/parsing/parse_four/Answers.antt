use Rattle.std.proofs.Common.{[], ◌∷◌, arith}
use Rattle.record_text.specs.Forms.{shelf}
use Rattle.record_text.proofs.Dispatch.{keyed}
use Rattle.record_text.proofs.Refusing.{blame}
use Rattle.record_text.proofs.Shapes.{no_keyword}
use Rattle.record_text.proofs.parsing.parse_four.Goals as goal

pub returns-in-module : goal.returns-in-module
returns-in-module c = keyed c.args.texts.now c.args.texts.now _ _ _ c.module_line.result c.in-module.is c.module_line.ensures

pub returns-in-alias : goal.returns-in-alias
returns-in-alias c = keyed c.args.texts.now c.alias.new.texts _ _ _ c.alias.result c.in-alias.is c.alias.ensures

pub returns-in_default : goal.returns-in_default
returns-in_default c = blame (shelf c.args.texts.now) (c.args.keyword.now ∷ c.args.a.now ∷ c.args.b.now ∷ c.args.c.now ∷ c.args.d.now ∷ []) _ 0 c.misfit.result (omega arith) (λ _. no_keyword (shelf c.args.texts.now) c.args.keyword.now (c.args.a.now ∷ c.args.b.now ∷ c.args.c.now ∷ c.args.d.now ∷ []) (c.in_default.not-module, (c.in_default.not-alias, tt))) c.misfit.ensures
