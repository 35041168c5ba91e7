use Rattle.std.proofs.Common.{[], ◌∷◌, arith}
use Rattle.record_text.specs.Forms.{shelf}
use Rattle.record_text.proofs.Dispatch.{keyed}
use Rattle.record_text.proofs.Refusing.{blame}
use Rattle.record_text.proofs.Shapes.{no_keyword}
use Rattle.record_text.proofs.parsing.parse_three.Goals as goal

pub returns-in-text : goal.returns-in-text
returns-in-text c = keyed c.args.texts.now c.export_all.new.texts _ _ _ c.export_all.result c.in-text.is c.export_all.ensures

pub returns-in_default : goal.returns-in_default
returns-in_default c = blame (shelf c.args.texts.now) (c.args.keyword.now ∷ c.args.a.now ∷ c.args.b.now ∷ c.args.c.now ∷ []) _ 0 c.misfit.result (omega arith) (λ _. no_keyword (shelf c.args.texts.now) c.args.keyword.now (c.args.a.now ∷ c.args.b.now ∷ c.args.c.now ∷ []) (c.in_default.not-text, tt)) c.misfit.ensures
