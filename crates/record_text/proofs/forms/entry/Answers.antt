use Rattle.record_text.proofs.Refusing.{misformed}
use Rattle.record_text.proofs.forms.entry.Goals as goal
use Rattle.std.proofs.Common.{[], ◌∷◌, codes, arith}

pub returns-in_err-module : goal.returns-in_err-module
returns-in_err-module c = misformed c.args.texts.now c.args.texts.now (codes "entry" ∷ c.args.target.now ∷ []) _ 1 c.in_err-module.field-0.0 _ c.from_residual.ensures.1 (omega arith) (λ nay names h. nay h.0 h.2) c.in_err-module.ensures
