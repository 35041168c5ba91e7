use Rattle.record_text.proofs.Refusing.{misformed}
use Rattle.record_text.proofs.forms.symbol_line.Goals as goal
use Rattle.std.proofs.Common.{[], ◌∷◌, codes, arith}

pub returns-in_err-parent : goal.returns-in_err-parent
returns-in_err-parent c = λ t. misformed t t (codes "symbol" ∷ c.args.parent.now ∷ []) _ 1 c.in_err-parent.field-0.0 _ c.from_residual.ensures.1 (omega arith) (λ nay names h. nay h.0 h.2) c.in_err-parent.ensures
