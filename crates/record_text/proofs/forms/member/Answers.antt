use Rattle.record_text.proofs.Refusing.{misformed}
use Rattle.record_text.proofs.forms.member.Goals as goal
use Rattle.std.proofs.Common.{[], ◌∷◌, codes, arith}

pub returns-in_err-symbol : goal.returns-in_err-symbol
returns-in_err-symbol c = λ t. misformed t t (codes "member" ∷ c.args.target.now ∷ []) _ 1 c.in_err-symbol.field-0.0 _ c.from_residual.ensures.1 (omega arith) (λ nay names h. nay h.0 h.2) c.in_err-symbol.ensures
