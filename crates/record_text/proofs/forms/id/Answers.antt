use Rattle.record_text.proofs.Refusing.{misformed}
use Rattle.record_text.proofs.forms.id.Goals as goal
use Rattle.std.proofs.Common.{[], ◌∷◌, codes, arith}

pub returns-in_err-target : goal.returns-in_err-target
returns-in_err-target c = λ t. misformed t t (codes "id" ∷ c.args.target.now ∷ c.args.how.now ∷ []) _ 1 c.in_err-target.field-0.0 _ c.from_residual.ensures.1 (omega arith) (λ nay names h. nay h.0 h.3) c.in_err-target.ensures

pub returns-in_err-namespace : goal.returns-in_err-namespace
returns-in_err-namespace c = λ t. misformed t t (codes "id" ∷ c.args.target.now ∷ c.args.how.now ∷ []) _ 2 c.in_err-namespace.field-0.0 _ c.from_residual-in_err-namespace.ensures.1 (omega arith) (λ nay names h. nay h.1 h.4) c.in_err-namespace.ensures
