use Rattle.record_text.proofs.Refusing.{misformed}
use Rattle.record_text.proofs.forms.qualified_id.Goals as goal
use Rattle.std.proofs.Common.{[], ◌∷◌, codes, arith}

pub returns-in_err-target : goal.returns-in_err-target
returns-in_err-target c = misformed c.args.texts.now c.args.texts.now (codes "qualified-id" ∷ c.args.target.now ∷ c.args.below.now ∷ []) _ 1 c.in_err-target.field-0.0 _ c.from_residual.ensures.1 (omega arith) (λ nay names h. nay h.0 h.3) c.in_err-target.ensures

pub returns-in_err-path : goal.returns-in_err-path
returns-in_err-path c = misformed c.args.texts.now (record { names = c.path.new.names; modules = c.args.texts.now.modules; packages = c.args.texts.now.packages }) (codes "qualified-id" ∷ c.args.target.now ∷ c.args.below.now ∷ []) _ 2 c.in_err-path.field-0.0 _ c.from_residual-in_err-path.ensures.1 (omega arith) (λ nay names h. nay names h.1 h.4) c.in_err-path.ensures
