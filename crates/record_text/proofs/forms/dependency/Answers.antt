use Rattle.record_text.proofs.Refusing.{misformed}
use Rattle.record_text.proofs.forms.dependency.Goals as goal
use Rattle.std.proofs.Common.{[], ◌∷◌, codes, arith}

pub returns-in_err-target : goal.returns-in_err-target
returns-in_err-target c = misformed c.args.texts.now (record { names = c.name.new.names; modules = c.args.texts.now.modules; packages = c.args.texts.now.packages }) (codes "dependency" ∷ c.args.specifier.now ∷ c.args.target.now ∷ []) _ 2 c.in_err-target.field-0.0 _ c.from_residual-in_err-target.ensures.1 (omega arith) (λ nay names h. nay h.0.target h.2) c.in_err-target.ensures
