use Rattle.record_text.proofs.Refusing.{misformed}
use Rattle.record_text.proofs.forms.package_exports.Goals as goal
use Rattle.std.proofs.Common.{[], ◌∷◌, codes, arith}

pub returns-in_err-package-in-exports : goal.returns-in_err-package-in-exports
returns-in_err-package-in-exports c = misformed c.args.texts.now c.args.texts.now (codes "package" ∷ c.args.name.now ∷ c.args.last.now ∷ []) _ 1 c.in_err-package-in-exports.field-0.0 _ c.from_residual.ensures.1 (omega arith) (λ nay names h. nay h.0 h.1) c.in_err-package-in-exports.ensures
