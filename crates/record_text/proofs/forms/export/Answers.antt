use Rattle.record_text.proofs.Refusing.{misformed}
use Rattle.record_text.proofs.forms.export.Goals as goal
use Rattle.std.proofs.Common.{[], ◌∷◌, codes, arith}

pub returns-in_err-symbol : goal.returns-in_err-symbol
returns-in_err-symbol c = misformed c.args.texts.now (record { names = c.name.new.names; modules = c.args.texts.now.modules; packages = c.args.texts.now.packages }) (codes "export" ∷ c.args.exported.now ∷ c.args.target.now ∷ []) _ 2 c.in_err-symbol.field-0.0 _ c.from_residual-in_err-symbol.ensures.1 (omega arith) (λ nay names h. nay h.0.symbol h.2) c.in_err-symbol.ensures
