use Rattle.record_text.proofs.Refusing.{misranged}
use Rattle.record_text.proofs.forms.export_all.Goals as goal
use Rattle.std.proofs.Common.{[], ◌∷◌, codes, arith}

pub returns-in_err-range : goal.returns-in_err-range
returns-in_err-range c = misranged c.args.texts.now c.args.texts.now (codes "export-all" ∷ c.args.start.now ∷ c.args.end.now ∷ c.args.specifier.now ∷ []) c.args.start.now c.args.end.now c.in_err-range.field-0.0 _ c.from_residual.ensures.1 (omega arith) (λ nay names h. nay h.0.range h.2) c.in_err-range.ensures
