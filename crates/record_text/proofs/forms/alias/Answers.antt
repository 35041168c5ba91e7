use Rattle.record_text.proofs.Refusing.{misformed, misranged}
use Rattle.record_text.proofs.forms.alias.Goals as goal
use Rattle.std.proofs.Common.{[], ◌∷◌, codes, arith}

pub returns-in_err-head : goal.returns-in_err-head
returns-in_err-head c = misranged c.args.texts.now c.head.new.texts (codes "alias" ∷ c.args.start.now ∷ c.args.end.now ∷ c.args.name.now ∷ c.args.target.now ∷ []) c.args.start.now c.args.end.now c.in_err-head.field-0.0 _ c.from_residual.ensures.1 (omega arith) (λ nay names h. nay h.0.range h.3.range) c.in_err-head.ensures

pub returns-in_err-target : goal.returns-in_err-target
returns-in_err-target c = misformed c.args.texts.now c.head.new.texts (codes "alias" ∷ c.args.start.now ∷ c.args.end.now ∷ c.args.name.now ∷ c.args.target.now ∷ []) _ 4 c.in_err-target.field-0.0 _ c.from_residual-in_err-target.ensures.1 (omega arith) (λ nay names h. nay h.1 h.4) c.in_err-target.ensures
