use Rattle.record_text.proofs.Refusing.{misformed, misranged}
use Rattle.record_text.proofs.forms.definition.Goals as goal
use Rattle.std.proofs.Common.{[], ◌∷◌, codes, arith}

pub returns-in_err-head : goal.returns-in_err-head
returns-in_err-head c = misranged c.args.texts.now c.head.new.texts (codes "definition" ∷ c.args.start.now ∷ c.args.end.now ∷ c.args.name.now ∷ c.args.kind.now ∷ c.args.raised.now ∷ []) c.args.start.now c.args.end.now c.in_err-head.field-0.0 _ c.from_residual.ensures.1 (omega arith) (λ nay names h. nay h.0.range h.4.range) c.in_err-head.ensures

pub returns-in_err-kind : goal.returns-in_err-kind
returns-in_err-kind c = misformed c.args.texts.now c.head.new.texts (codes "definition" ∷ c.args.start.now ∷ c.args.end.now ∷ c.args.name.now ∷ c.args.kind.now ∷ c.args.raised.now ∷ []) _ 4 c.in_err-kind.field-0.0 _ c.from_residual-in_err-kind.ensures.1 (omega arith) (λ nay names h. nay h.1 h.5) c.in_err-kind.ensures

pub returns-in_err-flags : goal.returns-in_err-flags
returns-in_err-flags c = misformed c.args.texts.now c.head.new.texts (codes "definition" ∷ c.args.start.now ∷ c.args.end.now ∷ c.args.name.now ∷ c.args.kind.now ∷ c.args.raised.now ∷ []) _ 5 c.in_err-flags.field-0.0 _ c.from_residual-in_err-flags.ensures.1 (omega arith) (λ nay names h. nay h.2 h.6) c.in_err-flags.ensures
