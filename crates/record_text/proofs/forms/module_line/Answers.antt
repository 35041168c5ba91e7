use Rattle.record_text.proofs.Refusing.{misformed}
use Rattle.record_text.proofs.forms.module_line.Goals as goal
use Rattle.std.proofs.Common.{[], ◌∷◌, codes, arith}

pub returns-in_err-number : goal.returns-in_err-number
returns-in_err-number c = misformed c.args.texts.now c.args.texts.now (codes "module" ∷ c.args.name.now ∷ c.args.kind.now ∷ c.args.owner.now ∷ c.args.types.now ∷ []) _ 1 c.in_err-number.field-0.0 _ c.from_residual.ensures.1 (omega arith) (λ nay names h. nay h.0 h.3) c.in_err-number.ensures

pub returns-in_err-kind : goal.returns-in_err-kind
returns-in_err-kind c = misformed c.args.texts.now c.args.texts.now (codes "module" ∷ c.args.name.now ∷ c.args.kind.now ∷ c.args.owner.now ∷ c.args.types.now ∷ []) _ 2 c.in_err-kind.field-0.0 _ c.from_residual-in_err-kind.ensures.1 (omega arith) (λ nay names h. nay h.1.kind h.4) c.in_err-kind.ensures

pub returns-in_err-package : goal.returns-in_err-package
returns-in_err-package c = misformed c.args.texts.now c.args.texts.now (codes "module" ∷ c.args.name.now ∷ c.args.kind.now ∷ c.args.owner.now ∷ c.args.types.now ∷ []) _ 3 c.in_err-package.field-0.0 _ c.from_residual-in_err-package.ensures.1 (omega arith) (λ nay names h. nay h.1.«package» h.5) c.in_err-package.ensures

pub returns-in_err-types : goal.returns-in_err-types
returns-in_err-types c = misformed c.args.texts.now c.args.texts.now (codes "module" ∷ c.args.name.now ∷ c.args.kind.now ∷ c.args.owner.now ∷ c.args.types.now ∷ []) _ 4 c.in_err-types.field-0.0 _ c.from_residual-in_err-types.ensures.1 (omega arith) (λ nay names h. nay h.1.types h.6) c.in_err-types.ensures
