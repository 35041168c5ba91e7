use Rattle.record_text.proofs.Growing.{head_kept}
use Rattle.record_text.proofs.Refusing.{misformed, misranged}
use Rattle.record_text.proofs.forms.qualified_alias.Goals as goal
use Rattle.record_text.specs.Forms.{shelf}
use Rattle.words.proofs.Numbering.{extends_on}
use Rattle.std.proofs.Common.{[], ◌∷◌, codes, refl, arith}

pub returns-in_err-head : goal.returns-in_err-head
returns-in_err-head c = misranged c.args.texts.now c.head.new.texts (codes "qualified-alias" ∷ c.args.start.now ∷ c.args.end.now ∷ c.args.name.now ∷ c.args.target.now ∷ c.args.below.now ∷ []) c.args.start.now c.args.end.now c.in_err-head.field-0.0 _ c.from_residual.ensures.1 (omega arith) (λ nay names h. nay h.0.range h.4.range) c.in_err-head.ensures

pub returns-in_err-target : goal.returns-in_err-target
returns-in_err-target c = misformed c.args.texts.now c.head.new.texts (codes "qualified-alias" ∷ c.args.start.now ∷ c.args.end.now ∷ c.args.name.now ∷ c.args.target.now ∷ c.args.below.now ∷ []) _ 4 c.in_err-target.field-0.0 _ c.from_residual-in_err-target.ensures.1 (omega arith) (λ nay names h. nay h.1 h.5) c.in_err-target.ensures

pub returns-in_err-path : goal.returns-in_err-path
returns-in_err-path c = misformed c.args.texts.now (record { names = c.path.new.names; modules = c.head.new.texts.modules; packages = c.head.new.texts.packages }) (codes "qualified-alias" ∷ c.args.start.now ∷ c.args.end.now ∷ c.args.name.now ∷ c.args.target.now ∷ c.args.below.now ∷ []) _ 5 c.in_err-path.field-0.0 _ c.from_residual-in_err-path.ensures.1 (omega arith) (λ nay names h. nay names h.2 h.6) c.in_err-path.ensures

pub returns : goal.returns
returns c =
    let named = c.in_ok-head.ensures in
    let below = c.in_ok-path.ensures in
    (rw c.declared.ensures (_, _, _, _, _, refl, head_kept (shelf c.head.new.texts) _ _ _ _ c.in_ok-head.head below.1 named.0, c.in_ok-target.ensures, below.0), record { names = extends_on _ _ _ named.1.names below.1; modules = named.1.modules; packages = named.1.packages })
