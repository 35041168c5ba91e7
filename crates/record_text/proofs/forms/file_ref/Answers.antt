use Rattle.record_text.proofs.Growing.{head_kept, name_kept}
use Rattle.record_text.proofs.Refusing.{misranged}
use Rattle.record_text.proofs.forms.file_ref.Goals as goal
use Rattle.record_text.specs.Forms.{shelf}
use Rattle.words.proofs.Numbering.{extends_on}
use Rattle.std.proofs.Common.{[], ◌∷◌, codes, refl, arith}

pub returns-in_err-head : goal.returns-in_err-head
returns-in_err-head c = misranged c.args.texts.now c.head.new.texts (codes "file-ref" ∷ c.args.start.now ∷ c.args.end.now ∷ c.args.own.now ∷ c.args.specifier.now ∷ c.args.what.now ∷ []) c.args.start.now c.args.end.now c.in_err-head.field-0.0 _ c.from_residual.ensures.1 (omega arith) (λ nay names h. nay h.0.range h.2.range) c.in_err-head.ensures

pub returns : goal.returns
returns c =
    let named = c.in_ok-head.ensures in
    let from = c.in_ok-specifier.ensures in
    let what = c.in_ok-name.ensures in
    let more = extends_on _ _ _ from.1 what.1 in
    (rw c.declared.ensures (_, _, _, _, _, refl, head_kept (shelf c.head.new.texts) _ _ _ _ c.in_ok-head.head more named.0, name_kept _ _ _ c.in_ok-specifier.specifier what.1 from.0, what.0), record { names = extends_on _ _ _ named.1.names more; modules = named.1.modules; packages = named.1.packages })
