use Rattle.record_text.proofs.Growing.{name_kept}
use Rattle.record_text.proofs.Refusing.{misformed, not_path_or_none}
use Rattle.record_text.proofs.forms.import_type.Goals as goal
use Rattle.words.proofs.Numbering.{extends_on}
use Rattle.std.proofs.Common.{[], ◌∷◌, codes, refl, arith}

pub returns-in_err-path : goal.returns-in_err-path
returns-in_err-path c = misformed c.args.texts.now (record { names = c.path_or_none.new.names; modules = c.args.texts.now.modules; packages = c.args.texts.now.packages }) (codes "import-type" ∷ c.args.specifier.now ∷ c.args.below.now ∷ []) _ 2 c.in_err-path.field-0.0 _ c.from_residual-in_err-path.ensures.1 (omega arith) (λ nay names h. not_path_or_none names _ nay h.0 h.2) c.in_err-path.ensures

pub returns : goal.returns
returns c =
    let named = c.in_ok-specifier.ensures in
    let below = c.in_ok-path.ensures in
    (rw c.inner.ensures (_, _, refl, name_kept _ _ _ c.in_ok-specifier.specifier below.1 named.0, below.0), record { names = extends_on _ _ _ named.1 below.1; modules = refl; packages = refl })
