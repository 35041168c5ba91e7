use Rattle.std.proofs.Common.{List, map, sym, subst, Bor}
use Rattle.words.specs.Spelled.{comma, Pieces}
use Rattle.words.specs.Texts.{Text}
use Rattle.record_text.proofs.Refusing.{flags_read}
use Rattle.record_text.proofs.flagging.flags.Goals as goal

pub returns-in_ok-pieces-in_default : goal.returns-in_ok-pieces-in_default
returns-in_ok-pieces-in_default c =
    let cut = subst (λ (xs : List (Bor Text)). Pieces comma c.args.word.now (map (λ x. x.now) xs)) (sym c.as_slice.ensures.value) c.in_ok-pieces-in_default.ensures in
    flags_read c.args.word.now _ c.args.place c.all_raised.result c.in_default.not-text cut c.all_raised.ensures
