use Rattle.std.proofs.Common.{[], refl, Bor}
use Rattle.words.specs.Texts.{Text}
use Rattle.record_text.proofs.Refusing.{not_raised}
use Rattle.record_text.proofs.Raising.{raises_turn}
use Rattle.record_text.proofs.flagging.all_raised.Goals as goal

-- what a read past the end would give
abbrev blank : Bor Text
blank = record { ref_ptr = (0, 0); now = [] }

pub loop-word-preserved : goal.loop-word-preserved
loop-word-preserved c = raises_turn c.args.words.now c.loop-word.word-index blank _ _ _ c.loop-word-test.true c.loop-word.invariant c.in-Some.ensures c.raise.ensures

pub returns-in_default : goal.returns-in_default
returns-in_default c = (refl, not_raised c.args.words.now c.loop-word.word-index blank c.loop-word-test.true c.in_default.ensures)
