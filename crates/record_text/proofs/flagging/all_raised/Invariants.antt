use Rattle.std.proofs.Common.{map, take}
use Rattle.record_text.specs.Flags.{Raises}
use Rattle.record_text.proofs.flagging.all_raised.Given as goal

abbrev pub invariant-loop-word : goal.invariant-loop-word
invariant-loop-word l = Raises (map (λ x. x.now) (take l.word-index l.words)) l.flags
