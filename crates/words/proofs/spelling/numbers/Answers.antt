use Rattle.std.proofs.Common.{[], Bor}
use Rattle.words.specs.Texts.{Text}
use Rattle.words.proofs.Numbering.{numbers_turn}
use Rattle.words.proofs.spelling.numbers.Goals as goal

-- what a read past the end would give
abbrev blank : Bor Text
blank = record { ref_ptr = (0, 0); now = [] }

pub loop-piece-preserved : goal.loop-piece-preserved
loop-piece-preserved c =
    numbers_turn _ _ _ c.args.pieces.now c.loop-piece.piece-index blank _ _ c.in_ok-name_number.field-0 c.loop-piece-test.true c.loop-piece.invariant c.in_ok-name_number.ensures c.in_ok-push.ensures.items
