use Rattle.record_text.proofs.Recorded.{one_more_line, all_read}
use Rattle.record_text.proofs.reading.read.Goals as goal

pub loop-before-preserved : goal.loop-before-preserved
loop-before-preserved c =
    let turn = c.in-Some.ensures.steps in
    let added = c.in_ok-add_line.ensures in
    let next = one_more_line _ _ c.in-Some.line.now _ c.loop-before.before-iterator.count c.loop-before.reader c.add_line.new.self added.0 c.loop-before.invariant turn.0.0.0 turn.0.0.2 added.1 added.2 in
    rw turn.2 next

pub returns : goal.returns
returns c = all_read _ _ c.loop-before.before-iterator.count c.loop-before.reader c.listed.result c.loop-before.invariant c.in-None.ensures.steps.0.0.0 c.listed.ensures
