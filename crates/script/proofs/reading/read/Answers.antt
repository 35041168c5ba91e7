use Rattle.script.proofs.Scripted.{one_more_line, all_read}
use Rattle.script.proofs.reading.read.Goals as goal

pub loop-before-preserved : goal.loop-before-preserved
loop-before-preserved c =
    let turn = c.in-Some.ensures.steps in
    let added = c.in_ok-add_line.ensures in
    let next = one_more_line _ _ _ c.in-Some.line.now c.loop-before.before-iterator.count _ _ _ _ _ _ added.1.0 c.loop-before.invariant turn.0.0.0 turn.0.0.2 added.0.0 added.0.1 (rw turn.1 at added.1.1) added.1.2 in
    rw turn.2 next

pub returns : goal.returns
returns c = all_read _ _ c.loop-before.before-iterator.count _ _ _ c.loop-before.invariant c.in-None.ensures.steps.0.0.0
