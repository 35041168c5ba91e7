use Rattle.record_text.proofs.Collected.{one_more}
use Rattle.record_text.proofs.collecting.collect.Goals as goal

pub loop-line-preserved : goal.loop-line-preserved
loop-line-preserved c =
    let turn = c.in-Some.ensures in
    one_more _ _ c.in-Some.line.now _ c.loop-line.texts c.collect_line.new.texts c.loop-line.invariant turn.steps.0.0 turn.steps.0.2 c.in_ok-collect_line.ensures
