use Rattle.std.specs.Str.Iter.{lines_rest}
use Rattle.record_text.proofs.Recorded.{Sofar}
use Rattle.record_text.proofs.reading.read.Given as goal

abbrev pub invariant-loop-before : goal.invariant-loop-before
invariant-loop-before l = Sofar l.text (lines_rest l.before-iterator.iter) l.before-iterator.count l.reader
