use Rattle.std.proofs.Common.{vec_items}
use Rattle.std.specs.Str.Iter.{lines_rest}
use Rattle.words.specs.Interned.{texts}
use Rattle.script.proofs.Scripted.{Sofar}
use Rattle.script.proofs.reading.read.Given as goal

abbrev pub invariant-loop-before : goal.invariant-loop-before
invariant-loop-before l = Sofar l.text (lines_rest l.before-iterator.iter) l.before-iterator.count (texts l.requests.modules) (texts l.requests.names) (vec_items l.requests.lines)
