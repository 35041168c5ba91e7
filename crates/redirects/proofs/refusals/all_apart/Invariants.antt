use Rattle.std.proofs.Common.{◌≡◌, length}
use Rattle.host.specs.Tests.{distinct}
use Rattle.redirects.specs.Refusals.{starts}
use Rattle.redirects.proofs.refusals.all_apart.Given as goal

abbrev pub invariant-loop-first : goal.invariant-loop-first
invariant-loop-first l = distinct (starts l.rest) ≡ distinct (starts l.initial.rest)

abbrev pub decreases-loop-first : goal.decreases-loop-first
decreases-loop-first l = length l.rest
