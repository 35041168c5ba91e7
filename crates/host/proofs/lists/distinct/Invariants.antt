use Rattle.std.proofs.Common.{◌≡◌, ℕ, map, length}
use Rattle.host.specs.Lists.{Gives}
use Rattle.host.specs.Tests as tests
use Rattle.host.proofs.lists.distinct.Given as goal

-- what is left holds as much apart as all of the list
abbrev pub invariant-loop-first : goal.invariant-loop-first
invariant-loop-first g l = (of : _ → ℕ) → Gives g.F.Fn l.key of → tests.distinct (map of l.rest) ≡ tests.distinct (map of l.xs)

abbrev pub decreases-loop-first : goal.decreases-loop-first
decreases-loop-first g l = length l.rest
