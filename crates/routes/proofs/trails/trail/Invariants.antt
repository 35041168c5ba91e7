use Rattle.std.proofs.Common.{◌<◌, reverse, length, vec_items}
use Rattle.routes.specs.Routes.{Trail}
use Rattle.routes.proofs.trails.trail.Given as goal

abbrev pub invariant-loop-at : goal.invariant-loop-at
invariant-loop-at l = (l.at < length l.reached) × Trail l.reached l.end l.at (reverse (vec_items l.steps))

abbrev pub decreases-loop-at : goal.decreases-loop-at
decreases-loop-at l = l.at
