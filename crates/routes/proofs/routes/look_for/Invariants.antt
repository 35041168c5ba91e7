use Rattle.std.proofs.Common.{◌≡◌, ◌+◌, ◌-◌, length, vec_items}
use Rattle.offering.proofs.Ending.{missing}
use Rattle.routes.specs.Reach.{modules_in}
use Rattle.routes.specs.Routes.{Searching}
use Rattle.routes.proofs.routes.look_for.Given as goal

abbrev pub invariant-loop-one : goal.invariant-loop-one
invariant-loop-one g l = record {
  same_host : l.search.host.now ≡ l.host;
  searching : Searching (g.H.Host.program l.host) l.name l.fn.start (vec_items l.search.reached) l.turn;
}

abbrev pub decreases-loop-one : goal.decreases-loop-one
decreases-loop-one g l = missing (length (g.H.Host.program l.host).modules) (modules_in (vec_items l.search.reached)) + (length (vec_items l.search.reached) - l.turn)
