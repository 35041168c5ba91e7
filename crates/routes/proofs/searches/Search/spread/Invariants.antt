use Rattle.std.proofs.Common.{◌≡◌, ◌<◌, vec_items}
use Rattle.routes.specs.Reach.{Spread}
use Rattle.routes.proofs.searches.Search.spread.Given as goal

abbrev pub invariant-loop-place : goal.invariant-loop-place
invariant-loop-place g l = record {
  same_host : l.self.host.now ≡ l.initial.self.host.now;
  spread : Spread (g.H.Host.program l.initial.self.host.now) l.«module» l.from (λ i. i < l.place) (vec_items l.initial.self.reached) (vec_items l.self.reached);
}
