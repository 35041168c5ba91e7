use Rattle.std.proofs.Common.{◌≡◌, ◌+◌, ◌<◌, vec_items, ◌∙◌, subst, arith}
use Rattle.host.specs.Lookups.{module_at}
use Rattle.resolution.proofs.Told.{counts}
use Rattle.offering.proofs.Following.{leads_within}
use Rattle.offering.proofs.Places.{before_or_at}
use Rattle.routes.specs.Reach.{Spread}
use Rattle.routes.proofs.Spreads.{spread_both, spread_wider}
use Rattle.routes.proofs.searches.Search.spread.Goals as goal

pub loop-place-preserved : goal.loop-place-preserved
loop-place-preserved g c =
    let p = g.H.Host.program c.args.self.now.host.now in
    let m = c.args.«module» in
    let from = c.args.from in
    let place = c.loop-place.place in
    let inv = c.loop-place.invariant in
    let follow = c.in_ok-follow.ensures in
    let here = subst (λ h. Spread (g.H.Host.program h) m from (λ i. i ≡ place) (vec_items c.loop-place.self.reached) (vec_items c.follow.new.self.reached)) inv.same_host follow.spread in
    record {
      same_host = follow.same_host ∙ inv.same_host;
      spread = spread_both p m from (λ i. i < place) (λ i. i ≡ place) (λ i. i < place + 1) (before_or_at place) inv.spread here;
    }

pub returns-clause-spread : goal.returns-clause-spread
returns-clause-spread g c =
    let p = g.H.Host.program c.args.self.now.host.now in
    let m = c.args.«module» in
    let many = counts (module_at p m) c.in-Some.info (cc) in
    spread_wider p m c.args.from (λ i. i < c.loop-place.place) (λ i. Unit {0}) (λ i y at leads. omega (arith, many.1, c.loop-place-test.false, leads_within p m i y leads)) c.loop-place.invariant.spread
