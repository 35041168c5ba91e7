use Rattle.std.proofs.Common.{◌≡◌, ◌+◌, ◌<◌, ◌∙◌, subst, arith}
use Rattle.host.specs.Lookups.{module_at}
use Rattle.offering.proofs.Following.{followed_both, followed_wider, leads_within}
use Rattle.offering.proofs.Places.{before_or_at}
use Rattle.offering.specs.Walks.{Followed}
use Rattle.resolution.proofs.Told.{counts}
use Rattle.offering.proofs.walks.Walk.follow_all.Goals as goal

pub loop-place-preserved : goal.loop-place-preserved
loop-place-preserved g c =
    let p = g.H.Host.program c.args.self.now.host.now in
    let m = c.args.«module» in
    let place = c.loop-place.place in
    let inv = c.loop-place.invariant in
    let here = subst (λ h. Followed (g.H.Host.program h) m (λ i. i ≡ place) c.loop-place.self.marks.now c.follow.new.self.marks.now) inv.same_host c.follow.ensures.followed in
    record {
      same_host = c.follow.ensures.same_host ∙ inv.same_host;
      followed = followed_both p m (λ i. i < place) (λ i. i ≡ place) (λ i. i < place + 1) (before_or_at place) inv.followed here;
    }

pub returns-clause-followed : goal.returns-clause-followed
returns-clause-followed g c =
    let p = g.H.Host.program c.args.self.now.host.now in
    let m = c.args.«module» in
    let many = counts (module_at p m) c.in-Some.info (cc) in
    followed_wider p m (λ i. i < c.loop-place.place) (λ i. Unit {0}) (λ i y at leads. omega (arith, many.1, c.loop-place-test.false, leads_within p m i y leads)) c.loop-place.invariant.followed
