use Rattle.std.proofs.Common.{subst}
use Rattle.offering.specs.Walks.{Followed}
use Rattle.offering.proofs.Following.{visited}
use Rattle.offering.proofs.walks.Walk.visit.Goals as goal

pub returns-clause-visited : goal.returns-clause-visited
returns-clause-visited g c =
    let p = g.H.Host.program c.args.self.now.host.now in
    let m = c.args.«module» in
    let after = c.follow_all.new.self.marks.now in
    let here = subst (λ h. Followed (g.H.Host.program h) m (λ i. Unit {0}) c.finish.new.self.marks.now after) c.finish.ensures.same_host c.follow_all.ensures.followed in
    let all = subst (λ l. Followed p m (λ i. Unit {0}) l after) c.finish.ensures.done here in
    visited p m c.args.self.now.marks.now after c.requires.inside c.requires.waits all
