use Rattle.std.proofs.Common.{◌≡◌, sym, ap, ◌∙◌, subst}
use Rattle.offering.specs.Marks.{met}
use Rattle.offering.specs.Walks.{Followed}
use Rattle.offering.proofs.Following.{followed_one}
use Rattle.offering.proofs.walks.Walk.follow.Goals as goal

pub returns-in-Some-clause-followed : goal.returns-in-Some-clause-followed
returns-in-Some-clause-followed g c =
    let p = g.H.Host.program c.args.self.now.host.now in
    let m = c.args.«module» in
    let marks = c.args.self.now.marks.now in
    let after = c.meet.ensures.met ∙ ap (met marks) c.standing_module.ensures.value in
    subst (λ l. Followed p m (λ i. i ≡ c.args.place) marks l) (sym after) (followed_one p m c.args.place c.in-Some.target marks c.in-Some.ensures.law)
