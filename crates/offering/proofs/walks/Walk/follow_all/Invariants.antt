use Rattle.std.proofs.Common.{◌≡◌, ◌<◌}
use Rattle.offering.specs.Walks.{Followed}
use Rattle.offering.proofs.walks.Walk.follow_all.Given as goal

abbrev pub invariant-loop-place : goal.invariant-loop-place
invariant-loop-place g l = record {
  same_host : l.self.host.now ≡ l.initial.self.host.now;
  followed : Followed (g.H.Host.program l.initial.self.host.now) l.«module» (λ i. i < l.place) l.initial.self.marks.now l.self.marks.now;
}
