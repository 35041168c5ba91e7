use Rattle.std.proofs.Common.{◌≡◌, ℕ, ◌<◌, length, None}
use Rattle.ids.specs.declared.numbers.ModuleId.{ModuleId}
use Rattle.offering.specs.Marks.{undone}
use Rattle.offering.specs.Offers.{Passes}
use Rattle.offering.specs.Walks.{Walked}
use Rattle.resolution.specs.Laws.{Leads}
use Rattle.resolution.specs.Targets.{stands}
use Rattle.offering.proofs.offering.search.Given as goal

abbrev pub invariant-loop-next : goal.invariant-loop-next
invariant-loop-next g l =
    let p = g.H.Host.program l.host in
    record {
      same_host : l.walk.host.now ≡ l.host;
      to : ModuleId;
      leads : Leads p l.«module» l.place to;
      walked : Walked p l.name (stands p to) l.walk.marks.now;
      none_yet : l.found ≡ None;
    }

abbrev pub decreases-loop-next : goal.decreases-loop-next
decreases-loop-next g l = undone l.walk.marks.now

abbrev pub invariant-places : goal.invariant-places
invariant-places g l = record {
  none_yet : l.found ≡ None;
  long : length l.marks.0.now ≡ length (g.H.Host.program l.host).modules;
  before : (j : ℕ) → j < l.place → Passes (g.H.Host.program l.host) l.name l.«module» j → ⊥;
}
