use Rattle.std.proofs.Common.{◌≡◌, drop}
use Rattle.std.specs.List.{flat_map}
use Rattle.host.specs.Lookups.{within, deps_of, decl_at}
use Rattle.rules.specs.Destinations.{trace_at}
use Rattle.rules.specs.Feeding.{feed}
use Rattle.rules.specs.Lists as lists
use Rattle.rules.proofs.trace_struct.Trace.visit_deps.Given as goal

abbrev pub invariant-loop-index : goal.invariant-loop-index
invariant-loop-index g l =
    let p = g.H.Host.program l.self.host.now in
    let deps = within deps_of (decl_at p l.self.place.at l.symbol l.decl) in
    let f = lists.dep_gives (trace_at p l.self.place) l.symbol in
    feed g.S.Sink.after l.sink (flat_map f (drop l.index deps)) ≡ feed g.S.Sink.after l.initial.sink (flat_map f deps)
