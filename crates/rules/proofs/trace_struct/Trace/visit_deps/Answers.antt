use Rattle.std.proofs.Common.{sym, ap, ◌∙◌, arith}
use Rattle.host.specs.Lookups.{within, deps_of, decl_at}
use Rattle.resolution.proofs.Places.{nth_none}
use Rattle.rules.specs.Destinations.{trace_at}
use Rattle.rules.specs.Feeding.{feed}
use Rattle.rules.specs.Lists as lists
use Rattle.rules.proofs.Feeds.{each_stops, each_goes, failed}
use Rattle.rules.proofs.trace_struct.Trace.visit_deps.Goals as goal
use Rattle.rules.proofs.trace_struct.Trace.visit_deps.Goals.{in-Some+in_ok-visit_dep, in_default}

pub returns-in_err-visit_dep : goal.returns-in_err-visit_dep
returns-in_err-visit_dep g c =
    let p = g.H.Host.program c.args.self.now.host.now in
    let deps = within deps_of (decl_at p c.args.self.now.place.at c.args.symbol c.args.decl) in
    let f = lists.dep_gives (trace_at p c.args.self.now.place) c.args.symbol in
    let after = g.S.Sink.after in
    let stops = each_stops after f deps c.loop-index.sink c.visit_dep.new.sink c.loop-index.index c.in-Some.dep (sym c.in-Some.ensures) c.in_err-visit_dep.ensures in
    ap (λ b. (c.visit_dep.new.sink, b)) (failed c.from_residual.result c.from_residual.ensures.0) ∙ stops ∙ c.loop-index.invariant

pub loop-index-preserved : goal.loop-index-preserved
loop-index-preserved g c =
    let p = g.H.Host.program c.args.self.now.host.now in
    let deps = within deps_of (decl_at p c.args.self.now.place.at c.args.symbol c.args.decl) in
    let f = lists.dep_gives (trace_at p c.args.self.now.place) c.args.symbol in
    let after = g.S.Sink.after in
    elim c.match-dep.branch [
      | in-Some+in_ok-visit_dep w ↦
          ap (λ s. feed after s _) w.sink-is ∙ each_goes after f deps c.loop-index.sink w.visit_dep.new.sink c.loop-index.index w.in-Some.dep (sym w.in-Some.ensures) w.in_ok-visit_dep.ensures ∙ c.loop-index.invariant
      | in_default w ↦ absurd (omega (arith, nth_none deps c.loop-index.index (sym w.in_default.ensures), c.requires, c.loop-index-test.true))
    ]
