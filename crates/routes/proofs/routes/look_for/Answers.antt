use Rattle.std.proofs.Common.{length, vec_items, sym, ap, ◌∙◌, subst, arith, length-append}
use Rattle.std.proofs.lemmas.Option.{slice_get_within}
use Rattle.resolution.proofs.Places.{nth_none}
use Rattle.offering.proofs.Ending.{missing}
use Rattle.routes.specs.Reach.{modules_in, Spread}
use Rattle.routes.specs.Routes.{start_of, Trail}
use Rattle.routes.proofs.Searching.{search_goes_on, fresh_fewer, nothing_offered, trail_route}
use Rattle.routes.proofs.routes.look_for.Goals as goal

pub returns-then-exports : goal.returns-then-exports
returns-then-exports g c =
    let p = g.H.Host.program c.args.host.now in
    let f = c.args.name in
    let rs = vec_items c.loop-one.search.reached in
    let turn = c.loop-one.turn in
    let inv = c.loop-one.invariant in
    let there = sym c.reached_at.ensures ∙ c.in-Some.is in
    let trail = subst (λ l. Trail l turn 0 (vec_items c.in_ok-trail.field-0)) c.as_slice.ensures.value c.in_ok-trail.ensures in
    trail_route p f c.args.start rs turn turn 0 c.in-Some.one (start_of c.args.start) (vec_items c.in_ok-trail.field-0) c.requires inv.searching there (sym c.exports.ensures.value ∙ c.if-exports.true) trail inv.searching.first

pub overflow_add-turn : goal.overflow_add-turn
overflow_add-turn g c = omega (arith, slice_get_within (vec_items c.loop-one.search.reached) c.loop-one.turn c.in-Some.one (sym c.reached_at.ensures ∙ c.in-Some.is))

pub loop-one-smaller : goal.loop-one-smaller
loop-one-smaller g c =
    let p = g.H.Host.program c.args.host.now in
    let rs = vec_items c.loop-one.search.reached in
    let turn = c.loop-one.turn in
    let there = sym c.reached_at.ensures ∙ c.in-Some.is in
    let spread = subst (λ h. Spread (g.H.Host.program h) c.in-Some.one.«module» turn (λ i. Unit {0}) rs (vec_items c.spread.new.self.reached)) c.loop-one.invariant.same_host c.in_ok-spread.ensures.spread in
    let fewer = fresh_fewer p rs spread.new spread.fresh in
    let grown = ap (λ l. missing (length p.modules) (modules_in l)) spread.grown in
    let long = ap length spread.grown ∙ length-append rs spread.new in
    let inside = slice_get_within rs turn c.in-Some.one there in
    omega (arith, fewer, grown, long, inside)

pub loop-one-preserved : goal.loop-one-preserved
loop-one-preserved g c =
    let p = g.H.Host.program c.args.host.now in
    let rs = vec_items c.loop-one.search.reached in
    let turn = c.loop-one.turn in
    let inv = c.loop-one.invariant in
    let there = sym c.reached_at.ensures ∙ c.in-Some.is in
    let spread = subst (λ h. Spread (g.H.Host.program h) c.in-Some.one.«module» turn (λ i. Unit {0}) rs (vec_items c.spread.new.self.reached)) inv.same_host c.in_ok-spread.ensures.spread in
    record {
      same_host = c.in_ok-spread.ensures.same_host ∙ inv.same_host;
      searching = search_goes_on p c.args.name c.args.start rs (vec_items c.spread.new.self.reached) turn c.in-Some.one inv.searching there (sym c.exports.ensures.value ∙ c.if-exports.false) spread;
    }

pub returns : goal.returns
returns g c =
    let p = g.H.Host.program c.args.host.now in
    let rs = vec_items c.loop-one.search.reached in
    let over = nth_none rs c.loop-one.turn (sym c.reached_at.ensures ∙ c.in_default.is) in
    nothing_offered p c.args.name c.args.start rs c.loop-one.turn c.requires c.loop-one.invariant.searching over
