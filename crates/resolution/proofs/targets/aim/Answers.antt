use Rattle.std.proofs.Common.{◌≡◌, ◌+◌, cond, drop, None, rules, tests, sym, ap, ◌∙◌, arith}
use Rattle.std.proofs.lemmas.List.{drop_all}
use Rattle.host.specs.Lookups.{within, module_at}
use Rattle.resolution.specs.Targets as spec
use Rattle.resolution.proofs.Places.{drop_nth, nth_none}
use Rattle.resolution.proofs.Told.{counts}
use Rattle.resolution.proofs.targets.aim.Goals as goal

pub returns-in_err-dependency : goal.returns-in_err-dependency
returns-in_err-dependency g c =
    let ds = within (λ x. x.dependencies) (module_at (g.H.Host.program c.args.host.now) c.args.«module») in
    let past = nth_none ds c.loop-place.place (sym c.dependency.ensures ∙ c.in_err-dependency.was) in
    let none : c.from_residual-in_err-dependency.result ≡ None = search (rules, tests) in
    none ∙ sym (ap (λ l. spec.aim l c.args.specifier) (drop_all c.loop-place.place ds past)) ∙ c.loop-place.invariant

pub returns-then-eq : goal.returns-then-eq
returns-then-eq g c =
    let n = c.args.specifier in
    let ds = within (λ x. x.dependencies) (module_at (g.H.Host.program c.args.host.now) c.args.«module») in
    let d = c.in_ok-dependency.dependency in
    let cut = drop_nth ds c.loop-place.place d (sym c.dependency.ensures ∙ c.in_ok-dependency.was) in
    let same = sym c.eq.ensures ∙ c.if-eq.true in
    let rest = spec.aim (drop (c.loop-place.place + 1) ds) n in
    sym (ap (λ b. cond b d.target rest) same) ∙ sym (ap (λ l. spec.aim l n) cut) ∙ c.loop-place.invariant

pub loop-place-preserved : goal.loop-place-preserved
loop-place-preserved g c =
    let n = c.args.specifier in
    let ds = within (λ x. x.dependencies) (module_at (g.H.Host.program c.args.host.now) c.args.«module») in
    let d = c.in_ok-dependency.dependency in
    let cut = drop_nth ds c.loop-place.place d (sym c.dependency.ensures ∙ c.in_ok-dependency.was) in
    let other = sym c.eq.ensures ∙ c.if-eq.false in
    let rest = spec.aim (drop (c.loop-place.place + 1) ds) n in
    sym (ap (λ b. cond b d.target rest) other) ∙ sym (ap (λ l. spec.aim l n) cut) ∙ c.loop-place.invariant

pub returns : goal.returns
returns g c =
    let ds = within (λ x. x.dependencies) (module_at (g.H.Host.program c.args.host.now) c.args.«module») in
    let many = counts (module_at (g.H.Host.program c.args.host.now) c.args.«module») c.in_ok-info.info (sym c.module.ensures ∙ c.in_ok-info.was) in
    sym (ap (λ l. spec.aim l c.args.specifier) (drop_all c.loop-place.place ds (omega (arith, many.0, c.loop-place-test.false)))) ∙ c.loop-place.invariant
