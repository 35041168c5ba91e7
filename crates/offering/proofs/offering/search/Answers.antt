use Rattle.std.proofs.Common.{◌≡◌, ℕ, ◌+◌, ◌<◌, Bool, false, eqb, length, replicate, None, sym, ◌∙◌, subst, inl, inr, arith}
use Rattle.std.proofs.lemmas.Bool.{eq-eqb, true≢false}
use Rattle.ids.specs.declared.numbers.ModuleId.{ModuleId}
use Rattle.ids.specs.declared.numbers.NameId.{NameId}
use Rattle.host.specs.Lookups.{module_at}
use Rattle.host.specs.Program.{Program}
use Rattle.offering.specs.Marks.{met}
use Rattle.offering.specs.Offers.{Offers, Passes, First}
use Rattle.offering.specs.Walks.{Visited}
use Rattle.resolution.specs.Targets.{stands}
use Rattle.resolution.proofs.Told.{counts}
use Rattle.offering.proofs.Following.{leads_same, leads_within}
use Rattle.offering.proofs.Places.{before_or_at}
use Rattle.offering.proofs.Walking.{walk_begins, walk_finds, walk_goes_on, walk_ends}
use Rattle.offering.proofs.offering.search.Goals as goal
use Rattle.offering.proofs.offering.search.Goals.{else-places-test, then-places-test+in-Some+in-Some-waiting+then-exports}

-- one place more passes nothing on
no_more : (p : Program) (f : NameId) (m : ModuleId) (place : ℕ) → ((j : ℕ) → j < place → Passes p f m j → ⊥) → (Passes p f m place → ⊥) → (j : ℕ) → j < place + 1 → Passes p f m j → ⊥
no_more p f m place before here j h passes =
    elim (before_or_at place j h) [ inl less ↦ before j less passes | inr e ↦ here (subst (λ k. Passes p f m k) e passes) ]

-- a name that the test does not find to be `default`
not_default : {b : Bool} (f : NameId) → b ≡ eqb f.0 0 → b ≡ false → f.0 ≡ 0 → ⊥
not_default f is off e = true≢false (sym (is ∙ eq-eqb f.0 0 e) ∙ off)

pub places-preserved-in_default : goal.places-preserved-in_default
places-preserved-in_default g c =
    let inv = c.places.invariant in
    record {
      none_yet = inv.none_yet;
      long = inv.long;
      before = no_more (g.H.Host.program c.args.host.now) c.args.name c.args.«module» c.places.place inv.before (λ passes. c.in_default.ensures.law passes.to passes.leads);
    }

pub loop-next-init : goal.loop-next-init
loop-next-init g c =
    let p = g.H.Host.program c.args.host.now in
    let to = c.in-Some.target in
    let marks : c.begin-walk.result.marks.now ≡ met (replicate (length p.modules) 0) (stands p to) = cc in
    record {
      same_host = c.begin-walk.ensures.same_host;
      to = to;
      leads = c.in-Some.ensures.law;
      walked = walk_begins p c.args.name (stands p to) c.begin-walk.result.marks.now marks;
      none_yet = c.places.invariant.none_yet;
    }

pub loop-next-preserved : goal.loop-next-preserved
loop-next-preserved g c =
    let p = g.H.Host.program c.args.host.now in
    let inv = c.loop-next.invariant in
    let next = c.in-Some-waiting.next in
    let here = c.in-Some-waiting.ensures in
    let lacks = sym c.exports.ensures.value ∙ c.if-exports.false in
    let apart = not_default c.args.name c.eq.ensures c.if-eq.false in
    let visited = subst (λ h. Visited (g.H.Host.program h) next c.loop-next.walk.marks.now c.visit.new.self.marks.now) inv.same_host c.visit.ensures.visited in
    record {
      same_host = c.visit.ensures.same_host ∙ inv.same_host;
      to = inv.to;
      leads = inv.leads;
      walked = walk_goes_on p c.args.name (stands p inv.to) next apart inv.walked here.0 here.1 lacks visited;
      none_yet = inv.none_yet;
    }

pub places-preserved : goal.places-preserved
places-preserved g c =
    let p = g.H.Host.program c.args.host.now in
    let f = c.args.name in
    let m = c.args.«module» in
    let place = c.places.place in
    let inv = c.loop-next.invariant in
    let none = walk_ends p f (stands p inv.to) inv.walked c.in_default-waiting.ensures in
    let here = λ (passes : Passes p f m place). none (subst (λ z. Offers p f (stands p z)) (leads_same p m place passes.to inv.to passes.leads inv.leads) passes.offers) in
    record {
      none_yet = inv.none_yet;
      long = omega (arith, c.begin-walk.auto.sheet, inv.walked.long);
      before = no_more p f m place c.places.invariant.before here;
    }

pub returns-clause-first : goal.returns-clause-first
returns-clause-first g c =
    let p = g.H.Host.program c.args.host.now in
    let f = c.args.name in
    let m = c.args.«module» in
    elim c.places-test.branch [
      | else-places-test w ↦
          let inv = c.places.invariant in
          let many = counts (module_at p m) c.in_ok-info.info (sym c.module.ensures ∙ c.in_ok-info.was) in
          let none : First p f m None = λ j passes. inv.before j (omega (arith, many.1, w.places-test.false, leads_within p m j passes.to passes.leads)) passes in
          subst (λ o. First p f m o) (sym (w.found-is ∙ inv.none_yet)) none
      | then-places-test+in-Some+in-Some-waiting+then-exports w ↦
          let inv = w.loop-next.invariant in
          let next = w.in-Some-waiting.next in
          let here = w.in-Some-waiting.ensures in
          let apart = not_default f c.eq.ensures c.if-eq.false in
          let passes : Passes p f m c.places.place = record { not_default = apart; to = inv.to; leads = inv.leads; offers = walk_finds p f (stands p inv.to) next inv.walked here.0 here.1 (sym w.exports.ensures.value ∙ w.if-exports.true) } in
          subst (λ o. First p f m o) (sym w.found-is) (passes, c.places.invariant.before)
    ]
