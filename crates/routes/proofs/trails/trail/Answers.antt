use Rattle.std.proofs.Common.{[], ◌∷◌, reverse, get_or, vec_items, sym, refl, ap, ◌∙◌, subst, arith}
use Rattle.std.proofs.lemmas.List.{reverse-append}
use Rattle.std.proofs.lemmas.Option.{slice_get-get_or}
use Rattle.routes.specs.Routes.{Trail, here, on, start_of, step_of}
use Rattle.routes.proofs.trails.trail.Goals as goal

pub loop-at-init : goal.loop-at-init
loop-at-init c = (c.requires.inside, subst (λ l. Trail c.args.reached.now c.args.end c.args.end (reverse l)) (sym c.new-steps.ensures.items) (here refl))

pub loop-at-smaller : goal.loop-at-smaller
loop-at-smaller c = c.requires.down c.loop-at.at _ c.loop-at-test.true (slice_get-get_or c.args.reached.now c.loop-at.at (start_of (record { 0 = 0 })) c.loop-at.invariant.0)

pub loop-at-preserved : goal.loop-at-preserved
loop-at-preserved c =
    let rs = c.args.reached.now in
    let at = c.loop-at.at in
    let one = get_or rs at (start_of (record { 0 = 0 })) in
    let there = slice_get-get_or rs at (start_of (record { 0 = 0 })) c.loop-at.invariant.0 in
    let lower = c.requires.down at one c.loop-at-test.true there in
    let turned = reverse-append (vec_items c.loop-at.steps) (step_of one ∷ []) in
    let steps = ap reverse c.in_ok-push.ensures.items ∙ turned in
    (omega (arith, lower, c.loop-at.invariant.0), subst (λ l. Trail rs c.args.end one.from l) (sym steps) (on c.loop-at-test.true there refl c.loop-at.invariant.1))
