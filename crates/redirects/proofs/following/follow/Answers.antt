use Rattle.std.proofs.Common.{◌≡◌, suc, ◌+◌, ◌-◌, false, take, sym, refl, ap, ◌∙◌, arith}
use Rattle.std.proofs.lemmas.List.{length-set, take_more_set}
use Rattle.redirects.specs.Following.{usable, seen_before, walk, followed}
use Rattle.redirects.proofs.Steps.{contains_seen, walk_on}
use Rattle.redirects.proofs.following.follow.Goals as goal

pub loop-count-init : goal.loop-count-init
unfolding followed
loop-count-init c = (refl, refl)

pub loop-count-preserved : goal.loop-count-preserved
loop-count-preserved c =
    let n = c.loop-count.count in
    let seen = c.loop-count.seen in
    let rs = usable c.args.modules c.args.redirects.now in
    let to = c.in-Some.to in
    let cut : n - 0 ≡ n = omega arith in
    let new : seen_before to (take n seen) ≡ false = ap (λ k. seen_before to (take k seen)) (sym cut) ∙ sym (contains_seen to (take (n - 0) seen) c.contains.result c.contains.ensures.cases) ∙ c.if-contains.false in
    let one : 10 - n ≡ suc (10 - (n + 1)) = omega arith in
    let on = walk_on rs (take n seen) c.loop-count.end (10 - n) (10 - (n + 1)) to one (sym c.in-Some.ensures) new in
    let more = take_more_set seen n to (omega (arith, c.loop-count.invariant.1)) in
    (ap (λ l. walk rs (10 - (n + 1)) l to) more ∙ sym on ∙ c.loop-count.invariant.0, length-set seen n to ∙ c.loop-count.invariant.1)
