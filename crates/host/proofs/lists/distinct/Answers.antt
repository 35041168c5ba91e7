use Rattle.std.proofs.Common.{◌≡◌, true, false, not, ◌&&◌, map, sym, ap, ◌∙◌}
use Rattle.host.specs.Tests.{among, distinct}
use Rattle.host.proofs.lists.distinct.Goals as goal

pub returns-then-among : goal.returns-then-among
returns-then-among g c of gives =
    let rest = map of c.in-Some.others.now in
    let cut = ap (λ l. distinct (map of l)) c.in-Some.ensures.cases.0 in
    let first = gives _ _ c.key.ensures in
    let found : among (of c.in-Some.first.now) rest ≡ true = ap (λ n. among n rest) (sym first) ∙ sym (c.among.ensures of gives) ∙ c.if-among.true in
    sym (sym (c.loop-first.invariant of gives) ∙ cut ∙ ap (λ b. not b && distinct rest) found)

pub loop-first-preserved : goal.loop-first-preserved
loop-first-preserved g c of gives =
    let rest = map of c.in-Some.others.now in
    let cut = ap (λ l. distinct (map of l)) c.in-Some.ensures.cases.0 in
    let first = gives _ _ c.key.ensures in
    let alone : among (of c.in-Some.first.now) rest ≡ false = ap (λ n. among n rest) (sym first) ∙ sym (c.among.ensures of gives) ∙ c.if-among.false in
    sym (cut ∙ ap (λ b. not b && distinct rest) alone) ∙ c.loop-first.invariant of gives
