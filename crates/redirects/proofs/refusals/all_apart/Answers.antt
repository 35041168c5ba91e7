use Rattle.std.proofs.Common.{not, ◌&&◌, sym, ap, ◌∙◌}
use Rattle.std.proofs.lemmas.List.{nil_from_length}
use Rattle.host.specs.Tests.{distinct}
use Rattle.redirects.specs.Refusals.{starts}
use Rattle.redirects.proofs.refusals.all_apart.Goals as goal

pub returns-then-one_starts_at : goal.returns-then-one_starts_at
returns-then-one_starts_at c =
    let others = c.in-Some.others.now in
    let cut = ap (λ l. distinct (starts l)) c.in-Some.ensures.cases.0 in
    let here = sym c.one_starts_at.ensures ∙ c.if-one_starts_at.true in
    sym (cut ∙ ap (λ b. not b && distinct (starts others)) here) ∙ c.loop-first.invariant

pub loop-first-preserved : goal.loop-first-preserved
loop-first-preserved c =
    let others = c.in-Some.others.now in
    let cut = ap (λ l. distinct (starts l)) c.in-Some.ensures.cases.0 in
    let here = sym c.one_starts_at.ensures ∙ c.if-one_starts_at.false in
    sym (cut ∙ ap (λ b. not b && distinct (starts others)) here) ∙ c.loop-first.invariant

pub returns : goal.returns
returns c = sym (ap (λ l. distinct (starts l)) (nil_from_length c.loop-first.rest.now c.in_default.ensures.cases)) ∙ c.loop-first.invariant
