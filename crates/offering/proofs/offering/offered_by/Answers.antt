use Rattle.std.proofs.Common.{◌≡◌, sym, ◌∙◌, subst}
use Rattle.offering.specs.Offers.{First}
use Rattle.resolution.specs.Targets.{exports}
use Rattle.offering.proofs.OwnOrPassed.{found_offers, only_own}
use Rattle.offering.proofs.Standard.{offered_all}
use Rattle.offering.proofs.offering.offered_by.Goals as goal

pub returns-then-is_some : goal.returns-then-is_some
returns-then-is_some g c =
    let p = g.H.Host.program c.args.host.now in
    let searched = c.in_ok-passed.ensures in
    let first = subst (λ x. First p c.args.name x c.in_ok-passed.passed) c.standing_module-standing.ensures.value searched.1 in
    let o = found_offers p c.args.name _ c.in_ok-passed.passed first (sym c.is_some.ensures ∙ c.if-is_some.true) in
    (searched.0, offered_all p c.args.name _ _ (λ _. o, λ _. c.if-is_some.true), searched.2)

pub returns-else-is_some : goal.returns-else-is_some
returns-else-is_some g c =
    let p = g.H.Host.program c.args.host.now in
    let searched = c.in_ok-passed.ensures in
    let first = subst (λ x. First p c.args.name x c.in_ok-passed.passed) c.standing_module-standing.ensures.value searched.1 in
    let own = subst (λ x. c.exports.result ≡ exports p x c.args.name) c.standing_module-standing.ensures.value c.exports.ensures.value in
    (searched.0, offered_all p c.args.name _ _ (only_own p c.args.name _ c.in_ok-passed.passed first (sym c.is_some.ensures ∙ c.if-is_some.false) c.exports.result own), searched.2)
