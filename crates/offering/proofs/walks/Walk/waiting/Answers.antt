use Rattle.std.proofs.Common.{◌==◌, rules, tests, sym, ◌∙◌, arith}
use Rattle.std.proofs.lemmas.Iterator.{YieldsList-from_slice}
use Rattle.std.proofs.lemmas.Iterator.Search.{position_from_yields_List}
use Rattle.std.proofs.lemmas.List.Quantifiers.{position-Some}
use Rattle.host.proofs.Decided.{decides_kept}
use Rattle.offering.proofs.walks.Walk.waiting.Goals as goal

pub overflow_cast-result : goal.overflow_cast-result
overflow_cast-result g c =
    let walk = c.args.self.now in
    let few = ((decides_kept (g.H.Host.program walk.host.now)).0 (g.met.H.Host.kept walk.host.now)).modules_few in
    let found = position_from_yields_List (λ m. m == 1) _ _ c.position.result c.position.ensures.ran (YieldsList-from_slice walk.marks.now (cc)) (λ x b q k. search (rules, tests)) in
    let inside = position-Some (λ m. m == 1) walk.marks.now c.in_ok-place.place 0 (sym found ∙ c.in_ok-place.was) in
    omega (arith, inside.0, few, walk.long)
