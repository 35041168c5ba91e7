use Rattle.std.proofs.Common.{◌==◌, ◌∙◌, rules, tests}
use Rattle.std.proofs.lemmas.Iterator.{YieldsList-from_slice}
use Rattle.std.proofs.lemmas.Iterator.Search.{any_from_yields_List}
use Rattle.routes.proofs.Spreads.{contains_any}
use Rattle.routes.proofs.reached.holds.Goals as goal

pub returns : goal.returns
returns c =
    let rs = c.args.reached.now in
    let m = c.args.«module» in
    let found = any_from_yields_List (λ r. r.«module».0 == m.0) _ _ c.any.result c.any.ensures.ran (YieldsList-from_slice rs (cc)) (λ x b q k. search (rules, tests)) in
    found ∙ contains_any rs m
