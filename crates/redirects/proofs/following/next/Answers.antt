use Rattle.std.proofs.Common.{◌==◌, ◌&&◌, rules, tests}
use Rattle.std.proofs.lemmas.Iterator.{YieldsList-from_slice}
use Rattle.std.proofs.lemmas.Iterator.Search.{find_from_yields_List}
use Rattle.redirects.specs.Following.{stays}
use Rattle.redirects.proofs.Steps.{next_found}
use Rattle.redirects.proofs.following.next.Goals as goal

pub returns : goal.returns
returns c =
    let rs = c.args.redirects.now in
    let m = c.args.from in
    let n = c.args.modules in
    next_found n rs m c.find.result c.map.result (find_from_yields_List (λ r. r.from.0 == m.0 && stays n r) _ _ _ c.find.ensures.ran (YieldsList-from_slice rs cc) (λ x b q k. search (rules, tests))) (search rules)
