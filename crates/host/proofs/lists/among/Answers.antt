use Rattle.std.proofs.Common.{eqb, ◌∙◌, rules, tests}
use Rattle.std.proofs.lemmas.Iterator.{YieldsList-from_slice}
use Rattle.std.proofs.lemmas.Iterator.Search.{any_from_yields_List}
use Rattle.host.proofs.Among.{any_among}
use Rattle.host.proofs.lists.among.Goals as goal

pub returns : goal.returns
returns g c of gives =
    let xs = c.args.xs.now in
    any_from_yields_List (λ x. eqb c.args.number (of x)) _ _ _ c.any.ensures.ran (YieldsList-from_slice xs cc) (λ x b q k. search (rules, tests, gives)) ∙ any_among of c.args.number xs
