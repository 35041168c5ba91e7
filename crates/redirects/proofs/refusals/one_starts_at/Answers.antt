use Rattle.std.proofs.Common.{eqb, ◌∙◌, rules, tests}
use Rattle.std.proofs.lemmas.Iterator.{YieldsList-from_slice}
use Rattle.std.proofs.lemmas.Iterator.Search.{any_from_yields_List}
use Rattle.host.proofs.Among.{any_among}
use Rattle.redirects.proofs.refusals.one_starts_at.Goals as goal

pub returns : goal.returns
returns c =
    let rs = c.args.redirects.now in
    any_from_yields_List (λ r. eqb c.args.from.0 r.from.0) _ _ _ c.any.ensures.ran (YieldsList-from_slice rs cc) (λ x b q k. search (rules, tests)) ∙ any_among (λ r. r.from.0) c.args.from.0 rs
