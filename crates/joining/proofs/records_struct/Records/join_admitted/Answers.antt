use Rattle.std.proofs.Common.{Some, vec_items, sym, ap, ◌∙◌}
use Rattle.ids.proofs.Padding.{same_path}
use Rattle.ids.specs.Paths.{default_path}
use Rattle.joining.specs.Joining.{handed}
use Rattle.joining.specs.Rows.{paths_of, shaped}
use Rattle.joining.specs.declared.requests.Request.TheVariants.{Path as Ask}
use Rattle.joining.proofs.records_struct.Records.join_admitted.Goals as goal

pub returns-else-not-asks_default-clause-out : goal.returns-else-not-asks_default-clause-out
returns-else-not-asks_default-clause-out c =
    let out = ap (λ p. Some (Ask p)) (same_path c.single.result default_path c.single.ensures) in
    out ∙ sym c.if-not-asks_default.ensures.out ∙ ap (λ e. handed (shaped e (paths_of c.args.«module» (vec_items c.args.self.now.rows))) c.args.request) c.in-Star.ensures
