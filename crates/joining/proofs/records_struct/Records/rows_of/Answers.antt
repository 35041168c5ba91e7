use Rattle.std.proofs.Common.{filter, vec_items, sym, ◌∙◌, rules, tests}
use Rattle.std.proofs.lemmas.Iterator.{YieldsList-from_slice}
use Rattle.std.proofs.lemmas.Iterator.Consumers.{YieldsList-from_filter, count_from_yields_List}
use Rattle.std.proofs.lemmas.List.{length-map}
use Rattle.joining.specs.Rows.{of_module}
use Rattle.joining.proofs.records_struct.Records.rows_of.Goals as goal

pub returns : goal.returns
returns c =
    let m = c.args.«module» in
    count_from_yields_List c.filter.result _ c.count.ensures.ran (YieldsList-from_filter _ (of_module m) (YieldsList-from_slice (vec_items c.args.self.now.rows) cc) c.filter.ensures.closure (λ x r q k. search (rules, tests))) ∙ sym (length-map (filter (of_module m) (vec_items c.args.self.now.rows)) (λ row. row.path))
