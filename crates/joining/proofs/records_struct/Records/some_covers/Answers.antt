use Rattle.std.proofs.Common.{Bool, filter, vec_items, ◌∙◌, rules, tests}
use Rattle.std.proofs.lemmas.Iterator.{YieldsList-from_slice}
use Rattle.std.proofs.lemmas.Iterator.Consumers.{YieldsList-from_filter}
use Rattle.std.proofs.lemmas.Iterator.Search.{any_from_yields_List}
use Rattle.ids.specs.Paths.{names_of}
use Rattle.ids.specs.declared.path_struct.Path.{Path}
use Rattle.joining.specs.Covering.{covers}
use Rattle.joining.specs.Rows.{of_module}
use Rattle.joining.specs.declared.rows.Row.{Row}
use Rattle.joining.proofs.RowFacts.{any_paths}
use Rattle.joining.proofs.records_struct.Records.some_covers.Goals as goal

pub returns : goal.returns
returns c =
    let m = c.args.«module» in
    let test : Path → Bool = λ p. covers (names_of p) c.args.path.now in
    any_from_yields_List (λ (row : Row). test row.path) _ _ _ c.any.ensures.ran (YieldsList-from_filter _ (of_module m) (YieldsList-from_slice (vec_items c.args.self.now.rows) cc) c.filter.ensures.closure (λ x r q k. search (rules, tests))) (λ x b q k. search (rules, tests)) ∙ any_paths test (filter (of_module m) (vec_items c.args.self.now.rows))
