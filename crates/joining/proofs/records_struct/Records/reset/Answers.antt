use Rattle.std.proofs.Common.{set, vec_items, ap, ◌∙◌}
use Rattle.joining.specs.Rows.{paths_of}
use Rattle.joining.proofs.TableFacts.{cleared_here, tidy_set, reset_changes}
use Rattle.joining.proofs.records_struct.Records.reset.Goals as goal

pub invariant_of-self-clause-tidy : goal.invariant_of-self-clause-tidy
invariant_of-self-clause-tidy c =
    let t = c.args.self.now in
    let m = c.args.«module» in
    tidy_set _ _ m c.args.extent c.remove_covered.new.self.tidy (ap (paths_of m) c.remove_covered.ensures.rows ∙ cleared_here (vec_items t.extents) (vec_items t.rows) m)

pub returns : goal.returns
returns c =
    let m = c.args.«module» in
    reset_changes c.args.self.now _ m c.args.extent c.requires c.remove_covered.ensures.rows (ap (λ es. set (vec_items es) m.0 c.args.extent) c.remove_covered.ensures.extents) c.remove_covered.ensures.limit
