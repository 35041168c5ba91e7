use Rattle.std.proofs.Common.{◌≡◌, filter, vec_items, rules}
use Rattle.std.proofs.lemmas.Fn.{filter_same}
use Rattle.joining.specs.Rows.{stays}
use Rattle.joining.proofs.RowFacts.{apart_kept, tidy_kept}
use Rattle.joining.proofs.records_struct.Records.remove_covered.Goals as goal

pub invariant_of-self : goal.invariant_of-self
invariant_of-self c =
    let t = c.args.self.now in
    let test = stays c.args.«module» c.args.front.now in
    let left : vec_items c.retain.new.self ≡ filter test (vec_items t.rows) = filter_same _ test _ (λ x b f' k. search rules) (vec_items t.rows) (vec_items c.retain.new.self) c.retain.ensures.filtered in
    record { room = search rules; few = search rules; tidy = rw left (tidy_kept test (vec_items t.extents) (vec_items t.rows) t.tidy); apart = rw left (apart_kept test (vec_items t.rows) t.apart) }

pub returns-clause-rows : goal.returns-clause-rows
returns-clause-rows c = filter_same _ (stays c.args.«module» c.args.front.now) _ (λ x b f' k. search rules) (vec_items c.args.self.now.rows) (vec_items c.retain.new.self) c.retain.ensures.filtered
