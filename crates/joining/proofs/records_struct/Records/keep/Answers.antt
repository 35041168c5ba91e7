use Rattle.std.proofs.Common.{◌≡◌, true, [], ◌∷◌, ◌++◌, vec_items, ap, ◌∙◌}
use Rattle.std.proofs.lemmas.Option.{get_or_from_slice_get}
use Rattle.std.specs.List.{slice_get}
use Rattle.joining.specs.Rows.{keeps_paths}
use Rattle.joining.specs.declared.rows.Extent.TheVariants.{Paths}
use Rattle.joining.proofs.RowFacts.{apart_push, tidy_push, clear_of, clear_uncovered}
use Rattle.joining.proofs.TableFacts.{keep_changes, new_row}
use Rattle.joining.proofs.records_struct.Records.keep.Goals as goal

pub invariant_of-self-clause-tidy : goal.invariant_of-self-clause-tidy
invariant_of-self-clause-tidy c =
    let m = c.args.«module» in
    let mid = c.remove_covered.new.self in
    let there = ap (λ es. keeps_paths (slice_get (vec_items es) m.0)) c.remove_covered.ensures.extents ∙ ap keeps_paths c.requires.paths in
    rw c.push_reserved.ensures.items (tidy_push (vec_items mid.extents) (vec_items mid.rows) record { «module» = m; path = c.args.path } mid.tidy there)

pub invariant_of-self-clause-apart : goal.invariant_of-self-clause-apart
invariant_of-self-clause-apart c =
    let m = c.args.«module» in
    let p = c.args.path in
    let mid = c.remove_covered.new.self in
    let left = rw c.names.ensures at c.remove_covered.ensures.rows in
    let clear : clear_of (vec_items mid.rows) record { «module» = m; path = p } ≡ true = rw left (clear_uncovered m p (vec_items c.args.self.now.rows) c.requires.uncovered) in
    rw c.push_reserved.ensures.items (apart_push (vec_items mid.rows) record { «module» = m; path = p } mid.apart clear)

pub returns : goal.returns
returns c =
    let t = c.args.self.now in
    let m = c.args.«module» in
    let p = c.args.path in
    let items = c.push_reserved.ensures.items ∙ ap (λ l. l ++ (new_row (vec_items t.extents) (vec_items t.rows) m p ∷ [])) (rw c.names.ensures at c.remove_covered.ensures.rows) in
    keep_changes t _ m p (get_or_from_slice_get (vec_items t.extents) m.0 Paths Paths c.requires.paths) c.requires.uncovered items c.remove_covered.ensures.extents c.remove_covered.ensures.limit
