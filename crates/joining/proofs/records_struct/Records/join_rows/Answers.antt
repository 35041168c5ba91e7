use Rattle.std.proofs.Common.{◌≡◌, ◌+◌, take, sym, ap, ◌∙◌, arith}
use Rattle.std.proofs.lemmas.List.{append-nil}
use Rattle.joining.specs.Joining.{joined, joined_paths}
use Rattle.joining.specs.Rows.{of_module, paths_of}
use Rattle.joining.specs.Tables.{record_of}
use Rattle.joining.specs.declared.requests.Request.TheVariants.{Path as Ask}
use Rattle.joining.proofs.RowFacts.{length_more, paths_more}
use Rattle.joining.proofs.TableFacts.{changes_to, two_changes, joined_push, one_row}
use Rattle.joining.proofs.records_struct.Records.join_rows.Goals as goal
use Rattle.joining.proofs.records_struct.Records.join_rows.Goals.{then-eq, else-eq}

pub loop-row-preserved : goal.loop-row-preserved
loop-row-preserved c =
    let before = record_of c.args.self.now c.args.«module» in
    let m = c.args.«module» in
    let row = c.row-item.result in
    let rows = c.args.rows.now in
    let i = c.loop-row.row-index in
    let inv = c.loop-row.invariant in
    let lengths = length_more m rows i row c.loop-row-test.true c.row-item.is in
    let paths = paths_more m rows i row c.loop-row-test.true c.row-item.is in
    elim c.if-eq.branch [
      | then-eq w ↦
          let here : of_module m row ≡ _ = sym c.eq.ensures ∙ w.if-eq.true in
          let change = w.join_admitted.ensures.changes in
          let to : joined (record_of c.loop-row.self m) (Ask row.path) ≡ joined_paths before (paths_of m (take (i + 1) rows)) = ap (λ r. joined r (Ask row.path)) inv.so_far.here ∙ sym (rw (paths, here) (joined_push before (paths_of m (take i rows)) row.path)) in
          rw w.self-is record { so_far = changes_to to (two_changes inv.so_far change); room = omega (arith, rw here at lengths, inv.room, change.rows_follow, change.limit_stays, one_row (record_of c.loop-row.self m) row.path) }
      | else-eq w ↦
          let here : of_module m row ≡ _ = sym c.eq.ensures ∙ w.if-eq.false in
          rw w.self-is record { so_far = changes_to (ap (joined_paths before) (sym (rw here at paths ∙ append-nil _))) inv.so_far; room = omega (arith, rw here at lengths, inv.room) }
    ]
