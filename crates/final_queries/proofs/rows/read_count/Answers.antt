-- The count so far and the rows left that are read are all that are read.
use Rattle.std.proofs.Common.{◌≡◌, ◌+◌, ◌∙◌, ◌∷◌, sym, ap, arith, drop, length}
use Rattle.table_rows.specs.LentRows.{row_of}
use Rattle.final_queries.{specs.Joining.reads, proofs.{ReadRows.{read_first, left_out}, rows.read_count.Goals.{then-is_read, else-is_read}}}
use Rattle.final_queries.proofs.rows.read_count.Goals as goal

pub loop-at-preserved : goal.loop-at-preserved
loop-at-preserved c =
    let rows = c.args.rows.now in
    let i = c.loop-at.at in
    let row = row_of c.get.result in
    let count = c.loop-at.invariant.count in
    let small = c.loop-at.invariant.small in
    elim c.if-is_read.branch [
      | then-is_read w ↦
          let one : length (reads (drop i rows)) ≡ length (row ∷ reads (drop (i + 1) rows)) =
          ap length (read_first rows i row c.get.ensures (sym c.is_read.ensures ∙ w.if-is_read.true)) in
          rw w.count-is record { count = omega arith; small = omega arith }
      | else-is_read w ↦
          let none = ap length (left_out rows i row c.get.ensures (sym c.is_read.ensures ∙ w.if-is_read.false)) in
          rw w.count-is record { count = omega arith; small = omega arith }
    ]
