-- A row that is read and whose condition holds is added, and any other changes nothing of the rows filtered.
use Rattle.std.proofs.Common.{◌≡◌, ◌∙◌, ℕ, List, true, false, sym, ap, refl, rules, le_trans}
use Rattle.epoch_model.specs.declared.tables.Row.{Row}
use Rattle.query_lang.specs.{Streams.expr_value, Words.holds}
use Rattle.table_rows.specs.LentRows.{row_of}
use Rattle.final_queries.{specs.{Finals.{columns_of, filtered_rows}, Joining.reads}, proofs.ReadRows.{made_on, passed_on}}
use Rattle.final_queries.proofs.rows.filtered.Goals.{then-is_read+then-value_of-ne0+in_ok-push_plain, else-is_read}
use Rattle.final_queries.proofs.rows.filtered.Goals.{else-is_read-via-then-is_read+else-value_of-ne0, else-is_read-via-else-is_read}
use Rattle.final_queries.proofs.rows.filtered.Goals as goal

pub loop-at-preserved : goal.loop-at-preserved
loop-at-preserved g c =
    let e = c.args.condition.now in
    let of : ℕ → List Row → List Row = λ _ rows. filtered_rows e (reads rows) in
    let row = row_of c.get-row.result in
    let was = c.loop-at.invariant in
    elim c.if-is_read.branch [
      | then-is_read+then-value_of-ne0+in_ok-push_plain w ↦
          let value = w.value_of.ensures.value ∙ ap (expr_value e) c.get-row.result.joined in
          let holding : holds (expr_value e (columns_of row)) ≡ true = ap holds (sym value) ∙ search rules in
          let read = sym c.is_read.ensures ∙ w.if-is_read.true in
          rw (w.made-is, w.steps-is) record {
            rows = made_on of _ _ _ _ _ c.loop-at.at row c.get-row.ensures w.in_ok-push_plain.ensures.row
                (λ rest. rw (read, holding) refl) was.rows;
            steps = le_trans was.steps (le_trans w.value_of.ensures.steps w.push_plain.ensures.steps);
          }
      | else-is_read w ↦ rw (w.made-is, w.steps-is) (elim w.else-is_read.branch [
        | else-is_read-via-then-is_read+else-value_of-ne0 w' ↦
            let value = w'.value_of.ensures.value ∙ ap (expr_value e) c.get-row.result.joined in
            let failing : holds (expr_value e (columns_of row)) ≡ false = ap holds (sym value) ∙ search rules in
            let read = sym c.is_read.ensures ∙ w'.if-is_read.true in
            rw w'.steps-is record {
              rows = passed_on of _ _ _ c.loop-at.at row c.get-row.ensures (λ rest. rw (read, failing) refl) was.rows;
              steps = le_trans was.steps w'.value_of.ensures.steps;
            }
        | else-is_read-via-else-is_read w' ↦
            let unread = sym c.is_read.ensures ∙ w'.if-is_read.false in
            rw w'.steps-is record {
              rows = passed_on of _ _ _ c.loop-at.at row c.get-row.ensures (λ rest. rw unread refl) was.rows;
              steps = was.steps;
            }
      ])
    ]
