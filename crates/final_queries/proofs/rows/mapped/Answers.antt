-- A row that is read is added with its new values, and any other changes nothing of the rows mapped.
use Rattle.std.{proofs.Common.{◌∙◌, ℕ, List, sym, subst, refl, le_trans}, specs.List.All}
use Rattle.query_lang.specs.{Folds.IsValidTerm, Terms.term_of}
use Rattle.epoch_model.specs.declared.tables.Row.{Row}
use Rattle.table_rows.specs.LentRows.{row_of}
use Rattle.final_queries.{specs.{Finals.mapped_rows, Joining.reads}, proofs.ReadRows.{made_on, passed_on, width_at}}
use Rattle.final_queries.proofs.rows.mapped.Goals.{then-is_read+in_ok-push_mapped, else-is_read}
use Rattle.final_queries.proofs.rows.mapped.Goals as goal

pub push_mapped-requires : goal.push_mapped-requires
push_mapped-requires g c =
    let wide = width_at _ _ _ _ _ c.requires.rows c.get-row.ensures c.get-row.result.joined in
    subst (λ width. All (λ e. IsValidTerm width (term_of e)) c.args.values.now) wide c.requires.values

pub loop-at-preserved : goal.loop-at-preserved
loop-at-preserved g c =
    let of : ℕ → List Row → List Row = λ _ rows. mapped_rows c.args.values.now (reads rows) in
    let row = row_of c.get-row.result in
    let was = c.loop-at.invariant in
    elim c.if-is_read.branch [
      | then-is_read+in_ok-push_mapped w ↦
          let read = sym c.is_read.ensures ∙ w.if-is_read.true in
          rw (w.made-is, w.steps-is) record {
            rows = made_on of _ _ _ _ _ c.loop-at.at row c.get-row.ensures w.in_ok-push_mapped.ensures.row
                (λ rest. rw read refl) was.rows;
            steps = le_trans was.steps w.push_mapped.ensures.steps;
          }
      | else-is_read w ↦
          let unread = sym c.is_read.ensures ∙ w.if-is_read.false in
          rw (w.made-is, w.steps-is) record {
            rows = passed_on of _ _ _ c.loop-at.at row c.get-row.ensures (λ rest. rw unread refl) was.rows;
            steps = was.steps;
          }
    ]
