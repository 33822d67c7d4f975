-- The ranks so far are those of the rows read, each with its place among all rows.
use Rattle.std.proofs.Common.{◌∙◌, ◌∷◌, [], ◌++◌, sym, ap, refl, add-one, arith}
use Rattle.table_rows.specs.LentRows.{row_of}
use Rattle.final_queries.{specs.Ranks.ranks_from, proofs.ReadRows.{column_within, made_on, passed_on}}
use Rattle.final_queries.proofs.top.ranks_of.Goals.{then-is_read+in_ok-push, else-is_read}
use Rattle.final_queries.proofs.top.ranks_of.Goals as goal

pub rank_of-requires : goal.rank_of-requires
rank_of-requires g c = column_within _ _ _ _ _ _ c.requires.rows c.get-row.ensures c.get-row.result.joined c.requires.column

pub loop-place-preserved : goal.loop-place-preserved
loop-place-preserved g c =
    let of = ranks_from c.args.column in
    let row = row_of c.get-row.result in
    let was = c.loop-place.invariant in
    elim c.if-is_read.branch [
      | then-is_read+in_ok-push w ↦
          let read = sym c.is_read.ensures ∙ w.if-is_read.true in
          let pushed = w.in_ok-push.ensures.items ∙ ap (λ rank. c.loop-place.ranks.items ++ rank ∷ []) w.rank_of.ensures in
          rw (w.ranks-is, w.steps-is) record {
            ranks = made_on of _ _ _ _ _ c.loop-place.place row c.get-row.ensures pushed (λ rest. rw (read, add-one) refl) was.ranks;
            steps = omega (arith, was.steps, w.tick_many.ensures);
          }
      | else-is_read w ↦
          let unread = sym c.is_read.ensures ∙ w.if-is_read.false in
          rw (w.ranks-is, w.steps-is) record {
            ranks = passed_on of _ _ _ c.loop-place.place row c.get-row.ensures (λ rest. rw (unread, add-one) refl) was.ranks;
            steps = was.steps;
          }
    ]
