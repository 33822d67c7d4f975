-- A row is kept exactly where fewer than the kept number of ranks go before its own.
use Rattle.std.proofs.{Common.{◌≤◌, ◌∙◌, ◌++◌, sym, ap, length, append-nil, refl, add-one, arith}, lemmas.List.drop_all}
use Rattle.std.specs.{List.count_by, Prelude.nat_lt}
use Rattle.table_rows.specs.LentRows.{row_of}
use Rattle.final_queries.{specs.{Ranks.{is_before, is_within}, TopRows.kept_from}, proofs.ReadRows.{column_within, made_on, passed_on}}
use Rattle.final_queries.proofs.TopSteps.{kept_top}
use Rattle.final_queries.proofs.top.top.Goals.{then-is_read+then-is_kept+in_ok-push_plain, then-is_read+else-is_kept, else-is_read}
use Rattle.final_queries.proofs.top.top.Goals as goal

pub returns-clause-rows : goal.returns-clause-rows
returns-clause-rows g c =
    let last = c.last_kept-last.result in
    let rows = c.args.rows.now in
    let past : length rows ≤ c.loop-place.place = omega (arith, c.loop-place-test.false, c.len-place-end.ensures) in
    let none = drop_all c.loop-place.place rows past in
    let whole = sym (append-nil c.loop-place.made) ∙ ap (λ xs. c.loop-place.made ++ kept_from last c.args.column c.loop-place.place xs)
    (sym none) ∙ c.loop-place.invariant.rows in
    let ranks = c.as_mut_slice.ensures.value ∙ c.in_ok-ranks.ensures.ranks in
    whole ∙ kept_top last c.args.column c.args.kept rows (λ rank. c.last_kept-last.ensures rank
    ∙ ap (λ rs. nat_lt (count_by (λ o. is_before o rank) rs) c.args.kept) ranks) c.requires.order

pub rank_of-requires : goal.rank_of-requires
rank_of-requires g c = column_within _ _ _ _ _ _ c.requires.rows c.get-row.ensures c.get-row.result.joined c.requires.column

pub loop-place-preserved : goal.loop-place-preserved
loop-place-preserved g c =
    let last = c.last_kept-last.result in
    let of = kept_from last c.args.column in
    let row = row_of c.get-row.result in
    let was = c.loop-place.invariant in
    elim c.if-is_read.branch [
      | then-is_read+then-is_kept+in_ok-push_plain w ↦
          let read = sym c.is_read.ensures ∙ w.if-is_read.true in
          let within = ap (is_within last) (sym w.rank_of.ensures) ∙ (sym w.is_kept.ensures ∙ w.if-is_kept.true) in
          rw (w.made-is, w.steps-is) record {
            rows = made_on of _ _ _ _ _ c.loop-place.place row c.get-row.ensures w.in_ok-push_plain.ensures.row
                (λ rest. rw (read, within, add-one) refl) was.rows;
            steps = omega (arith, was.steps, w.tick_many.ensures, w.push_plain.ensures.steps);
          }
      | then-is_read+else-is_kept w ↦
          let read = sym c.is_read.ensures ∙ w.if-is_read.true in
          let later = ap (is_within last) (sym w.rank_of.ensures) ∙ (sym w.is_kept.ensures ∙ w.if-is_kept.false) in
          rw (w.made-is, w.steps-is) record {
            rows = passed_on of _ _ _ c.loop-place.place row c.get-row.ensures (λ rest. rw (read, later, add-one) refl) was.rows;
            steps = omega (arith, was.steps, w.tick_many.ensures);
          }
      | else-is_read w ↦
          let unread = sym c.is_read.ensures ∙ w.if-is_read.false in
          rw (w.made-is, w.steps-is) record {
            rows = passed_on of _ _ _ c.loop-place.place row c.get-row.ensures (λ rest. rw (unread, add-one) refl) was.rows;
            steps = was.steps;
          }
    ]
