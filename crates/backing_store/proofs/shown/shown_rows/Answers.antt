-- Each step shows one more row of the store and adds the epochs that it shows.
use Rattle.std.proofs.Common.{◌≡◌, suc, ◌+◌, List, [], ◌∷◌, set, take, sym, ap, ◌∙◌, subst, arith, Some, slice_get}
use Rattle.std.{proofs.lemmas.List.Sums.{sum_by-append, sum_by-cons}, specs.List.sum_by}
use Rattle.epoch_model.specs.declared.tables.Row.{Row}
use Rattle.backing_store.{specs.Merged.{epochs_in, shown_row}, proofs.Showing.{here_stored, one_shown, row_at, shown_to, take_next}}
use Rattle.backing_store.proofs.shown.shown_rows.Goals as goal

pub loop-at-preserved : goal.loop-at-preserved
loop-at-preserved c =
    let stored = c.args.stored in
    let at = c.loop-at.at in
    let F = shown_row c.args.row_per_epoch in
    let G = epochs_in c.args.row_per_epoch in
    let found = row_at stored at (omega (arith, c.loop-at-test.true, c.loop-at.auto.at-end, c.len-at-end.ensures)) in
    let row = found.0 in
    let here = subst (λ (rows : List Row). slice_get rows at ≡ Some row) (sym c.loop-at.invariant.rows)
    (here_stored F stored at row found.1) in
    let next : at + 1 ≡ suc at = omega arith in
    let one : sum_by G (row ∷ []) ≡ G row = sum_by-cons G row [] ∙ (let e : G row + 0 ≡ G row = omega arith in e) in
    let sum : sum_by G (take (at + 1) stored) ≡ sum_by G (take at stored) + G row =
    ap (λ n. sum_by G (take n stored)) next ∙ (ap (sum_by G) (take_next stored at row found.1)
    ∙ (sum_by-append G (take at stored) (row ∷ []) ∙ ap (λ n. sum_by G (take at stored) + n) one)) in
    record {
      rows = c.show_row.ensures.row row here ∙ (ap (λ (rows : List Row). set rows at (F row)) c.loop-at.invariant.rows
          ∙ (one_shown F stored at row found.1 ∙ ap (shown_to F stored) (sym next)));
      epochs = omega (arith, c.saturating_add-epochs.ensures, c.show_row.ensures.epochs row here, c.loop-at.invariant.epochs, sum);
    }
