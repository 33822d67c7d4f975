use Rattle.std.{proofs.Common.{◌≡◌, take}, specs.Prelude.sum_by}
use Rattle.epoch_model.specs.Tables.{epochs_shown}
use Rattle.backing_store.{specs.Merged.{epochs_in, shown_row}, proofs.Showing.shown_to}
use Rattle.backing_store.proofs.shown.shown_rows.Given as goal

-- the rows so far are shown, and the others are still those of the store
abbrev pub invariant-loop-at : goal.invariant-loop-at
invariant-loop-at l = record {
  rows : l.rows ≡ shown_to (shown_row l.row_per_epoch) l.fn.stored l.at;
  epochs : l.epochs ≡ epochs_shown (sum_by (epochs_in l.row_per_epoch) (take l.at l.fn.stored));
}
