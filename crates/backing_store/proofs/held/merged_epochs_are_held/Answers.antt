use Rattle.backing_store.proofs.StoredStates.{merged_holds}
use Rattle.backing_store.proofs.held.merged_epochs_are_held.Goals as goal

pub returns : goal.returns
returns c = merged_holds c.epochs_are_counted.ensures c.rows_are_added.ensures c.last_rows_are_written.ensures
