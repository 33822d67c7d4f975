use Rattle.backing_store.proofs.ClosedRows.{held_shown}
use Rattle.backing_store.proofs.held.held_rows_are_the_tables.Goals as goal

pub returns : goal.returns
returns c = held_shown
