use Rattle.backing_store.proofs.LawFacts.{last_written}
use Rattle.backing_store.proofs.laws.last_rows_are_written.Goals as goal

pub returns : goal.returns
returns c = last_written
