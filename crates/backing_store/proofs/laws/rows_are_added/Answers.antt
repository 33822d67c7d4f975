use Rattle.backing_store.proofs.LawFacts.{rows_added}
use Rattle.backing_store.proofs.laws.rows_are_added.Goals as goal

pub returns : goal.returns
returns c = rows_added
