use Rattle.backing_store.proofs.LawFacts.{epochs_counted}
use Rattle.backing_store.proofs.laws.epochs_are_counted.Goals as goal

pub returns : goal.returns
returns c = epochs_counted
