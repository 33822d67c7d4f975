use Rattle.backing_store.proofs.LawFacts.{keys_kept}
use Rattle.backing_store.proofs.laws.keys_are_kept.Goals as goal

pub returns : goal.returns
returns c = keys_kept
