use Rattle.enclosure_folds.proofs.ReadFacts.{exact_read}
use Rattle.enclosure_folds.proofs.laws.exact_tables_are_read.Goals as goal

pub returns : goal.returns
returns c = exact_read
