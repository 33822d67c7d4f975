use Rattle.enclosure_folds.proofs.RowFacts.{whole_table}
use Rattle.enclosure_folds.proofs.laws.triples_give_whole_tables.Goals as goal

pub returns : goal.returns
returns c = whole_table
