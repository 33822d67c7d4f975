use Rattle.enclosure_folds.proofs.ShownFacts.{give}
use Rattle.enclosure_folds.proofs.laws.tables_give_bounds.Goals as goal

pub returns : goal.returns
returns c = give c.alike_foldings_make_one_table.ensures c.group_tables_are_read.ensures
