use Rattle.enclosure_folds.proofs.ClosedFacts.{closed_give}
use Rattle.enclosure_folds.proofs.laws.closed_tables_give_bounds.Goals as goal

pub returns : goal.returns
returns c = closed_give c.alike_foldings_make_one_table.ensures
