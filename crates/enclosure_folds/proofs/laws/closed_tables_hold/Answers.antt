use Rattle.enclosure_folds.proofs.ClosedFacts.{closed_hold}
use Rattle.enclosure_folds.proofs.laws.closed_tables_hold.Goals as goal

pub returns : goal.returns
returns c = closed_hold c.alike_foldings_make_one_table.ensures
