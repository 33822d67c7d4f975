use Rattle.enclosure_folds.proofs.RowFacts.{give_bounds}
use Rattle.enclosure_folds.proofs.laws.epoch_rows_give_bounds.Goals as goal

pub returns : goal.returns
returns c = give_bounds
