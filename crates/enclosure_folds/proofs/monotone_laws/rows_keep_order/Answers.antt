use Rattle.enclosure_folds.proofs.Enclosure.{keeps_rows}
use Rattle.enclosure_folds.proofs.monotone_laws.rows_keep_order.Goals as goal

pub returns : goal.returns
returns c = keeps_rows
