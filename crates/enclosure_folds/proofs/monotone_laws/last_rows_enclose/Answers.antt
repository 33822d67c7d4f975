use Rattle.enclosure_folds.proofs.Enclosure.{least_below, greatest_above}
use Rattle.enclosure_folds.proofs.monotone_laws.last_rows_enclose.Goals as goal

pub returns-clause-low : goal.returns-clause-low
returns-clause-low c = least_below

pub returns-clause-high : goal.returns-clause-high
returns-clause-high c = greatest_above
