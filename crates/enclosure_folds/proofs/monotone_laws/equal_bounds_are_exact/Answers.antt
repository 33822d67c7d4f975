use Rattle.enclosure_folds.proofs.Enclosure.{exact}
use Rattle.enclosure_folds.proofs.monotone_laws.equal_bounds_are_exact.Goals as goal

pub returns : goal.returns
returns c = exact
