use Rattle.enclosure_folds.proofs.ClosedFacts.{closed_enclose}
use Rattle.enclosure_folds.proofs.laws.closed_bounds_enclose.Goals as goal

pub returns : goal.returns
returns c = closed_enclose
