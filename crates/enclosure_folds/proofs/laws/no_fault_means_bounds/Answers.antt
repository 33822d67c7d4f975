use Rattle.enclosure_folds.proofs.CheckFacts.{no_fault}
use Rattle.enclosure_folds.proofs.laws.no_fault_means_bounds.Goals as goal

pub returns : goal.returns
returns c = no_fault
