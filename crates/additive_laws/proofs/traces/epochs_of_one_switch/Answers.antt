use Rattle.additive_laws.proofs.Counts.{of_one_switch}
use Rattle.additive_laws.proofs.traces.epochs_of_one_switch.Goals as goal

pub returns : goal.returns
returns c = of_one_switch
