use Rattle.additive_laws.proofs.Counts.{added}
use Rattle.additive_laws.proofs.traces.epochs_add_up.Goals as goal

pub returns : goal.returns
returns c = added
