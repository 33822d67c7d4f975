use Rattle.additive_laws.proofs.OwnEpochs.{own}
use Rattle.additive_laws.proofs.traces.own_epochs.Goals as goal

pub returns : goal.returns
returns c = own
