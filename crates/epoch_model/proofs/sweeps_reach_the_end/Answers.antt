use Rattle.epoch_model.proofs.Driving.{sweeps_reach_the_end_lem}
use Rattle.epoch_model.proofs.sweeps_reach_the_end.Goals as goal

pub returns : goal.returns
returns c = sweeps_reach_the_end_lem
