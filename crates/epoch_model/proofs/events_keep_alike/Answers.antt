use Rattle.epoch_model.proofs.Driving.{events_keep_alike_lem}
use Rattle.epoch_model.proofs.events_keep_alike.Goals as goal

pub returns : goal.returns
returns c = events_keep_alike_lem
