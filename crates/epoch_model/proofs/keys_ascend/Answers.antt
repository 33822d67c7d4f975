use Rattle.epoch_model.proofs.KeyOrder.{keys_ascend_lem}
use Rattle.epoch_model.proofs.keys_ascend.Goals as goal

pub returns : goal.returns
returns c = keys_ascend_lem
