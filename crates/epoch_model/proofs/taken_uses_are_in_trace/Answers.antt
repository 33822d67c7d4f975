use Rattle.epoch_model.proofs.Driving.{taken_uses_are_in_trace_lem}
use Rattle.epoch_model.proofs.taken_uses_are_in_trace.Goals as goal

pub returns : goal.returns
returns c = taken_uses_are_in_trace_lem
