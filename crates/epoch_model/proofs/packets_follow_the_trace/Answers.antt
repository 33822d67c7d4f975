use Rattle.epoch_model.proofs.Driving.{packets_follow_the_trace_lem}
use Rattle.epoch_model.proofs.packets_follow_the_trace.Goals as goal

pub returns : goal.returns
returns c = packets_follow_the_trace_lem
