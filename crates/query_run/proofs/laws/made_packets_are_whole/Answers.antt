use Rattle.query_run.proofs.MadePackets.{simulated_whole}
use Rattle.query_run.proofs.laws.made_packets_are_whole.Goals as goal

pub returns : goal.returns
returns c = simulated_whole
