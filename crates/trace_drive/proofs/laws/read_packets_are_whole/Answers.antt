use Rattle.trace_drive.proofs.WholePackets.{read_whole}
use Rattle.trace_drive.proofs.laws.read_packets_are_whole.Goals as goal

pub returns : goal.returns
returns c = read_whole
