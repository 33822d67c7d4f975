use Rattle.trace_drive.proofs.FewPackets.{read_few}
use Rattle.trace_drive.proofs.laws.read_packets_are_few.Goals as goal

pub returns : goal.returns
returns c = read_few
