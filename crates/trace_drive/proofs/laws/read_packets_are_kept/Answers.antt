use Rattle.trace_drive.proofs.KeptReads.{read_kept}
use Rattle.trace_drive.proofs.laws.read_packets_are_kept.Goals as goal

pub returns : goal.returns
returns c = read_kept
