use Rattle.std.proofs.Common.{refl}
use Rattle.trace_drive.specs.KeptView.{packets_in}
use Rattle.trace_drive.proofs.kept.KeptPackets.new.Goals as goal

pub returns : goal.returns
unfolding packets_in
returns c = refl
