use Rattle.additive_laws.proofs.Givens.{run_has}
use Rattle.additive_laws.proofs.traces.runs_have_packets.Goals as goal

pub returns : goal.returns
returns c = run_has
