use Rattle.additive_laws.proofs.Givens.{gives}
use Rattle.additive_laws.proofs.traces.runs_give_the_trace.Goals as goal

pub returns : goal.returns
returns c = gives
