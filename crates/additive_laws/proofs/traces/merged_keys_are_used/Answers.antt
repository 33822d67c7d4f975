use Rattle.additive_laws.proofs.Givens.{keys_are}
use Rattle.additive_laws.proofs.traces.merged_keys_are_used.Goals as goal

pub returns : goal.returns
returns c = keys_are
