use Rattle.marple_laws.proofs.Accepted.{accepted_load}
use Rattle.marple_laws.proofs.accepted_texts.accepted_compile_and_run.Goals as goal

pub returns : goal.returns
returns c = accepted_load
