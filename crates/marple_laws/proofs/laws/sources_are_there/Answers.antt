use Rattle.marple_laws.proofs.TextSources.{there}
use Rattle.marple_laws.proofs.laws.sources_are_there.Goals as goal

pub returns : goal.returns
returns c = there
