use Rattle.marple_laws.proofs.TextSources.{one}
use Rattle.marple_laws.proofs.laws.sources_are_one.Goals as goal

pub returns : goal.returns
returns c = one
