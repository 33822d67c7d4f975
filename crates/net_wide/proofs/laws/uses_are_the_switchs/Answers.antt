use Rattle.net_wide.proofs.UsesOfOne.{uses_of_one}
use Rattle.net_wide.proofs.laws.uses_are_the_switchs.Goals as goal

pub returns : goal.returns
returns c = uses_of_one
