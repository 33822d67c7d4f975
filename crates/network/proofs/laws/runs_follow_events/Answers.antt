use Rattle.network.proofs.Representing.{runs_stand}
use Rattle.network.proofs.laws.runs_follow_events.Goals as goal

pub returns : goal.returns
returns c = runs_stand
