use Rattle.switch_core.proofs.Histories.{followed}
use Rattle.switch_core.proofs.lane.Lane.follows_events.Goals as goal

pub returns : goal.returns
returns g c = followed _ _ _
