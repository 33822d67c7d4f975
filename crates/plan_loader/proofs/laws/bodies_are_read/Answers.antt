use Rattle.plan_loader.proofs.BodyReading.{bodies}
use Rattle.plan_loader.proofs.laws.bodies_are_read.Goals as goal

pub returns : goal.returns
returns c = bodies
