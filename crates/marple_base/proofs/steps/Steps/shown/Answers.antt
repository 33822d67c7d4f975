use Rattle.std.proofs.Common.{arith}
use Rattle.marple_base.proofs.steps.Steps.shown.Goals as goal

pub returns-else-self : goal.returns-else-self
returns-else-self g c = let held = rw c.if-self.false at c.self.invariant.1 in rw (← c.self.view_is) (omega (arith, held.0, held.1))
