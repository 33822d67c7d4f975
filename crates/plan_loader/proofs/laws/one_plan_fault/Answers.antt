use Rattle.plan_loader.proofs.OneFault.{one_fault}
use Rattle.plan_loader.proofs.laws.one_plan_fault.Goals as goal

pub returns : goal.returns
returns c = one_fault
