use Rattle.plan_file.proofs.ReadsFacts.{number_at}
use Rattle.plan_file.proofs.reads.field_at.Goals as goal

pub returns : goal.returns
returns c = number_at c.args.n c.requires
