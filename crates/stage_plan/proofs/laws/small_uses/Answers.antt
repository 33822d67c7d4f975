use Rattle.stage_plan.proofs.UseFacts.{filtered_uses, mapped_uses, zipped_uses, fed_uses}
use Rattle.stage_plan.proofs.laws.small_uses.Goals as goal

pub returns : goal.returns
returns c = record { filter = filtered_uses; map = mapped_uses; zip = zipped_uses; feeding = fed_uses }
