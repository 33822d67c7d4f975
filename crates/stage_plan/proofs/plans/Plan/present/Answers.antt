use Rattle.std.proofs.Common.{arith}
use Rattle.stage_plan.proofs.{Runs.within_more, Wirings.seen_wiring}
use Rattle.stage_plan.proofs.plans.Plan.present.Goals as goal

pub operand_in-requires : goal.operand_in-requires
operand_in-requires c = within_more _ _ _ (omega arith) ((seen_wiring _ _ c.args.i _ c.self.view_is
    c.self.invariant.0 c.requires.group c.get.ensures).1.present)
