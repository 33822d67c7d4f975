use Rattle.std.proofs.Common.{arith}
use Rattle.stage_plan.proofs.Wirings.{seen_wiring, all_within}
use Rattle.stage_plan.proofs.plans.Plan.args_into.Goals as goal

pub copy_into-requires-clause-within : goal.copy_into-requires-clause-within
copy_into-requires-clause-within g c = all_within _ _ _ _ c.as_slice.ensures (omega arith) ((seen_wiring _ _ c.args.i _ c.self.view_is
    c.self.invariant.0 c.requires.group c.get.ensures).1.arg_registers)
