use Rattle.stage_plan.specs.{Registers.operand_stage, declared.op.Operand.TheVariants.Register}
use Rattle.std.proofs.Common.{◌+◌}
use Rattle.marple_base.specs.declared.field.TheConstants.{FIELDS}
use Rattle.stage_plan.proofs.chain.+push_chain.Given as goal

abbrev pub decreases-push_chain : goal.decreases-push_chain
decreases-push_chain l = operand_stage l.ops.now (Register (FIELDS + l.at))
