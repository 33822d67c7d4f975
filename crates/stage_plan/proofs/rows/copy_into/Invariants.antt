use Rattle.std.{proofs.Common.{◌≡◌, take}, specs.Prelude.map}
use Rattle.stage_plan.specs.Registers.{operand_value}
use Rattle.stage_plan.proofs.rows.copy_into.Given as goal

abbrev pub invariant-loop-at : goal.invariant-loop-at
invariant-loop-at g l = take l.at l.into ≡ map (operand_value l.registers) (take l.at l.operands)
