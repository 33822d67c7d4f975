use Rattle.std.{proofs.Common.{◌≡◌, take}, specs.Prelude.map}
use Rattle.stage_plan.specs.{Making.operand_at, Ordering.moved}
use Rattle.stage_plan.proofs.groups.move_columns.Given as goal

abbrev pub invariant-loop-slot : goal.invariant-loop-slot
invariant-loop-slot l = l.all ≡ map (λ slot. moved l.registers (operand_at l.columns slot)) (take l.slot-index l.slots)
