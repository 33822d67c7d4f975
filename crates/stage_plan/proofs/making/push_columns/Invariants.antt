use Rattle.std.{proofs.Common.{◌≡◌, ◌++◌, take}, specs.Prelude.map}
use Rattle.stage_plan.specs.Making.{operand_at}
use Rattle.stage_plan.proofs.making.push_columns.Given as goal

abbrev pub invariant-loop-slot : goal.invariant-loop-slot
invariant-loop-slot l = l.into ≡ l.initial.into ++ map (operand_at l.columns) (take l.slot-index l.slots)
