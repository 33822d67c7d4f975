use Rattle.std.{proofs.Common.{◌≡◌, ◌++◌, take}, specs.Prelude.flat_map}
use Rattle.plan_writer.specs.PlanText.{op_line}
use Rattle.plan_writer.proofs.operations.push_ops.Given as goal

abbrev pub invariant-loop-number : goal.invariant-loop-number
invariant-loop-number l = l.text ≡ l.initial.text ++ flat_map op_line (take l.number l.p.ops)
