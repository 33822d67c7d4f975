use Rattle.std.{proofs.Common.{◌≡◌, take}, specs.Prelude.map}
use Rattle.stage_plan.specs.declared.op.Operand.TheVariants.{Number}
use Rattle.stage_plan.proofs.making.columns_of_emit.Given as goal

abbrev pub invariant-loop-n : goal.invariant-loop-n
invariant-loop-n l = l.all ≡ map Number (take l.n-index l.initial')
