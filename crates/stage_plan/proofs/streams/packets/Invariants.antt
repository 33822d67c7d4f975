use Rattle.std.{proofs.Common.{◌≡◌, take}, specs.Prelude.map}
use Rattle.marple_base.specs.Field.{number_of}
use Rattle.stage_plan.specs.declared.op.Operand.TheVariants.{Register}
use Rattle.stage_plan.proofs.streams.packets.Given as goal

abbrev pub invariant-loop-f : goal.invariant-loop-f
invariant-loop-f l = l.columns ≡ map (λ f. Register (number_of f)) (take l.f-index l.f-items)
