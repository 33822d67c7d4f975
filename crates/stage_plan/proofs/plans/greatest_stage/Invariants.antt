use Rattle.std.proofs.Common.{◌≡◌, drop}
use Rattle.stage_plan.specs.Registers.{stages_of}
use Rattle.stage_plan.proofs.plans.greatest_stage.Given as goal

abbrev pub invariant-loop-at : goal.invariant-loop-at
invariant-loop-at l = l.stages ≡ stages_of (drop l.at l.ops)
