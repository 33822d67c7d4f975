use Rattle.stage_plan.proofs.Fewest.{placed, highest, fewest}
use Rattle.stage_plan.proofs.laws.stages_are_fewest.Goals as goal

pub returns : goal.returns
returns c = record {
  placed = λ plan sound. placed _ sound.ops;
  highest = λ plan. highest plan.ops;
  fewest = λ plan stages sound p. fewest plan.ops stages p sound.ops;
}
