use Rattle.std.{proofs.Common.{◌≡◌, ◌≤◌, ◌*◌, ◌^◌, take}, specs.Prelude.{map, sum}}
use Rattle.stage_plan.specs.Shape.{group_bound, group_shape}
use Rattle.stage_plan.proofs.bound.most_of_groups.Given as goal

abbrev pub invariant-loop-group : goal.invariant-loop-group
invariant-loop-group l = record {
  steps : l.all ≡ sum (map (λ group. group_bound l.ways (group_shape group)) (take l.group-index l.groups));
  most : l.all ≤ l.group-index * 2 ^ 40;
}
