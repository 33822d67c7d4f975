use Rattle.std.{proofs.Common.{◌≡◌, ◌++◌, take}, specs.Prelude.{map, flat_map}}
use Rattle.stage_plan.specs.Shape.{group_line, group_shape}
use Rattle.stage_plan.proofs.text.push_groups.Given as goal

abbrev pub invariant-loop-group : goal.invariant-loop-group
invariant-loop-group l = l.text ≡ l.initial.text ++ flat_map group_line (map group_shape (take l.group-index l.groups))
