use Rattle.std.{proofs.Common.{◌≡◌, true, take}, specs.List.list_all}
use Rattle.network.specs.Groups.{group_is_drained}
use Rattle.network.proofs.groups.all_drained.Given as goal

-- this holds of the groupbys so far
abbrev pub invariant-loop-group : goal.invariant-loop-group
invariant-loop-group g l = list_all group_is_drained (take l.group-index l.groups) ≡ true
