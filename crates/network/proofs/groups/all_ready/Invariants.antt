use Rattle.std.{proofs.Common.{◌≡◌, true, take}, specs.List.list_all}
use Rattle.network.specs.Events.{is_ready_at}
use Rattle.network.proofs.groups.all_ready.Given as goal

-- this holds of the groupbys so far
abbrev pub invariant-loop-group : goal.invariant-loop-group
invariant-loop-group g l = list_all (is_ready_at l.at) (take l.group-index l.groups) ≡ true
