use Rattle.std.{proofs.Common.{◌≡◌, true, take}, specs.List.list_all}
use Rattle.switch_core.specs.Closing.{is_drained}
use Rattle.network.proofs.group.all_drained.Given as goal

-- this holds of the fronts so far
abbrev pub invariant-loop-front : goal.invariant-loop-front
invariant-loop-front g l = list_all (λ front. is_drained front.cache front.pipe) (take l.front-index l.fronts) ≡ true
