use Rattle.std.{proofs.Common.{◌≡◌, ◌++◌}, specs.{Prelude.flat_map, List.range_with_len}}
use Rattle.plan_writer.specs.PlanText.{group_text}
use Rattle.plan_writer.proofs.groups.push_groups.Given as goal

abbrev pub invariant-loop-i : goal.invariant-loop-i
invariant-loop-i l = l.text ≡ l.initial.text ++ flat_map (group_text l.q) (range_with_len 0 l.i)
