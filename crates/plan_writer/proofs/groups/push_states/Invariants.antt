use Rattle.std.{proofs.Common.{◌≡◌, ◌++◌, drop}, specs.Prelude.{map, codes, decimal}}
use Rattle.plan_writer.specs.PlanText.{named_lines}
use Rattle.plan_writer.proofs.groups.push_states.Given as goal

abbrev pub invariant-loop-at : goal.invariant-loop-at
invariant-loop-at l = l.text ++ named_lines (codes "state") (drop l.at l.names) (map decimal (drop l.at l.fn.initial)) ≡ l.initial.text
    ++ named_lines (codes "state") l.names (map decimal l.fn.initial)
