use Rattle.std.{proofs.Common.{◌≡◌, ◌++◌, drop}, specs.Prelude.{map, codes}}
use Rattle.plan_writer.specs.{Words.operand_word, PlanText.named_lines}
use Rattle.plan_writer.proofs.groups.push_keys.Given as goal

abbrev pub invariant-loop-at : goal.invariant-loop-at
invariant-loop-at l = l.text ++ named_lines (codes "key") (drop l.at l.names) (map operand_word (drop l.at l.values)) ≡ l.initial.text
    ++ named_lines (codes "key") l.names (map operand_word l.values)
