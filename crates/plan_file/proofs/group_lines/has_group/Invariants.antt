use Rattle.std.proofs.Common.{◌≡◌, ℕ, ◌<◌, [], get_or}
use Rattle.plan_file.specs.Groups.{names_of}
use Rattle.plan_file.proofs.group_lines.has_group.Given as goal

abbrev pub invariant-loop-one : goal.invariant-loop-one
invariant-loop-one l = (k : ℕ) → k < l.one-index → get_or (names_of l.groups) k [] ≡ l.name → ⊥
