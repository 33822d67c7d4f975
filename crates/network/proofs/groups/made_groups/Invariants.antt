use Rattle.std.{proofs.Common.{ℕ, [], take}, specs.List.All}
use Rattle.stage_plan.specs.Planned.{wiring_at}
use Rattle.switch_core.specs.Rows.{EachFrom}
use Rattle.network.specs.Groups.{GroupStands, IsGroup}
use Rattle.network.proofs.groups.made_groups.Given as goal

-- the groupbys so far
abbrev pub invariant-loop-i : goal.invariant-loop-i
invariant-loop-i g l = record {
  are : EachFrom (λ n group part. IsGroup 0 part (wiring_at l.plan n) group) 0 l.groups.items (take l.i l.plan.groups);
  stand : (buckets : ℕ) → All (λ group. GroupStands g.row.WAYS buckets group [] []) l.groups.items;
}
