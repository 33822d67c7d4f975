use Rattle.std.proofs.Common.{◌≡◌, length}
use Rattle.switch_core.proofs.SideBySide.{Done, Untouched}
use Rattle.network.{specs.Groups.{GroupGrows, GroupView, with_first}, proofs.GroupSteps.Grown}
use Rattle.network.proofs.groups.add_switch.Given as goal

-- the groupbys so far have a front more
abbrev pub invariant-loop-i : goal.invariant-loop-i
invariant-loop-i g l = record {
  are : Done (Grown l.plan) l.i l.initial.groups l.groups;
  grow : Done (λ n. GroupGrows g.row.WAYS l.buckets l.pipe_records) l.i l.initial.groups l.groups;
  others : Done (λ n (a b : GroupView). with_first (length a.fronts) b ≡ a) l.i l.initial.groups l.groups;
  same : Untouched l.i l.initial.groups l.groups;
}
