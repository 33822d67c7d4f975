use Rattle.std.proofs.Common.{◌≡◌}
use Rattle.switch_core.proofs.SideBySide.{Done, Untouched}
use Rattle.network.specs.Groups.{GroupView, with_first}
use Rattle.network.proofs.groups.keep_switches.Given as goal

-- the groupbys so far have their first fronts
abbrev pub invariant-loop-i : goal.invariant-loop-i
invariant-loop-i g l = record {
  kept : Done (λ n (a b : GroupView). b ≡ with_first l.switches a) l.i l.initial.groups l.groups;
  same : Untouched l.i l.initial.groups l.groups;
}
