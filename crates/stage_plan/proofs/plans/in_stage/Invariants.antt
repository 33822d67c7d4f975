use Rattle.std.{proofs.Common.{◌≡◌, ◌≤◌, take}, specs.Prelude.{count_by, ◌==◌}}
use Rattle.stage_plan.proofs.plans.in_stage.Given as goal

abbrev pub invariant-loop-one : goal.invariant-loop-one
invariant-loop-one l = record {
  size : l.size ≡ count_by (λ one. one.stage == l.stage) (take l.one-index l.ops);
  few : l.size ≤ l.one-index;
}
