use Rattle.std.{proofs.Common.{◌≡◌, ℕ, ◌+◌, ◌<◌, take, Some, get_or}, specs.Prelude.slice_get}
use Rattle.marple_base.specs.declared.field.TheConstants.{FIELDS}
use Rattle.stage_plan.specs.{declared.op.PlanOp.PlanOp, Registers.result_of}
use Rattle.stage_plan.proofs.rows.fill_results.Given as goal

abbrev pub invariant-loop-at : goal.invariant-loop-at
invariant-loop-at g l = record {
  fields : take FIELDS l.registers ≡ take FIELDS l.initial.registers;
  results : (i : ℕ) (one : PlanOp) → i < l.at → slice_get l.ops i ≡ Some one
      → get_or l.registers (FIELDS + i) 0 ≡ result_of l.registers one;
}
