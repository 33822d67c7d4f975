use Rattle.std.{proofs.Common.{◌≡◌, ◌+◌, ◌≤◌, drop, length}, specs.Prelude.map}
use Rattle.query_lang.specs.Terms.{term_of}
use Rattle.stage_plan.specs.{Counting.values_most, Making.compiled_all}
use Rattle.stage_plan.proofs.making.make_map.Given as goal

abbrev pub invariant-loop-e : goal.invariant-loop-e
invariant-loop-e l = record {
  made : compiled_all l.input.columns l.columns (map term_of (drop l.e-index l.values)) l.ops ≡ compiled_all l.input.columns l.input.columns
      (map term_of l.values) l.initial.ops;
  few : length l.ops + values_most (drop l.e-index l.values) ≤ length l.initial.ops + values_most l.values;
}
