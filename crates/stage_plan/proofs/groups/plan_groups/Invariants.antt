use Rattle.std.{proofs.Common.{◌≡◌, ◌++◌, drop}, specs.Prelude.{map, filter_map}}
use Rattle.query_lang.specs.Streams.{takings}
use Rattle.stage_plan.{specs.Shape.{group_shape, shape_made, query_groups}, proofs.Groupings.Grouped}
use Rattle.stage_plan.proofs.groups.plan_groups.Given as goal

abbrev pub invariant-loop-one : goal.invariant-loop-one
invariant-loop-one l = record {
  shapes : map group_shape l.groups ++ filter_map (λ one. shape_made l.q.names l.q.folds one one.op) (drop l.one-index l.one-items)
      ≡ query_groups l.q;
  grouped : Grouped l.q.folds (takings l.q.streams) (takings (drop l.one-index l.one-items)) l.groups;
}
