-- Each stream that is a groupby adds its group, so the groups are those of the query in order.
use Rattle.std.{proofs.Common.{◌∙◌, ◌++◌, ◌+◌, ap, subst, sym, drop}, specs.Prelude.{map, filter_map}}
use Rattle.query_lang.specs.Streams.{takings}
use Rattle.stage_plan.{specs.Shape.{shape_made, group_shape}, proofs.Groupings.{Grouped, shapes_more, grouped_more, all_grouped}}
use Rattle.stage_plan.proofs.groups.plan_groups.Goals as goal

pub loop-one-preserved : goal.loop-one-preserved
loop-one-preserved c = record {
  shapes = ap (λ l. map group_shape l ++ filter_map (λ one. shape_made c.args.q.now.names c.args.q.now.folds one one.op)
      (drop (c.loop-one.one-index + 1) c.as_slice-one-items.result.now)) c.in_ok-push_some.ensures
      ∙ shapes_more (λ one. shape_made c.args.q.now.names c.args.q.now.folds one one.op) c.loop-one.groups c.as_slice-one-items.result.now
      c.loop-one.one-index _ c.in_ok-group_of.field-0 c.loop-one-test.true c.one-item.is c.in_ok-group_of.ensures.shape
      ∙ c.loop-one.invariant.shapes;
  grouped = subst (Grouped c.args.q.now.folds (takings c.args.q.now.streams)
      (takings (drop (c.loop-one.one-index + 1) c.as_slice-one-items.result.now))) (sym c.in_ok-push_some.ensures)
      (grouped_more c.args.q.now.folds (takings c.args.q.now.streams) c.loop-one.groups c.as_slice-one-items.result.now c.loop-one.one-index
      _ c.in_ok-group_of.field-0 c.loop-one-test.true c.one-item.is c.in_ok-group_of.ensures.sound c.loop-one.invariant.grouped);
}

pub returns-clause-all : goal.returns-clause-all
returns-clause-all c = all_grouped c.args.q.now.folds (takings c.args.q.now.streams) c.loop-one.groups c.as_slice-one-items.result.now
    c.loop-one.one-index c.loop-one-test.false c.loop-one.invariant.grouped
