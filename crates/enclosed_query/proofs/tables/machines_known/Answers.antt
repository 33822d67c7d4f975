-- Tables shown of a drained pipeline for bounds hold over the rows of any events, since all epochs are merged.
use Rattle.std.proofs.Common.{◌∙◌, subst, arith}
use Rattle.stage_plan.specs.Sound.{IsSoundPlan}
use Rattle.switch_core.specs.PlanLanes.{AreLanesOf}
use Rattle.enclosed_query.{specs.AfterEvents.machines_after, proofs.AfterFacts.holds_from}
use Rattle.enclosed_query.proofs.tables.machines_known.Goals as goal

pub returns : goal.returns
returns g c = record {
  holds = λ of events room stand i group f t at bounded given found.
      let p = c.args.pipeline.now in
      holds_from p.plan _ (subst IsSoundPlan c.plan.ensures c.invariant-2.ensures) c.closed_tables_hold.ensures of events room i
      group f at bounded given 0 0 i p.lanes p.plan.groups t (omega arith)
      (subst (λ entries. AreLanesOf entries p.plan p.buckets p.lanes) c.requires.entries c.invariant.ensures)
      (c.drained-drained.ensures.done (c.drained-drained.ensures.value ∙ c.requires.drained) (machines_after p.plan of events) stand) at
      found;
}
