use Rattle.std.proofs.Common.{refl, subst}
use Rattle.stage_plan.specs.Sound.{IsSoundPlan}
use Rattle.switch_core.specs.PlanLanes.{AreLanesOf}
use Rattle.enclosed_query.proofs.StoredTables.{all_may}
use Rattle.enclosed_query.proofs.tables.tables_known.Goals as goal

pub returns : goal.returns
returns g c =
    let p = c.args.pipeline.now in
    all_may p.plan p.buckets (subst IsSoundPlan c.plan.ensures c.invariant-2.ensures) 0 p.lanes p.plan.groups refl
    (subst (λ entries. AreLanesOf entries p.plan p.buckets p.lanes) c.requires c.invariant.ensures) c.stores_known.ensures
