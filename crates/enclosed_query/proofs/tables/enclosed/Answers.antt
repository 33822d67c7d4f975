-- The tables of the closed pipeline are those to show, and hold over all rows that its machines took.
use Rattle.std.{proofs.Common.{sym, ap, ◌∙◌, subst, map}, specs.{List.All, Prelude.slice_get}}
use Rattle.stage_plan.specs.Sound.{IsSoundPlan}
use Rattle.switch_core.specs.{PlanLanes.AreLanesOf, Ends.end_machines}
use Rattle.enclosure_folds.specs.Shown.{MayBeShown, shown}
use Rattle.enclosed_query.specs.AfterEvents.{machines_after}
use Rattle.enclosed_query.proofs.tables.enclosed.Goals as goal

pub shown_of-requires : goal.shown_of-requires
shown_of-requires g c = subst (All MayBeShown) (sym c.in_ok-tables.ensures.stored) c.tables_known.ensures

pub returns-clause-shown : goal.returns-clause-shown
returns-clause-shown g c machines stand = c.in_ok-made.ensures.made ∙ ap (map shown) (c.in_ok-tables.ensures.closed machines stand)

pub returns-clause-holds : goal.returns-clause-holds
returns-clause-holds g c of events room stand i group f t at bounded given found =
    let machines = machines_after c.args.pipeline.now.plan of events in
    c.machines_known.ensures.holds of events room stand i _ f t at bounded given
    (ap (λ ts. slice_get ts i) (sym (c.in_ok-made.ensures.made ∙ ap (map shown) (c.in_ok-tables.ensures.closed machines stand))) ∙ found)

pub returns-clause-tables : goal.returns-clause-tables
returns-clause-tables g c q of packets ends =
    let p = c.args.pipeline.now in
    c.in_ok-made.ensures.made ∙ ap (map shown) (c.in_ok-tables.ensures.closed (end_machines p.plan of packets) ends.stands)
    ∙ c.ends_give_enclosed_tables.ensures.tables q p.plan p.buckets p.lanes of packets ends.valid ends.plan
    (subst IsSoundPlan c.plan.ensures c.invariant-2.ensures)
    (subst (λ entries. AreLanesOf entries p.plan p.buckets p.lanes) c.requires.entries c.invariant.ensures) ends.room ends.whole
