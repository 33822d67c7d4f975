-- Each lane has a group of the plan and entries that fit, and its table is the one seen of its machine.
use Rattle.std.{proofs.Common.{◌≡◌, [], ◌∷◌, ◌++◌, Some, length, map, take, sym, ap, ◌∙◌, subst, arith, lit<}, specs.Prelude.slice_get}
use Rattle.stage_plan.specs.Sound.{IsSoundPlan}
use Rattle.switch_core.specs.PlanLanes.{StandsFor, folding_at}
use Rattle.live_view.{specs.Views.tables_seen, proofs.Lanes.{each_long, each_at, lane_fits, seen_next, seen_whole}}
use Rattle.live_view.proofs.tables.view.Goals as goal

pub group-requires : goal.group-requires
group-requires g c =
    let p = c.args.p.now in
    let long = each_long _ 0 p.lanes p.plan.groups c.invariant.ensures in
    let same = ap (λ x. length x.groups) c.plan-plan.ensures in
    let below = c.loop-i-test.true in
    let lanes = c.lanes-i-end.ensures in
    omega arith

pub view_lane-requires : goal.view_lane-requires
view_lane-requires g c =
    let p = c.args.p.now in
    let i = c.loop-i.i in
    let lane = c.lane.result.now in
    let at : slice_get p.plan.groups i ≡ Some c.group.result.now = ap (λ x. slice_get x.groups i) (sym c.plan-plan.ensures)
    ∙ c.group.ensures in
    let fits = lane_fits p.entries p.plan p.buckets i p.lanes c.group.result.now lane c.entries_are_small.ensures
    (subst IsSoundPlan c.plan-plan.ensures c.invariant-2.ensures) c.invariant.ensures at c.lane.ensures.lane in
    (lit< tt, (sym fits.keys, fits.small))

pub loop-i-preserved : goal.loop-i-preserved
loop-i-preserved g c =
    let p = c.args.p.now in
    let i = c.loop-i.i in
    let lane = c.lane.result.now in
    let at : slice_get p.plan.groups i ≡ Some c.group.result.now = ap (λ x. slice_get x.groups i) (sym c.plan-plan.ensures)
    ∙ c.group.ensures in
    record {
      tables = λ machines stand.
          let found = each_at (λ n. StandsFor) 0 i p.lanes machines lane stand c.lane.ensures.lane in
          let table = c.in_ok-view_lane.ensures.table found.0 (found.2 i (omega arith)) in
          let next = seen_next p.plan.groups p.lanes machines i c.group.result.now lane found.0 at c.lane.ensures.lane found.1 in
          c.in_ok-push.ensures.ok ∙ (ap (λ ts. ts ++ c.in_ok-view_lane.field-0 ∷ []) (c.loop-i.invariant.tables machines stand)
          ∙ (ap (λ t. take i (tables_seen p.plan.groups (map folding_at p.lanes) machines) ++ t ∷ []) table ∙ sym next));
      steps = let a = c.view_lane.ensures.steps in let b = c.loop-i.invariant.steps in omega arith;
    }

pub returns-clause-tables : goal.returns-clause-tables
returns-clause-tables g c machines stand =
    let p = c.args.p.now in
    let end = c.loop-i-test.false in
    let lanes = c.lanes-i-end.ensures in
    c.loop-i.invariant.tables machines stand ∙ seen_whole p.plan.groups p.lanes machines c.loop-i.i (omega arith)
