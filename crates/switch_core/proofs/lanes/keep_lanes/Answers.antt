-- Each lane makes the events of its upkeep, in order.
use Rattle.std.proofs.Common.{◌<◌, ◌+◌, set, get_or, sym, subst, lit<, le-add_right, le_of_eq, le_refl, le_trans, lt_of_lt_of_le}
use Rattle.std.proofs.Common.{not-suc-le-zero}
use Rattle.epoch_model.proofs.Endings.{no_end}
use Rattle.switch_core.specs.{PlanLanes.{LaneMakes, LanesBreakOff, LanesMake, lane_upkeep_cost, upkeeps_at}, Upkeeps.IsKept}
use Rattle.switch_core.proofs.{LaneFacts.{err_holds, on_err, on_ok}, LaneUpkeeps.{breaks_off_at, made_at, others_stay}}
use Rattle.switch_core.proofs.SideBySide.{got_below, got_here, done_start, untouched_start, untouched_next, was_there, done_end}
use Rattle.switch_core.proofs.{SideBySide.sum_next, StepSums.{one_more, within_all}, SweepCosts.sum_within}
use Rattle.switch_core.proofs.lanes.keep_lanes.Goals as goal

pub loop-i-init : goal.loop-i-init
loop-i-init g c = record {
  makes = done_start (λ n. LaneMakes g.row.WAYS (upkeeps_at c.args.upkeep c.args.lanes.now n)) 0 c.args.lanes.now;
  same = untouched_start 0 0 c.args.lanes.now;
  left = λ n below. absurd (not-suc-le-zero below);
  later = le_refl _;
  cost = le-add_right _ _;
}

pub loop-i-preserved : goal.loop-i-preserved
loop-i-preserved g c =
    let i = c.loop-i.i in
    let first = c.args.lanes.now in
    let lane = get_or c.loop-i.lanes i c.index-lanes-i.result in
    let new = c.keep_up-in-loop-i.new.self in
    let below = subst (λ n. i < n) (sym c.loop-i.auto.lanes) c.loop-i-test.true in
    let was = was_there i first c.loop-i.lanes c.index-lanes-i.result c.loop-i.invariant.same c.loop-i-test.true c.loop-i.auto.lanes in
    record {
      makes = made_at g.row.WAYS c.args.upkeep i first c.loop-i.lanes lane new c.loop-i.invariant.makes was c.in_ok-keep_up.ensures.carries;
      same = untouched_next i first c.loop-i.lanes new c.loop-i.invariant.same;
      left = others_stay (λ x. IsKept c.args.upkeep x.cache x.pipe) c.loop-i.lanes i new below c.loop-i.invariant.left
          c.in_ok-keep_up.ensures.left;
      later = le_trans c.loop-i.invariant.later c.keep_up-in-loop-i.ensures.steps;
      cost = one_more _ _ _ _ _ _ c.loop-i.invariant.cost c.keep_up-in-loop-i.ensures.cost
          (sum_next (lane_upkeep_cost c.args.upkeep) first i lane was);
    }

pub returns-in_err-keep_up : goal.returns-in_err-keep_up
returns-in_err-keep_up g c =
    let i = c.loop-i.i in
    let first = c.args.lanes.now in
    let lane = get_or c.loop-i.lanes i c.index-lanes-i.result in
    let was = was_there i first c.loop-i.lanes c.index-lanes-i.result c.loop-i.invariant.same c.loop-i-test.true c.loop-i.auto.lanes in
    record {
      makes = no_end c.from_residual.result _ c.from_residual.ensures.0;
      breaks_off =
          let new = c.keep_up-in-loop-i.new.self in
          err_holds c.from_residual.result (LanesBreakOff g.row.WAYS c.args.upkeep first (set c.loop-i.lanes i new))
          (breaks_off_at g.row.WAYS c.args.upkeep i first c.loop-i.lanes lane new c.loop-i.invariant.makes c.loop-i.invariant.same was
          c.in_err-keep_up.ensures.breaks_off);
      left = no_end c.from_residual.result _ c.from_residual.ensures.0;
      steps = le_trans c.loop-i.invariant.later c.keep_up-in-loop-i.ensures.steps;
      cost =
          let cost = lane_upkeep_cost c.args.upkeep in
          within_all _ _ _ _
          (one_more _ _ _ _ _ _ c.loop-i.invariant.cost c.keep_up-in-loop-i.ensures.cost (sum_next cost first i lane was))
          (sum_within cost (i + 1) first);
    }

pub returns : goal.returns
returns g c =
    let end = c.loop-i-test.false in record {
      makes = done_end (λ n. LaneMakes g.row.WAYS (upkeeps_at c.args.upkeep c.args.lanes.now n)) c.loop-i.i c.args.lanes.now c.loop-i.lanes
          c.loop-i.invariant.makes end;
      breaks_off = tt;
      left = λ n lane e. let below = subst (λ k. n < k) c.loop-i.auto.lanes (got_below c.loop-i.lanes n lane e) in
          c.loop-i.invariant.left n (lt_of_lt_of_le below end) lane e;
      steps = c.loop-i.invariant.later;
      cost = within_all _ _ _ _ c.loop-i.invariant.cost (sum_within (lane_upkeep_cost c.args.upkeep) c.loop-i.i c.args.lanes.now);
    }

pub returns-then-lanes-eq1-clause-makes : goal.returns-then-lanes-eq1-clause-makes
returns-then-lanes-eq1-clause-makes g c =
    let first = c.args.lanes.now in
    let here = got_here first 0 c.index-lanes-0.result (subst (λ n. 0 < n) (sym c.if-lanes-eq1.true) (lit< tt)) in
    on_ok _ (LanesMake g.row.WAYS (upkeeps_at c.args.upkeep first) first (set first 0 c.keep_up.new.self)) c.keep_up.result
    (λ carries. done_end (λ n. LaneMakes g.row.WAYS (upkeeps_at c.args.upkeep first n)) 1 first _
    (made_at g.row.WAYS c.args.upkeep 0 first first _ c.keep_up.new.self
    (done_start (λ n. LaneMakes g.row.WAYS (upkeeps_at c.args.upkeep first n)) 0 first) here carries)
    (le_of_eq c.if-lanes-eq1.true)) c.keep_up.ensures.carries

pub returns-then-lanes-eq1-clause-breaks_off : goal.returns-then-lanes-eq1-clause-breaks_off
returns-then-lanes-eq1-clause-breaks_off g c =
    let first = c.args.lanes.now in
    on_err _ (LanesBreakOff g.row.WAYS c.args.upkeep first (set first 0 c.keep_up.new.self)) c.keep_up.result
    (breaks_off_at g.row.WAYS c.args.upkeep 0 first first _ c.keep_up.new.self
    (done_start (λ n. LaneMakes g.row.WAYS (upkeeps_at c.args.upkeep first n)) 0 first) (untouched_start 0 0 first)
    (got_here first 0 c.index-lanes-0.result (subst (λ n. 0 < n) (sym c.if-lanes-eq1.true) (lit< tt)))) c.keep_up.ensures.breaks_off
