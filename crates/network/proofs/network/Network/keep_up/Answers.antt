-- An upkeep of all fronts of a switch.
use Rattle.std.proofs.Common.{◌≡◌, ◌+◌, ◌≤◌, ◌<◌, ℕ, length, take, refl, sym, ◌∙◌, subst, arith, lit<, below_more, le_refl, le_trans}
use Rattle.std.{proofs.Common.{le-add_right, le_antisymm, lt_irrefl, lt_of_lt_of_le, ne_of_lt, not-suc-le-zero}, specs.Prelude.sum_by}
use Rattle.switch_core.proofs.{SideBySide.{got_some, sum_next}, StepSums.within_all, SweepCosts.sum_within}
use Rattle.network.specs.{Costs.{front_upkeep_cost, group_upkeep_cost}, Events.{IsLeft, upkeep_in}}
use Rattle.network.{specs.Running.{NetworkRuns, RunBreaksOff, calls_of, front_at, joined_below, lane_calls}, proofs.Calls.front_here}
use Rattle.network.proofs.{CostSteps.within_next, MakeSteps.if_err, Runs.{breaks_below, kept_long, runs_kept, runs_next, runs_on}}
use Rattle.network.proofs.network.Network.keep_up.Goals as goal

here_next : (n k : ℕ) → n ≡ k → n < k + 1
here_next n k e = omega arith

below_next : (n k : ℕ) → n < k → n < k + 1
below_next n k l = omega arith

pub loop-lane-init : goal.loop-lane-init
loop-lane-init g c = record {
  runs = refl;
  still = λ n s h. refl;
  left = λ n less. absurd (not-suc-le-zero less);
  later = le_refl _;
  cost = le-add_right _ _;
}

pub keep_lane-requires : goal.keep_lane-requires
keep_lane-requires g c =
    let at = c.args.at in
    let old = c.args.self.now in
    let cur = c.loop-lane.self in
    let kept = runs_kept g.row.WAYS (joined_below c.loop-lane.lane (lane_calls at c.args.upkeep old)) old cur c.loop-lane.invariant.runs in
    let long = kept_long _ _ kept in
    let within = subst (λ n. c.loop-lane.lane < n) (c.lanes-lane-end.ensures ∙ sym long) c.loop-lane-test.true in
    (lit< tt, (subst (λ n. at < n) (sym kept.switches) c.requires, within))

pub loop-lane-preserved : goal.loop-lane-preserved
loop-lane-preserved g c =
    let ways = g.row.WAYS in
    let at = c.args.at in
    let upkeep = c.args.upkeep in
    let lane = c.loop-lane.lane in
    let old = c.args.self.now in
    let cur = c.loop-lane.self in
    let new = c.keep_lane.new.self in
    let was = c.loop-lane.invariant in
    let same = was.still lane at (λ e. lt_irrefl _ e.0) in
    let done = c.in_ok-keep_lane.ensures in
    record {
      runs = runs_next ways (lane_calls at upkeep old) lane old cur new was.runs
          (subst (λ o. NetworkRuns ways (calls_of at lane (upkeep_in upkeep o)) cur new) same done.runs);
      still = λ n s h. done.others n s (λ e. h (here_next n lane e.0, e.1)) ∙ was.still n s (λ e. h (below_next n lane e.0, e.1));
      left = below_more (λ n. IsLeft upkeep (front_at old n at) (front_at new n at)) lane
          (λ n less. subst (IsLeft upkeep (front_at old n at)) (sym (done.others n at (λ e. ne_of_lt less e.0))) (was.left n less))
          (subst (λ o. IsLeft upkeep o (front_at new lane at)) same done.left);
      later = le_trans was.later c.keep_lane.ensures.steps;
      cost =
          let most = group_upkeep_cost upkeep at in
          let here = got_some old.groups lane (subst (λ n. lane < n) c.lanes-lane-end.ensures c.loop-lane-test.true) in
          let cost =
          subst (λ o. c.keep_lane.new.steps ≤ c.loop-lane.steps + front_upkeep_cost upkeep o)
          (same ∙ front_here at lane old here.0 here.1) c.keep_lane.ensures.cost in
          within_next c.args.steps.now c.loop-lane.steps c.keep_lane.new.steps (sum_by most (take lane old.groups)) (most here.0)
          (sum_by most (take (lane + 1) old.groups)) (sum_next most old.groups lane _ here.1)
          was.cost cost;
    }

pub returns-clause-runs : goal.returns-clause-runs
returns-clause-runs g c =
    let old = c.args.self.now in
    let long = c.lanes-lane-end.ensures in
    let end = le_antisymm (subst (λ n. c.loop-lane.lane ≤ n) long c.loop-lane.auto.lane-end)
    (subst (λ n. n ≤ c.loop-lane.lane) long c.loop-lane-test.false) in
    subst (λ k. NetworkRuns g.row.WAYS (joined_below k (lane_calls c.args.at c.args.upkeep old)) old c.loop-lane.self) end
    c.loop-lane.invariant.runs

pub returns-clause-left : goal.returns-clause-left
returns-clause-left g c n less =
    c.loop-lane.invariant.left n
    (lt_of_lt_of_le less (subst (λ k. k ≤ c.loop-lane.lane) c.lanes-lane-end.ensures c.loop-lane-test.false))

pub returns-clause-others : goal.returns-clause-others
returns-clause-others g c n s apart = c.loop-lane.invariant.still n s (λ e. apart e.1)

pub returns-clause-cost : goal.returns-clause-cost
returns-clause-cost g c =
    within_all _ _ _ _ c.loop-lane.invariant.cost
    (sum_within (group_upkeep_cost c.args.upkeep c.args.at) c.loop-lane.lane c.args.self.now.groups)

pub returns-in_err-keep_lane-clause-breaks_off : goal.returns-in_err-keep_lane-clause-breaks_off
returns-in_err-keep_lane-clause-breaks_off g c =
    let lane = c.loop-lane.lane in
    let old = c.args.self.now in
    let within = subst (λ n. lane < n) c.lanes-lane-end.ensures c.loop-lane-test.true in
    if_err _ c.from_residual.result (breaks_below (NetworkRuns g.row.WAYS) (runs_on g.row.WAYS)
    (lane_calls c.args.at c.args.upkeep old) lane (length old.groups) old c.loop-lane.self c.keep_lane.new.self within
    c.loop-lane.invariant.runs
    (subst (λ o. RunBreaksOff g.row.WAYS (calls_of c.args.at lane (upkeep_in c.args.upkeep o)) c.loop-lane.self c.keep_lane.new.self)
    (c.loop-lane.invariant.still lane c.args.at (λ e. lt_irrefl _ e.0)) c.in_err-keep_lane.ensures.breaks_off))

pub returns-in_err-keep_lane-clause-cost : goal.returns-in_err-keep_lane-clause-cost
returns-in_err-keep_lane-clause-cost g c =
    let at = c.args.at in
    let upkeep = c.args.upkeep in
    let lane = c.loop-lane.lane in
    let old = c.args.self.now in
    let was = c.loop-lane.invariant in
    let most = group_upkeep_cost upkeep at in
    let here = got_some old.groups lane (subst (λ n. lane < n) c.lanes-lane-end.ensures c.loop-lane-test.true) in
    let same = was.still lane at (λ e. lt_irrefl _ e.0) in
    let cost =
    subst (λ o. c.keep_lane.new.steps ≤ c.loop-lane.steps + front_upkeep_cost upkeep o) (same ∙ front_here at lane old here.0 here.1)
    c.keep_lane.ensures.cost in
    let next = within_next c.args.steps.now c.loop-lane.steps c.keep_lane.new.steps (sum_by most (take lane old.groups)) (most here.0)
    (sum_by most (take (lane + 1) old.groups)) (sum_next most old.groups lane _ here.1)
    was.cost cost in
    within_all _ _ _ _ next (sum_within most (lane + 1) old.groups)
