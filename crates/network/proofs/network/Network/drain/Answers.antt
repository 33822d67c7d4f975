-- Each switch makes its sweep and then its merges, so all evictions run in order and every groupby is drained.
use Rattle.std.proofs.Common.{◌≡◌, ◌<◌, ◌≤◌, ℕ, List, refl, sym, ◌∙◌, subst, lit<, below_more, add-one, le_of_lt, le_refl, le_trans}
use Rattle.std.proofs.Common.{le_antisymm, lt_of_lt_of_le, ne_of_gt, ne_of_lt, not-suc-le-zero}
use Rattle.switch_core.specs.declared.upkeep.Upkeep.TheVariants as due
use Rattle.network.specs.{Networks.NetworkView, Running.{MergingBreaksOff, NetworkEvent, NetworkRuns, RunBreaksOff, RunsWithMerges}}
use Rattle.network.specs.Running.{all_evictions, front_at, joined_below, upkeep_calls, without_merges}
use Rattle.network.proofs.{Calls.{IsEmptied, all_emptied, calls_same, emptied}, EventLists.rest_is_merges, MakeSteps.if_err, Runs.kept_long}
use Rattle.network.proofs.Runs.{breaks_below, merging_after, merging_breaks_end, merging_first, merging_is, merging_kept, merging_next}
use Rattle.network.proofs.Runs.{merging_none, merging_on, merging_run, runs_kept}
use Rattle.network.proofs.network.Network.drain.Goals as goal

-- the evictions of each switch
abbrev sweeps : NetworkView → ℕ → List NetworkEvent
sweeps net at = without_merges (upkeep_calls at due.Sweep net)

module _ (ways at : ℕ) (old cur mid new : NetworkView) (was : RunsWithMerges ways (joined_below at (sweeps old)) old cur) (same : (n : ℕ)
    → front_at cur n at ≡ front_at old n at) where
  calls : upkeep_calls at due.Sweep cur ≡ upkeep_calls at due.Sweep old
  calls = calls_same at due.Sweep old cur (kept_long _ _ (merging_kept ways (joined_below at (sweeps old)) old cur was)) same

  swept : NetworkRuns ways (upkeep_calls at due.Sweep cur) cur mid → RunsWithMerges ways (sweeps old at) cur mid
  swept ran = subst (λ es. RunsWithMerges ways (without_merges es) cur mid) calls
      (merging_run ways (upkeep_calls at due.Sweep cur) cur mid ran)

  next : NetworkRuns ways (upkeep_calls at due.Sweep cur) cur mid → NetworkRuns ways (upkeep_calls at due.Rest mid) mid new
      → RunsWithMerges ways (sweeps old at) cur new
  next sweep rest =
      merging_after ways (sweeps old at) cur mid new (swept sweep)
      (subst (λ es. RunsWithMerges ways es mid new) (rest_is_merges at mid) (merging_run ways (upkeep_calls at due.Rest mid) mid new rest))

  sweep_breaks : at < old.switches → RunBreaksOff ways (upkeep_calls at due.Sweep cur) cur mid
      → MergingBreaksOff ways (all_evictions old) old mid
  sweep_breaks within broke =
      breaks_below (RunsWithMerges ways) (merging_on ways) (sweeps old) at old.switches old cur mid within was
      (subst (λ es. MergingBreaksOff ways (without_merges es) cur mid) calls
      (merging_first ways (upkeep_calls at due.Sweep cur) cur mid broke))

  rest_breaks : at < old.switches → NetworkRuns ways (upkeep_calls at due.Sweep cur) cur mid
      → RunBreaksOff ways (upkeep_calls at due.Rest mid) mid new → MergingBreaksOff ways (all_evictions old) old new
  rest_breaks within sweep broke =
      breaks_below (RunsWithMerges ways) (merging_on ways) (sweeps old) at old.switches old cur new within was
      (merging_breaks_end ways (sweeps old at) cur mid new (swept sweep)
      (subst (λ es. MergingBreaksOff ways es mid new) (rest_is_merges at mid)
      (merging_first ways (upkeep_calls at due.Rest mid) mid new broke)))

pub loop-at-init : goal.loop-at-init
loop-at-init g c = record {
  runs = merging_none g.row.WAYS c.args.self.now;
  same = λ n s h. refl;
  drained = λ n s below less. absurd (not-suc-le-zero less);
  later = le_refl _;
}

pub keep_up-requires : goal.keep_up-requires
keep_up-requires g c =
    let at = c.loop-at.at in
    let old = c.args.self.now in
    let many = (merging_kept g.row.WAYS (joined_below at (sweeps old)) old c.loop-at.self c.loop-at.invariant.runs).switches in
    (lit< tt, subst (λ n. at < n) (c.switches-at-end.ensures ∙ sym many) c.loop-at-test.true)

pub keep_up-requires-in-loop-at : goal.keep_up-requires-in-loop-at
keep_up-requires-in-loop-at g c =
    let ways = g.row.WAYS in
    let at = c.loop-at.at in
    let old = c.args.self.now in
    let cur = c.loop-at.self in
    let many = (merging_kept ways (joined_below at (sweeps old)) old cur c.loop-at.invariant.runs).switches in
    let more = (runs_kept ways (upkeep_calls at due.Sweep cur) cur c.keep_up.new.self c.in_ok-keep_up.ensures.runs).switches in
    (lit< tt, subst (λ n. at < n) (c.switches-at-end.ensures ∙ (sym many ∙ sym more)) c.loop-at-test.true)

pub loop-at-preserved : goal.loop-at-preserved
loop-at-preserved g c =
    let ways = g.row.WAYS in
    let at = c.loop-at.at in
    let old = c.args.self.now in
    let cur = c.loop-at.self in
    let was = c.loop-at.invariant in
    let mid = c.keep_up.new.self in
    let new = c.keep_up-in-loop-at.new.self in
    let sweep = c.in_ok-keep_up.ensures in
    let rest = c.in_ok-keep_up-2.ensures in
    let kept = merging_kept ways (joined_below at (sweeps old)) old cur was.runs in
    let long = kept_long _ _ kept in
    let longer = kept_long _ _ (runs_kept ways (upkeep_calls at due.Sweep cur) cur mid sweep.runs) in
    record {
      runs = merging_next ways (sweeps old) at old cur new was.runs
          (next ways at old cur mid new was.runs (λ n. was.same n at (le_refl _)) sweep.runs rest.runs);
      same = λ n s h.
          let above : at < s = subst (λ k. k ≤ s) (add-one at) h in
          let far = ne_of_gt above in
          rest.others n s far ∙ (sweep.others n s far ∙ was.same n s (le_of_lt above));
      drained = λ n s below. below_more (λ k. IsEmptied (front_at new n k)) at
          (λ k less.
          let far = ne_of_lt less in
          subst IsEmptied (sym (rest.others n k far ∙ sweep.others n k far)) (was.drained n k below less))
          (emptied (front_at cur n at) (front_at mid n at) (front_at new n at) (sweep.left n (subst (λ k. n < k) (sym long) below))
          (rest.left n (subst (λ k. n < k) (sym (longer ∙ long)) below)))
          s;
      later = le_trans was.later (le_trans c.keep_up.ensures.steps c.keep_up-in-loop-at.ensures.steps);
    }

pub returns-clause-runs : goal.returns-clause-runs
returns-clause-runs g c =
    let old = c.args.self.now in
    let many = c.switches-at-end.ensures in
    let end = le_antisymm (subst (λ n. c.loop-at.at ≤ n) many c.loop-at.auto.at-end)
    (subst (λ n. n ≤ c.loop-at.at) many c.loop-at-test.false) in
    subst (λ k. RunsWithMerges g.row.WAYS (joined_below k (sweeps old)) old c.loop-at.self) end c.loop-at.invariant.runs

pub returns-clause-drained : goal.returns-clause-drained
returns-clause-drained g c =
    let ways = g.row.WAYS in
    let old = c.args.self.now in
    let cur = c.loop-at.self in
    let was = c.loop-at.invariant in
    let events = joined_below c.loop-at.at (sweeps old) in
    let kept = merging_kept ways events old cur was.runs in
    let many = kept.switches in
    let long = kept_long _ _ kept in
    all_emptied _ _ (merging_is _ events _ cur was.runs c.invariant.ensures)
    (λ n s below within. was.drained n s (subst (λ k. n < k) long below)
    (lt_of_lt_of_le (subst (λ k. s < k) (many ∙ sym c.switches-at-end.ensures) within) c.loop-at-test.false))

pub returns-in_err-keep_up-clause-breaks_off : goal.returns-in_err-keep_up-clause-breaks_off
returns-in_err-keep_up-clause-breaks_off g c =
    let at = c.loop-at.at in
    let old = c.args.self.now in
    let was = c.loop-at.invariant in
    let mid = c.keep_up.new.self in
    let within = subst (λ n. at < n) c.switches-at-end.ensures c.loop-at-test.true in
    if_err _ c.from_residual.result
    (sweep_breaks g.row.WAYS at old c.loop-at.self mid mid was.runs (λ n. was.same n at (le_refl _))
    within c.in_err-keep_up.ensures.breaks_off)

pub returns-in_err-keep_up-2-clause-breaks_off : goal.returns-in_err-keep_up-2-clause-breaks_off
returns-in_err-keep_up-2-clause-breaks_off g c =
    let at = c.loop-at.at in
    let old = c.args.self.now in
    let was = c.loop-at.invariant in
    let new = c.keep_up-in-loop-at.new.self in
    let within = subst (λ n. at < n) c.switches-at-end.ensures c.loop-at-test.true in
    if_err _ c.from_residual-in_err-keep_up-2.result
    (rest_breaks g.row.WAYS at old c.loop-at.self c.keep_up.new.self new was.runs (λ n. was.same n at (le_refl _))
    within c.in_ok-keep_up.ensures.runs c.in_err-keep_up-2.ensures.breaks_off)
