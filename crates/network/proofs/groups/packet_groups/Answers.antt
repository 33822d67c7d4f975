-- A turn makes its own groupby's event and leaves the others, so after the last each has made its own.
use Rattle.std.proofs.Common.{◌<◌, ◌≤◌, ◌+◌, ℕ, length, take, get_or, refl, sym, ◌∙◌, subst, lit<, le-add_right, le_refl, le_trans}
use Rattle.std.proofs.{Common.le_of_lt, Math.Facts.Fits-below}
use Rattle.std.specs.Prelude.{sum_by}
use Rattle.epoch_model.specs.Driving.{event_of}
use Rattle.query_lang.specs.declared.fault.TheConstants.{MAX_KEYS}
use Rattle.stage_plan.specs.{Planned.wiring_at, Registers.taken_at}
use Rattle.switch_core.proofs.{LaneFacts.all_at, StepSums.within_all, SweepCosts.sum_within}
use Rattle.switch_core.proofs.SideBySide.{each_long, done_start, untouched_start}
use Rattle.switch_core.proofs.SideBySide.{done_here, untouched_next, was_there, done_end, sum_next}
use Rattle.network.specs.{Groups.GroupView, Events.{GroupMakesAll, is_ready_at}, Costs.group_cost}
use Rattle.network.proofs.{CostSteps.{group_within, within_next}, GroupSteps.part_of}
use Rattle.network.proofs.groups.packet_groups.Goals as goal

pub loop-i-init : goal.loop-i-init
loop-i-init g c = record {
  makes = done_start _ 0
      c.args.groups.now;
  stores = done_start _ 0 c.args.groups.now;
  same = untouched_start 0 0 c.args.groups.now;
  later = le_refl _;
  cost = le-add_right _ _;
  key = refl;
  args = refl;
}

pub overflow_cast-i : goal.overflow_cast-i
overflow_cast-i g c =
    let long = each_long _ 0 c.args.groups.now c.args.plan.now.groups c.requires.groups.2 in
    Fits-below {n = MAX_KEYS} tt
    (le_trans (le_of_lt (subst (λ n. c.loop-i.i < n) long c.loop-i-test.true)) c.invariant.ensures.most_groups)

pub packet-requires : goal.packet-requires
packet-requires g c =
    let i = c.loop-i.i in
    let first = c.args.groups.now in
    let group = get_or c.loop-i.groups i c.index-groups-i.result in
    let was = was_there i first c.loop-i.groups c.index-groups-i.result c.loop-i.invariant.same c.loop-i-test.true c.loop-i.auto.groups in
    let own = part_of c.args.plan.now c.requires.groups.0 i first group c.invariant.ensures c.requires.groups.2 was in
    let at = subst (λ n. c.args.at < n) (sym own.is.count) c.requires.groups.1 in
    let ready = all_at (is_ready_at c.args.at) first i group c.requires.ready was in
    let w = wiring_at c.args.plan.now i in
    let keys = subst (λ n. length w.keys ≤ n) (sym (c.loop-i.invariant.key ∙ c.requires.key)) own.few_keys in
    let args = subst (λ n. length w.args ≤ n) (sym (c.loop-i.invariant.args ∙ c.requires.args)) own.few_args in
    (lit< tt, (own.within, (c.requires.registers, (at, (ready, (own.is.shares, (own.keys, (keys, args))))))))

pub loop-i-preserved : goal.loop-i-preserved
loop-i-preserved g c =
    let i = c.loop-i.i in
    let first = c.args.groups.now in
    let groups = c.loop-i.groups in
    let group = get_or groups i c.index-groups-i.result in
    let new = c.packet.new.self in
    let was = was_there i first c.loop-i.groups c.index-groups-i.result c.loop-i.invariant.same c.loop-i-test.true c.loop-i.auto.groups in
    let made : ℕ → GroupView → GroupView → Type 0 = λ n. GroupMakesAll g.row.WAYS c.args.at
    (event_of (taken_at (wiring_at c.args.plan.now n) c.args.registers.now)) in
    let own = part_of c.args.plan.now c.requires.groups.0 i first group c.invariant.ensures c.requires.groups.2 was in
    let at = subst (λ n. c.args.at < n) (sym own.is.count) c.requires.groups.1 in
    record {
      makes = done_here made i first groups group new c.loop-i.invariant.makes was c.packet.ensures.makes;
      stores = done_here _ i first groups group new c.loop-i.invariant.stores was c.packet.ensures.store;
      same = untouched_next i first groups new c.loop-i.invariant.same;
      later = le_trans c.loop-i.invariant.later c.packet.ensures.steps;
      cost =
          let most = group_cost g.row.WAYS c.args.at in
          within_next c.args.steps.now c.loop-i.steps c.packet.new.steps (sum_by most (take i first)) (most group)
          (sum_by most (take (i + 1) first)) (sum_next most first i _ was)
          c.loop-i.invariant.cost (group_within g.row.WAYS c.args.at c.loop-i.steps c.packet.new.steps group at c.packet.ensures.cost);
      key = c.packet.auto.key ∙ c.loop-i.invariant.key;
      args = c.packet.auto.args ∙ c.loop-i.invariant.args;
    }

pub returns-clause-makes : goal.returns-clause-makes
returns-clause-makes g c =
    done_end _ c.loop-i.i c.args.groups.now c.loop-i.groups c.loop-i.invariant.makes c.loop-i-test.false

pub returns-clause-stores : goal.returns-clause-stores
returns-clause-stores g c =
    done_end _ c.loop-i.i c.args.groups.now c.loop-i.groups c.loop-i.invariant.stores c.loop-i-test.false

pub returns-clause-cost : goal.returns-clause-cost
returns-clause-cost g c =
    within_all _ _ _ _ c.loop-i.invariant.cost (sum_within (group_cost g.row.WAYS c.args.at) c.loop-i.i c.args.groups.now)
