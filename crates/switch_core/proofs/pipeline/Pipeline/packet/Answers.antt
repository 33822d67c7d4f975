-- Each lane makes the packet event of what its groupby takes of the registers.
use Rattle.std.proofs.Common.{◌≡◌, ◌+◌, ◌<◌, ◌≤◌, ℕ, length, drop, get_or, refl, sym, ap, ◌∙◌, subst, true, arith, le-add_right}
use Rattle.std.proofs.Common.{le_refl, le_trans, lit<, le_of_lt}
use Rattle.std.{proofs.Math.Facts.Fits-below, specs.List.list_all}
use Rattle.epoch_model.specs.Driving.{event_of}
use Rattle.query_lang.specs.declared.fault.TheConstants.{MAX_ARGS, MAX_KEYS}
use Rattle.stage_plan.specs.{Planned.wiring_at, Registers.taken_at, Sound.PlanParts}
use Rattle.switch_core.specs.{Pipelines.packet_events, PlanLanes.{AreLanesOf, LaneMakes, LaneView, PipelineView, lane_cost, lane_is_ready}}
use Rattle.switch_core.proofs.{FrontSizes.room_kept, LaneFacts.{all_at, lane_fits, whole_written}, PacketBound.packet_within}
use Rattle.switch_core.proofs.{PipelineSteps.given_back, SideBySide.{each_long, done_start, untouched_start}, StepSums.one_more}
use Rattle.switch_core.proofs.SideBySide.{done_here, untouched_next, was_there, done_end, sum_next, sum_whole}
use Rattle.switch_core.proofs.pipeline.Pipeline.packet.Goals as goal

pub registers_of-registers-requires-clause-row : goal.registers_of-registers-requires-clause-row
registers_of-registers-requires-clause-row g c some =
    let p = c.self.inside in
    let filled = c.fill_registers.new.registers in
    c.deref.ensures.value ∙ (whole_written filled (drop (length filled) p.registers.items) p.registers.len
    (c.fill_registers.auto.registers ∙ c.deref_mut.ensures.len) ∙ c.fill_registers.ensures.row some)

pub registers_of-registers-requires-clause-room : goal.registers_of-registers-requires-clause-room
registers_of-registers-requires-clause-room g c =
    let p = c.self.inside in
    let filled = c.fill_registers.new.registers in
    ap length c.deref.ensures.value
    ∙ (ap length (whole_written filled (drop (length filled) p.registers.items) p.registers.len
    (c.fill_registers.auto.registers ∙ c.deref_mut.ensures.len))
    ∙ (c.fill_registers.auto.registers ∙ (ap length c.deref_mut.ensures.value ∙ c.self.invariant.rooms.for_row)))

pub loop-i-init : goal.loop-i-init
loop-i-init g c = record {
  makes = done_start (λ n. LaneMakes g.row.WAYS
      (event_of (taken_at (wiring_at c.args.self.now.plan n) c.registers_of-registers.result.now))) 0 c.deref_mut-lanes.result.now;
  same = untouched_start 0 0 c.deref_mut-lanes.result.now;
  steps = le_refl _;
  cost = le-add_right _ _;
  key = refl;
  args = refl;
}

pub overflow_cast-i : goal.overflow_cast-i
overflow_cast-i g c =
    let p = c.self.inside in
    let long = ap length c.deref_mut-lanes.ensures.value ∙ each_long _ 0 p.lanes.items p.plan.groups c.self.invariant.lanes in
    Fits-below {n = MAX_KEYS} tt
    (le_trans (le_of_lt (subst (λ n. c.loop-i.i < n) long c.loop-i-test.true)) c.invariant.ensures.most_groups)

pub take-requires : goal.take-requires
take-requires g c =
    let p = c.self.inside in
    let first = c.deref_mut-lanes.result.now in
    let value = c.deref_mut-lanes.ensures.value in
    let i = c.loop-i.i in
    let lane = get_or c.loop-i.lanes i c.index-lanes-i.result in
    let was = was_there i first c.loop-i.lanes c.index-lanes-i.result c.loop-i.invariant.same c.loop-i-test.true c.loop-i.auto.lanes in
    let are : AreLanesOf p.entries p.plan p.buckets first = subst (λ x. AreLanesOf p.entries p.plan p.buckets x) (sym value)
    c.self.invariant.lanes in
    let fits = lane_fits p.entries p.plan p.buckets i first lane c.invariant.ensures are was in
    let all : list_all lane_is_ready p.lanes.items ≡ true =
    subst (λ (v : PipelineView). list_all lane_is_ready v.lanes ≡ true) (sym c.self.view_is) c.requires in
    let ready = all_at lane_is_ready first i lane (ap (list_all lane_is_ready) value ∙ all) was in
    let key8 : length c.loop-i.key ≡ MAX_KEYS =
    c.loop-i.invariant.key ∙ (c.read_caches.auto.key ∙ (ap length c.deref_mut-key.ensures.value ∙ c.self.invariant.rooms.for_key)) in
    let args16 : length c.loop-i.args ≡ MAX_ARGS =
    c.loop-i.invariant.args ∙ (c.read_caches.auto.room ∙ (ap length c.deref_mut-args.ensures.value ∙ c.self.invariant.rooms.for_args)) in
    let keys = subst (λ n. length (wiring_at p.plan i).keys ≤ n) (sym key8) fits.few_keys in
    let args = subst (λ n. length (wiring_at p.plan i).args ≤ n) (sym args16) fits.few_args in
    (lit< tt, (fits.group, (c.registers_of-registers.ensures.length, (ready, (fits.keys, (fits.args, (keys, args)))))))

pub loop-i-preserved : goal.loop-i-preserved
loop-i-preserved g c =
    let plan = c.args.self.now.plan in
    let same : c.self.inside.plan ≡ plan = ap (λ (v : PipelineView). v.plan) c.self.view_is in
    let registers = c.registers_of-registers.result.now in
    let first = c.deref_mut-lanes.result.now in
    let i = c.loop-i.i in
    let lane = get_or c.loop-i.lanes i c.index-lanes-i.result in
    let was = was_there i first c.loop-i.lanes c.index-lanes-i.result c.loop-i.invariant.same c.loop-i-test.true c.loop-i.auto.lanes in
    let made : ℕ → LaneView → LaneView → Type 0 = λ n. LaneMakes g.row.WAYS (event_of (taken_at (wiring_at plan n) registers)) in
    let taken : made i lane c.take.new.self =
    subst (λ (x : PlanParts). LaneMakes g.row.WAYS (event_of (taken_at (wiring_at x i) registers)) lane c.take.new.self) same
    c.take.ensures.makes in
    record {
      makes = done_here made i first c.loop-i.lanes lane c.take.new.self c.loop-i.invariant.makes was taken;
      same = untouched_next i first c.loop-i.lanes c.take.new.self c.loop-i.invariant.same;
      steps = le_trans c.loop-i.invariant.steps c.take.ensures.steps;
      cost = one_more _ _ _ _ _ _ c.loop-i.invariant.cost c.take.ensures.cost (sum_next (lane_cost g.row.WAYS) first i lane was);
      key = c.take.auto.key ∙ c.loop-i.invariant.key;
      args = c.take.auto.args ∙ c.loop-i.invariant.args;
    }

after_row : (first filled last row lanes : ℕ) → filled ≤ first + row → last ≤ filled + lanes → last ≤ first + (row + lanes)
after_row first filled last row lanes f l = omega arith

within_more : (first cost most : ℕ) → cost ≤ most → first + cost ≤ first + most
within_more first cost most few = omega arith

pub returns : goal.returns
returns g c =
    let p = c.self.inside in
    let end = c.loop-i-test.false in
    let row = c.fill_registers.ensures.cost in
    let lanes = rw c.deref_mut-lanes.ensures.value at
    (sum_whole (lane_cost g.row.WAYS) c.deref_mut-lanes.result.now c.loop-i.i _ _ end c.loop-i.invariant.cost) in
    record {
      makes =
          let same : p.plan ≡ c.args.self.now.plan = ap (λ (v : PipelineView). v.plan) c.self.view_is in
          let made = done_end _ c.loop-i.i c.deref_mut-lanes.result.now c.loop-i.lanes c.loop-i.invariant.makes end in
          rw (← c.self.view_is) (given_back g.row.WAYS (packet_events p.plan c.args.p.now.words) _ p.plan _ _ _ _ _
          c.deref_mut-lanes.ensures.value (c.loop-i.auto.lanes ∙ c.deref_mut-lanes.ensures.len)
          (rw (← same, c.registers_of-registers.ensures.row) at made) c.self.invariant.lanes c.self.invariant.made).makes;
      steps = le_trans c.fill_registers.ensures.steps c.loop-i.invariant.steps;
      cost = rw (← c.self.view_is) (after_row _ _ _ _ _ row lanes);
      bound =
          let before : PipelineView = record { plan = p.plan; entries = p.entries; buckets = p.buckets; lanes = p.lanes.items } in
          let within = packet_within c.depth_is_found.ensures c.entries_suit_folds.ensures g.row.WAYS before c.invariant.ensures
          c.self.invariant.lanes in
          rw (← c.self.view_is) (le_trans (after_row _ _ _ _ _ row lanes) (within_more _ _ _ within));
    }

pub invariant_of-self : goal.invariant_of-self
invariant_of-self g c =
    let was = c.self.invariant in
    let end = c.loop-i-test.false in
    let made = done_end _ c.loop-i.i c.deref_mut-lanes.result.now c.loop-i.lanes c.loop-i.invariant.makes end in
    let lanes = (given_back _ _ _ c.self.inside.plan _ _ _ _ _ c.deref_mut-lanes.ensures.value
    (c.loop-i.auto.lanes ∙ c.deref_mut-lanes.ensures.len) made
    was.lanes was.made).kept in
    record {
      few_ways = was.few_ways;
      lanes = lanes.lanes;
      made = lanes.made;
      rooms = record {
        for_row = room_kept _ _ _ _ _ c.fill_registers.auto.registers c.deref_mut.ensures.value c.deref_mut.ensures.len was.rooms.for_row;
        for_key = room_kept _ _ _ _ _ (c.loop-i.invariant.key ∙ c.read_caches.auto.key) c.deref_mut-key.ensures.value
            c.deref_mut-key.ensures.len was.rooms.for_key;
        for_args = room_kept _ _ _ _ _ (c.loop-i.invariant.args ∙ c.read_caches.auto.room) c.deref_mut-args.ensures.value
            c.deref_mut-args.ensures.len was.rooms.for_args;
      };
    }
