-- A packet that the groupby takes is the packet event of its key and its arguments at the front.
use Rattle.std.proofs.Common.{◌≡◌, ◌+◌, ◌≤◌, ◌∷◌, [], ℕ, length, arith, le-add_right, le_refl, le_trans, refl, sym, ap₂, ◌∙◌, subst}
use Rattle.epoch_model.specs.{Driving.event_of, Machine.Packet}
use Rattle.epoch_entry.specs.contracts.any.AnyEpochsEpochKind.TheImpl.{ghosts}
use Rattle.stage_plan.specs.{Planned.wiring_at, Registers.taken_at}
use Rattle.switch_core.specs.{FrontEvents.with_store, LaneEvents.parts, PlanLanes.{LaneMakes, LaneView, lane_cost}}
use Rattle.switch_core.proofs.{Carrying.{fits_kept, makes_one}, StepSums.after_sum}
use Rattle.switch_core.proofs.lane.Lane+AnyEpochs+WAYS.take.Goals as goal

pub returns-then-not-present : goal.returns-then-not-present
returns-then-not-present g c = record {
  makes = rw (sym c.present.ensures ∙ c.if-not-present.true) (record { kind = refl; made = refl });
  steps = le_refl _;
  cost = le-add_right _ _;
}

-- the words of the key and of the arguments are copied before
spent : (first keyed copied last keys args key_words words most : ℕ) → keyed ≡ first + keys → copied ≡ keyed + args → last ≤ copied + most
    → key_words ≡ keys → words ≡ args → last ≤ first + ((key_words + words) + most)
spent first keyed copied last keys args key_words words most k a p key row = omega arith

pub returns-clause-steps : goal.returns-clause-steps
returns-clause-steps g c =
    le_trans (after_sum _ _ _ c.key_into.ensures.steps) (le_trans (after_sum _ _ _ c.args_into.ensures.steps) c.packet.ensures.steps)

pub returns-clause-cost : goal.returns-clause-cost
returns-clause-cost g c =
    let back = sym c.self.view_is in
    let w = wiring_at c.args.plan.now c.args.group in
    let keys = subst (λ (x : LaneView). x.cache.key_words ≡ length w.keys) back c.requires.key in
    let args = subst (λ (x : LaneView). (ghosts.sizes x.kind).args ≡ length w.args) back c.requires.args in
    subst (λ (x : LaneView). c.packet.new.steps ≤ c.args.steps.now + lane_cost g.row.WAYS x) c.self.view_is
    (spent _ _ _ _ _ _ _ _ _ c.key_into.ensures.steps c.args_into.ensures.steps c.packet.ensures.cost keys args)

pub returns-clause-makes : goal.returns-clause-makes
returns-clause-makes g c =
    let w = wiring_at c.args.plan.now c.args.group in
    let rs = c.args.registers.now in
    let key = c.key_into.new.key in
    let row = c.args_into.new.args in
    let was = c.self.inside in
    let front = c.packet.new.self in
    let old : LaneView = with_store was.front was.store in
    let new : LaneView = with_store front was.store in
    let carried = c.packet.ensures.carries was.store in
    let held = sym c.present.ensures ∙ c.if-not-present.false in
    let is : event_of (taken_at w rs) ≡ Packet key row ∷ [] =
    rw held (ap₂ (λ k r. Packet k r ∷ []) (sym c.key_into.ensures.key) (sym c.args_into.ensures.args)) in
    let made : LaneMakes g.row.WAYS (Packet key row ∷ []) old new = record {
      kind = carried.sizes.kind;
      made = (parts front.cache front.pipe was.store, makes_one _ _ _ _ old new carried, refl);
    } in
    rw c.self.view_is at (subst (λ events. LaneMakes g.row.WAYS events old new) (sym is) made)

pub invariant_of-self : goal.invariant_of-self
invariant_of-self g c =
    let old = c.self.inside in
    fits_kept ghosts.sizes (with_store old.front old.store) (with_store c.packet.new.self old.store)
    (c.packet.ensures.carries old.store).sizes c.self.invariant
