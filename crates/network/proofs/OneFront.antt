-- A front of a groupby that is another one now, with the groupby's store, and the groupby with them.
use Rattle.std.{proofs.Common.{◌≡◌, ℕ, ◌<◌, true, List, Some, length, get_or, set, sym, ap, ◌∙◌, subst}, specs.Prelude.slice_get}
use Rattle.epoch_model.specs.Machine.{Event}
use Rattle.epoch_entry.specs.{declared.any.AnyEpochs.AnyEpochs, contracts.any.AnyEpochsEpochKind.TheImpl.ghosts}
use Rattle.backing_store.specs.Store.{Store}
use Rattle.switch_core.specs.{FrontEvents.{CarriesFirst, with_store}, FrontParts.FrontOf, PlanLanes.LaneView}
use Rattle.switch_core.proofs.{LaneFacts.got_set, SideBySide.{got_below, same_some}}
use Rattle.network.specs.{Shared.MayShare, Groups.{GroupShares, GroupView, folding_in}}
use Rattle.network.specs.Events.{GroupBreaksOff, GroupMakesAll, LaneCarries, is_ready_at, with_lane}
use Rattle.network.{specs.declared.group.Group.TheInside.Inside, proofs.MakeSteps.{all_made, first_made, front_there, room_at, same_lane}}

-- a groupby by its parts
abbrev pub group_of : {ways : ℕ} → Inside ways → GroupView
group_of p = record { kind = p.kind; fronts = p.fronts.items; store = p.store }

-- a groupby of these parts has this front
pub record IsFront (view old : GroupView) (at : ℕ) (front : FrontOf AnyEpochs) : Type 0 where
  pub same : view ≡ old
  pub here : slice_get view.fronts at ≡ Some front

pub front_found : {view old : GroupView} {at : ℕ} {front : FrontOf AnyEpochs} → view ≡ old → at < length old.fronts
    → front ≡ get_or view.fronts at front → IsFront view old at front
front_found {view} {old} {at} {front} same within value =
    record { same = same; here = front_there view old at front same within value }

module _ {view old : GroupView} {at : ℕ} {front : FrontOf AnyEpochs} (f : IsFront view old at front) where
  pub front_shares : (args : ℕ) → GroupShares args old → MayShare ghosts.sizes ghosts.folding (folding_in view) args view.store front
  front_shares args shares = (subst (GroupShares args) (sym f.same) shares) at front f.here

  pub front_is : {x : FrontOf AnyEpochs} → slice_get old.fronts at ≡ Some x → front ≡ x
  front_is {x} e = same_some front x (sym f.here ∙ (ap (λ (v : GroupView). slice_get v.fronts at) f.same ∙ e))

  pub front_was : slice_get old.fronts at ≡ Some front
  front_was = sym (ap (λ (v : GroupView). slice_get v.fronts at) f.same) ∙ f.here

  pub front_room : is_ready_at at old ≡ true → length front.pipe.records < front.pipe.places
  front_room ready = room_at at view front (rw (f.same, ready)) f.here

  -- another one stands there
  pub front_now : (new : FrontOf AnyEpochs) → slice_get (set view.fronts at new) at ≡ Some new
  front_now new = got_set view.fronts at new (got_below view.fronts at front f.here)

  pub front_kept : (new : FrontOf AnyEpochs) (store : Store) → (new ≡ front) × (store ≡ view.store)
      → with_lane at (with_store new store) view ≡ old
  front_kept new store same = same_lane at view front new store f.here same.0 same.1 ∙ f.same

  -- events of the front and the store are those of the groupby
  pub group_makes : (ways : ℕ) (events : List Event) (lane : LaneView) → (args : ℕ) × GroupShares args old
      → LaneCarries ways events (with_store front view.store) lane → GroupMakesAll ways at events old (with_lane at lane view)
  group_makes ways events lane shares made = subst (λ v. GroupMakesAll ways at events v (with_lane at lane view)) f.same
      (all_made ways at events view front lane f.here (front_shares shares.0 shares.1).alike made)

  pub group_breaks_off : (ways : ℕ) (events : List Event) (lane : LaneView) → (args : ℕ) × GroupShares args old
      → CarriesFirst ghosts.stands ghosts.folding ways events (with_store front view.store) lane
      → GroupBreaksOff ways at events old (with_lane at lane view)
  group_breaks_off ways events lane shares broke = subst (λ v. GroupBreaksOff ways at events v (with_lane at lane view)) f.same
      (first_made ways at events view front lane f.here (front_shares shares.0 shares.1).alike broke)
