-- A groupby of a network that is another one now, and the network with it.
use Rattle.std.{proofs.Common.{◌≡◌, ℕ, ◌<◌, List, Some, length, get_or, set, refl, sym, ap, subst₂, ◌∙◌}, specs.Prelude.slice_get}
use Rattle.epoch_model.specs.Machine.{Event}
use Rattle.epoch_entry.specs.{declared.any.AnyEpochs.AnyEpochs, contracts.any.AnyEpochsEpochKind.TheImpl.ghosts}
use Rattle.stage_plan.specs.Planned.{wiring_at}
use Rattle.switch_core.{specs.{FrontParts.FrontOf, Pipelines.event_at}, proofs.LaneFacts.{got_set, set_same}}
use Rattle.switch_core.proofs.SideBySide.{got_below, same_some}
use Rattle.switch_core.specs.declared.upkeep.Upkeep.{Upkeep}
use Rattle.network.specs.Events.{GroupBreaksOff, GroupMakes, GroupMakesAll, GroupsMake, OthersStay, upkeep_in}
use Rattle.network.specs.{Groups.{GroupView, folding_in}, Networks.{IsNetwork, NetworkView}, Shared.AllShare}
use Rattle.network.specs.Running.{NetworkEvent, NetworkMakes, NetworkRuns, RunBreaksOff, calls_of, front_at, gives, lane_calls, switch_of}
use Rattle.network.{specs.declared.network.Network.TheInside.Inside, proofs.Calls.{front_here, lane_breaks, lane_runs, upkeep_packets}}
use Rattle.network.proofs.MakeSteps.{make_one, none_changes, others_stay, shares_at, switch_within}
use Rattle.network.proofs.NetworkSteps.{group_there, made_network, net_of, same_network, with_groups}

-- a network by its parts
abbrev pub view_of : {ways : ℕ} → Inside ways → NetworkView
view_of p = net_of p.plan p.buckets p.pipe_records p.switches p.groups.items

-- a network of these parts has this groupby
pub record IsLane (ways : ℕ) (view net : NetworkView) (lane : ℕ) (group : GroupView) : Type 0 where
  pub network : IsNetwork ways view
  pub same : view ≡ net
  pub here : slice_get view.groups lane ≡ Some group

pub lane_found : {ways : ℕ} {view net : NetworkView} {lane : ℕ} {group : GroupView} → IsNetwork ways view → view ≡ net
    → lane < length net.groups → group ≡ get_or view.groups lane group → IsLane ways view net lane group
lane_found {ways} {view} {net} {lane} {group} network same within value =
    record { network = network; same = same; here = group_there _ _ lane _ same within value }

module _ {ways : ℕ} {view net : NetworkView} {lane : ℕ} {group : GroupView} (l : IsLane ways view net lane group) where
  pub lane_switch : {at : ℕ} → at < net.switches → at < length group.fronts
  lane_switch {at} within = switch_within view.plan view.switches at lane view.groups group
      (rw l.same within) l.network.groups l.here

  pub lane_shares : (args : ℕ) × AllShare ghosts.sizes ghosts.folding (folding_in group) args group.fronts group.store
  lane_shares = (length (wiring_at view.plan lane).args, shares_at view.plan view.switches lane view.groups _ l.network.groups l.here)

  -- the groupby and the fronts that contracts speak of
  pub lane_is : {x : GroupView} → slice_get net.groups lane ≡ Some x → group ≡ x
  lane_is {x} e = same_some group x (sym l.here ∙ (ap (λ (v : NetworkView). slice_get v.groups lane) l.same ∙ e))

  pub lane_front : (at : ℕ) {x : GroupView} {front : FrontOf AnyEpochs} → slice_get net.groups lane ≡ Some x
      → slice_get x.fronts at ≡ Some front → slice_get group.fronts at ≡ Some front
  lane_front at e f = rw (lane_is e, f)

  pub front_was : (at : ℕ) → slice_get group.fronts at ≡ front_at net lane at
  front_was at = sym (front_here at lane view group l.here) ∙ ap (λ v. front_at v lane at) l.same

  -- another one stands there
  module _ (new : GroupView) where
    abbrev pub after : NetworkView
    after = with_groups view (set view.groups lane new)

    pub lane_now : slice_get after.groups lane ≡ Some new
    lane_now = got_set view.groups lane new (got_below view.groups lane _ l.here)

    pub front_now : (at : ℕ) → slice_get new.fronts at ≡ front_at after lane at
    front_now at = sym (front_here at lane after new lane_now)

    as_before : new ≡ group → after.groups ≡ view.groups
    as_before same = rw (same, set_same view.groups lane group l.here)

    pub lane_kept : new ≡ group → after ≡ net
    lane_kept same = rw (as_before same, l.same)

    pub kept_network : new ≡ group → IsNetwork ways after
    kept_network same = same_network _ _ _ (as_before same) l.network

    pub kept_others : (at : ℕ) → new ≡ group → OthersStay at net.groups after.groups
    kept_others at same = rw (← l.same, as_before same) (none_changes at 0 view.groups)

    pub event_made : (e : NetworkEvent) → GroupsMake ways (switch_of e) (gives view.plan e) view.groups after.groups
        → NetworkMakes ways e net after
    event_made e made = rw (← l.same) (record {
      groups = made;
      switches = refl;
      keeps =
          record { plan = refl; buckets = refl; pipe_records = refl };
    })

    -- it made the events of an upkeep, or broke off in them
    module _ (at : ℕ) (upkeep : Upkeep) where
      calls_here : (R : List NetworkEvent → NetworkView → Type 0)
          → R (calls_of at lane (upkeep_in upkeep (slice_get group.fronts at))) view → R (lane_calls at upkeep net lane) net
      calls_here R made = subst₂ (λ o net. R (calls_of at lane (upkeep_in upkeep o)) net) (front_was at) l.same made

      pub upkeep_runs : GroupMakesAll ways at (upkeep_in upkeep (slice_get group.fronts at)) group new
          → NetworkRuns ways (lane_calls at upkeep net lane) net after
      upkeep_runs made = calls_here (λ es net. NetworkRuns ways es net after)
          (lane_runs ways at lane _ view group new (upkeep_packets upkeep (slice_get group.fronts at)) l.here made)

      pub upkeep_breaks : GroupBreaksOff ways at (upkeep_in upkeep (slice_get group.fronts at)) group new
          → RunBreaksOff ways (lane_calls at upkeep net lane) net after
      upkeep_breaks broke = calls_here (λ es net. RunBreaksOff ways es net after)
          (lane_breaks ways at lane _ view group new (upkeep_packets upkeep (slice_get group.fronts at)) l.here broke)

    -- it made an event of a switch
    module _ (at : ℕ) (event : Event) (made : GroupMakes ways at event group new) where
      pub groups_made : GroupsMake ways at (event_at lane event) view.groups after.groups
      groups_made = make_one ways at lane event view.groups group new l.here made

      pub network_made : IsNetwork ways after
      network_made = made_network ways at (event_at lane event) view after.groups groups_made l.network

      pub others_made : OthersStay at net.groups after.groups
      others_made = rw (← l.same) (others_stay ways at (event_at lane event) view.groups after.groups groups_made)
