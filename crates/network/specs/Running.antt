-- What happens at a network: its events, and what they make of it.
use Rattle.std.specs.Prelude.{◌≡◌, ◌≢◌, ℕ, zero, suc, Bool, if◌then◌else◌, List, [], ◌∷◌, ◌++◌, length, slice_get, Option, Some, None}
use Rattle.epoch_model.specs.Machine.{Event, Packet, Evict, Merge}
use Rattle.epoch_entry.specs.declared.any.AnyEpochs.{AnyEpochs}
use Rattle.stage_plan.specs.Sound.{PlanParts}
use Rattle.switch_core.specs.{FrontParts.FrontOf, Pipelines.{event_at, packet_events}, Rows.AreFirst, declared.upkeep.Upkeep.Upkeep}
use Rattle.switch_core.specs.declared.upkeep.Upkeep.TheVariants as due
use Rattle.additive_laws.specs.{Network.{SwitchEvent, SwitchEpoch}, Traces.from_switch}
use Rattle.network.specs.{Groups.{GroupStands, GroupView}, Events.{AtGroup, GroupsMake, upkeep_in}, Networks.{KeepsNetwork, NetworkView}}
use Rattle.network.specs.Shared.{merged_by}

-- a packet with these words comes to a switch; or a switch evicts from a bucket, or merges a record, at one groupby
pub data NetworkEvent : Type 0 where
  Takes : (switch : ℕ) (words : List ℕ) → NetworkEvent
  Evicts : (switch lane bucket : ℕ) → NetworkEvent
  Merges : (switch lane : ℕ) → NetworkEvent

-- its switch
abbrev pub switch_of : NetworkEvent → ℕ
switch_of (Takes switch words) = switch
switch_of (Evicts switch lane bucket) = switch
switch_of (Merges switch lane) = switch

-- the events that it gives the switch's machine of the groupby with this number
abbrev pub gives : PlanParts → NetworkEvent → ℕ → List Event
gives plan (Takes switch words) = packet_events plan words
gives plan (Evicts switch lane bucket) = event_at lane (Evict bucket)
gives plan (Merges switch lane) = event_at lane Merge

-- all that these events give the machines of the groupby with this number, in order
abbrev pub all_given : PlanParts → ℕ → List NetworkEvent → List SwitchEvent
all_given plan n [] = []
all_given plan n (e ∷ events) = from_switch (switch_of e) (gives plan e n) ++ all_given plan n events

-- the epochs that these events merge after those before them, in the order of the merges
abbrev pub merged_after : ℕ → ℕ → List SwitchEvent → List SwitchEvent → List SwitchEpoch
merged_after ways buckets before [] = []
merged_after ways buckets before (e ∷ events) =
    merged_by ways buckets e.switch e.event before ++ merged_after ways buckets (before ++ e ∷ []) events

-- A network represents these events: at each groupby its caches and pipes represent the machines after what the events give that
-- groupby, and its store holds the epochs that they merge.
abbrev pub NetworkStands : ℕ → NetworkView → List NetworkEvent → Type 0
NetworkStands ways net events = (n : ℕ) → AtGroup (λ group. let given = all_given net.plan n events in
    GroupStands ways net.buckets group given (merged_after ways net.buckets [] given)) net.groups n

-- A network makes an event: each groupby makes what the event gives it, and one that is given nothing is unchanged.
pub record NetworkMakes (ways : ℕ) (event : NetworkEvent) (old new : NetworkView) : Type 0 where
  pub groups : GroupsMake ways (switch_of event) (gives old.plan event) old.groups new.groups
  pub switches : new.switches ≡ old.switches
  pub keeps : KeepsNetwork old new

-- It makes these events in sequence.
abbrev pub NetworkRuns : ℕ → List NetworkEvent → NetworkView → NetworkView → Type 0
NetworkRuns ways [] old new = new ≡ old
NetworkRuns ways (e ∷ events) old new = (middle : NetworkView) × NetworkMakes ways e old middle × NetworkRuns ways events middle new

-- A network that represents some events represents them followed by those that it makes.
abbrev pub RunsFollowEvents : Type 0
RunsFollowEvents = (ways : ℕ) (events before : List NetworkEvent) (old new : NetworkView) → NetworkRuns ways events old new
    → NetworkStands ways old before → NetworkStands ways new (before ++ events)

-- It made the first of these events, and no others.
abbrev pub RunBreaksOff : ℕ → List NetworkEvent → NetworkView → NetworkView → Type 0
RunBreaksOff ways events old new = (first : List NetworkEvent) × AreFirst first events × NetworkRuns ways first old new

-- these events but for the merges
abbrev pub without_merges : List NetworkEvent → List NetworkEvent
without_merges [] = []
without_merges (Takes switch words ∷ events) = Takes switch words ∷ without_merges events
without_merges (Evicts switch lane bucket ∷ events) = Evicts switch lane bucket ∷ without_merges events
without_merges (Merges switch lane ∷ events) = without_merges events

-- It makes these events in sequence, with merges among them.
abbrev pub RunsWithMerges : ℕ → List NetworkEvent → NetworkView → NetworkView → Type 0
RunsWithMerges ways events old new = (made : List NetworkEvent) × (without_merges made ≡ events) × NetworkRuns ways made old new

-- It made the first of these events, with merges among them, and no others.
abbrev pub MergingBreaksOff : ℕ → List NetworkEvent → NetworkView → NetworkView → Type 0
MergingBreaksOff ways events old new = (first : List NetworkEvent) × AreFirst first events × RunsWithMerges ways first old new

-- the lists of the numbers below this one, joined in ascending order
abbrev pub joined_below : ℕ → (ℕ → List NetworkEvent) → List NetworkEvent
joined_below zero lists = []
joined_below (suc n) lists = joined_below n lists ++ lists n

-- the front of this switch at the groupby, where there is one
abbrev pub front_of : ℕ → Option GroupView → Option (FrontOf AnyEpochs)
front_of at None = None
front_of at (Some group) = slice_get group.fronts at

-- the front of this switch at the groupby with this number
abbrev pub front_at : NetworkView → ℕ → ℕ → Option (FrontOf AnyEpochs)
front_at net lane at = front_of at (slice_get net.groups lane)

-- the calls for these events of a switch at one groupby; no call is for a packet of one groupby alone
abbrev pub calls_of : ℕ → ℕ → List Event → List NetworkEvent
calls_of at lane [] = []
calls_of at lane (Packet key row ∷ events) = calls_of at lane events
calls_of at lane (Evict bucket ∷ events) = Evicts at lane bucket ∷ calls_of at lane events
calls_of at lane (Merge ∷ events) = Merges at lane ∷ calls_of at lane events

-- those of an upkeep at the groupby with this number
abbrev pub lane_calls : ℕ → Upkeep → NetworkView → ℕ → List NetworkEvent
lane_calls at upkeep net lane = calls_of at lane (upkeep_in upkeep (front_at net lane at))

-- those of an upkeep of a switch, groupby by groupby
abbrev pub upkeep_calls : ℕ → Upkeep → NetworkView → List NetworkEvent
upkeep_calls at upkeep net = joined_below (length net.groups) (lane_calls at upkeep net)

-- The events of a packet's turn: a merge wherever the switch's pipe is full, the packet, and a merge at each groupby where the lag is
-- over.
abbrev pub turn_events : ℕ → List ℕ → Bool → NetworkView → List NetworkEvent
turn_events at words lag_over net =
    upkeep_calls at due.Room net ++ Takes at words ∷ (if lag_over then upkeep_calls at due.Lag net else [])

-- all fronts but that of this switch at this groupby are unchanged
abbrev pub FrontsStay : ℕ → ℕ → NetworkView → NetworkView → Type 0
FrontsStay lane at old new = (n s : ℕ) → ((n ≡ lane) × (s ≡ at) → ⊥) → front_at new n s ≡ front_at old n s

-- all fronts but those of this switch are unchanged
abbrev pub SwitchesStay : ℕ → NetworkView → NetworkView → Type 0
SwitchesStay at old new = (n s : ℕ) → s ≢ at → front_at new n s ≡ front_at old n s

-- The evictions that empty all caches of a network, switch by switch: those of a sweep of each.
abbrev pub all_evictions : NetworkView → List NetworkEvent
all_evictions net = joined_below net.switches (λ at. without_merges (upkeep_calls at due.Sweep net))
