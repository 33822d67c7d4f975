-- What an event of one switch makes of the groupbys of a network.
use Rattle.std.specs.Prelude.{◌≡◌, ◌≢◌, ℕ, Bool, false, nat_lt, List, [], ◌∷◌, ◌++◌, length, slice_get, slice_set, Option, Some, None}
use Rattle.epoch_model.specs.Machine.{Event}
use Rattle.epoch_entry.specs.{declared.any.AnyEpochs.AnyEpochs, contracts.any.AnyEpochsEpochKind.TheImpl.ghosts}
use Rattle.bucket_cache.specs.Caches.{Cache}
use Rattle.switch_core.specs.{FrontEvents.{Carries, CarriesAll, with_store}, FrontParts.{FrontOf, front_of}, PlanLanes.LaneView}
use Rattle.switch_core.specs.{Rows.{AreFirst, Each, EachFrom}, Upkeeps.{IsKept, upkeep_events}, declared.upkeep.Upkeep.Upkeep}
use Rattle.switch_core.specs.declared.upkeep.Upkeep.TheVariants as due
use Rattle.additive_laws.specs.Network.{AllMerged, SwitchEvent, SwitchEpoch}
use Rattle.net_wide.specs.NetTables.{caches_of}
use Rattle.network.specs.{Shared.{AtSwitch, merged_by, with_event}, Groups.{GroupView, GroupStands}}

-- whether there is a front, and its pipe has room for a record
abbrev pub has_room : {K : Type 0} → Option (FrontOf K) → Bool
has_room None = false
has_room (Some front) = nat_lt (length front.pipe.records) front.pipe.places

-- whether the pipe of this switch has room for a record at the groupby
abbrev pub is_ready_at : ℕ → GroupView → Bool
is_ready_at at group = has_room (slice_get group.fronts at)

-- this holds of the groupby with this number
abbrev pub AtGroup : (GroupView → Type 0) → List GroupView → ℕ → Type 0
AtGroup P groups lane = (group : GroupView) → slice_get groups lane ≡ Some group → P group

-- this holds of the front of this switch at the groupby with this number
abbrev pub AtFront : (FrontOf AnyEpochs → Type 0) → List GroupView → ℕ → ℕ → Type 0
AtFront P groups at lane = AtGroup (λ group. AtSwitch P group.fronts at) groups lane

-- these events lead a front and the store that it is handed from the old lane to the new one
abbrev pub LaneCarries : ℕ → List Event → LaneView → LaneView → Type 0
LaneCarries ways events old new = CarriesAll ghosts.stands ghosts.folding ways events old new

-- the groupby with this front of the switch, and this store
abbrev pub with_lane : ℕ → LaneView → GroupView → GroupView
with_lane at lane group = record {
  kind = group.kind;
  fronts = slice_set group.fronts at (front_of lane.kind lane.cache lane.pipe);
  store = lane.store;
}

-- The front of this switch and the groupby's store make the event, and nothing else changes. Where the groupby represented events
-- and merged epochs, it represents them followed by this event and what it merges.
pub record GroupMakes (ways at : ℕ) (event : Event) (old new : GroupView) : Type 0 where
  pub was : FrontOf AnyEpochs
  pub here : slice_get old.fronts at ≡ Some was
  pub now : LaneView
  pub carries : Carries ghosts.stands ghosts.folding ways event (with_store was old.store) now
  pub made : new ≡ with_lane at now old
  pub stands : (buckets : ℕ) (events : List SwitchEvent) (merged : List SwitchEpoch)
      → GroupStands ways buckets old events merged
      → GroupStands ways buckets new (with_event events at event) (merged ++ merged_by ways buckets at event events)

-- The groupby makes these events of the switch in sequence; where there is none it is unchanged.
abbrev pub GroupMakesAll : ℕ → ℕ → List Event → GroupView → GroupView → Type 0
GroupMakesAll ways at [] old new = new ≡ old
GroupMakesAll ways at (event ∷ events) old new =
    (middle : GroupView) × GroupMakes ways at event old middle × GroupMakesAll ways at events middle new

-- it made the first of these events, and no others
abbrev pub GroupBreaksOff : ℕ → ℕ → List Event → GroupView → GroupView → Type 0
GroupBreaksOff ways at events old new = (first : List Event) × AreFirst first events × GroupMakesAll ways at first old new

-- each groupby makes the events of its number at this switch
abbrev pub GroupsMake : ℕ → ℕ → (ℕ → List Event) → List GroupView → List GroupView → Type 0
GroupsMake ways at events olds news = EachFrom (λ n. GroupMakesAll ways at (events n)) 0 olds news

-- the events of an upkeep at a front, where there is one
abbrev pub upkeep_in : Upkeep → Option (FrontOf AnyEpochs) → List Event
upkeep_in upkeep None = []
upkeep_in upkeep (Some front) = upkeep_events upkeep front.cache front.pipe

-- the merges of all that waits leave a cache as it was
abbrev pub LeavesCache : Upkeep → Cache → Cache → Type 0
LeavesCache due.Rest was now = now ≡ was
LeavesCache _ was now = Unit {0}

-- what an upkeep leaves of a front, where there is one
abbrev pub IsLeft : Upkeep → Option (FrontOf AnyEpochs) → Option (FrontOf AnyEpochs) → Type 0
IsLeft upkeep None None = Unit {0}
IsLeft upkeep (Some was) (Some now) = IsKept upkeep now.cache now.pipe × LeavesCache upkeep was.cache now.cache
IsLeft upkeep _ _ = ⊥

-- a groupby's caches and pipes of all other switches are unchanged
abbrev pub StaysBut : ℕ → GroupView → GroupView → Type 0
StaysBut at old new = (other : ℕ) → other ≢ at → slice_get new.fronts other ≡ slice_get old.fronts other

-- Whatever the groupby represents, no epoch of it is open, and its store merged each switch's closed epochs in the order of
-- closing.
abbrev pub AreAllMerged : ℕ → GroupView → Type 0
AreAllMerged ways group = (buckets : ℕ) (events : List SwitchEvent) (merged : List SwitchEpoch)
    → GroupStands ways buckets group events merged → AllMerged (caches_of buckets ways) events merged

-- at every groupby, the caches and pipes of all switches but this one are unchanged
abbrev pub OthersStay : ℕ → List GroupView → List GroupView → Type 0
OthersStay at olds news = Each (StaysBut at) olds news

-- no store changed
abbrev pub StoresStay : List GroupView → List GroupView → Type 0
StoresStay olds news = Each (λ old new. new.store ≡ old.store) olds news
