-- What contracts see of a pipeline.
use Rattle.std.specs.Prelude.{◌≡◌, ℕ, ◌+◌, ◌*◌, ◌≤◌, Bool, List, [], ◌∷◌, length, map, nat_lt, slice_get, sum_by, Option, Some, None, true}
use Rattle.std.specs.{Prelude.{◌==◌, if◌then◌else◌}, List.{All, list_all}}
use Rattle.epoch_model.specs.{Machine.{Machine, Event, empty_buckets}, Laws.SameEpochs, Tables.Folding}
use Rattle.epoch_entry.specs.{declared.{any.AnyEpochs.AnyEpochs, purpose.Entries.Entries}, contracts.any.AnyEpochsEpochKind.TheImpl.ghosts}
use Rattle.epoch_entry.specs.{Foldings.merge_bound, Programs.program_in, Purposes.IsKindFor}
use Rattle.fold_class.specs.Program.{IsProgramOf}
use Rattle.query_lang.specs.declared.fold.TypedFold.{TypedFold}
use Rattle.stage_plan.specs.{declared.group.GroupPlan.GroupPlan, Planned.{registers_of, wiring_at}, Sound.PlanParts}
use Rattle.switch_core.specs.{FrontParts.LaneOf, Lanes.LaneStands, LaneEvents.{Parts, parts, MakesAll}}
use Rattle.switch_core.specs.Pipelines.{IsLaneOf, HasRooms, after_events, geometry_without_refresh, heading_of, stored_table}
use Rattle.switch_core.specs.{Closing.{held_in, is_drained}, Costs.{evict_cost, merge_cost, sweep_cost}, Rows.{AreFirst, Each, EachFrom}}
use Rattle.switch_core.specs.{Upkeeps.{IsKept, upkeep_cost, upkeep_events}, declared.upkeep.Upkeep.Upkeep}
use Rattle.final_queries.specs.declared.table.Table.{Table}

-- a lane of a pipeline
abbrev pub LaneView : Type 0
LaneView = LaneOf AnyEpochs

-- the plan, what the entries are for, the number of buckets of each lane, and the lanes in the order of the groupbys
pub record PipelineView : Type 0 where
  pub plan : PlanParts
  pub entries : Entries
  pub buckets : ℕ
  pub lanes : List LaneView

abbrev pub parts_of : LaneView → Parts
parts_of lane = parts lane.cache lane.pipe lane.store

-- the folding of a lane's kind
abbrev pub folding_at : LaneView → Folding
folding_at lane = ghosts.folding lane.kind

-- the lane represents a machine
abbrev pub StandsFor : LaneView → Machine → Type 0
StandsFor lane m = LaneStands (ghosts.stands lane.kind) (ghosts.folding lane.kind) lane.cache lane.pipe lane.store m

-- the tables of what the lanes' stores hold, in the order of the groupbys
abbrev pub stored_tables : List GroupPlan → List LaneView → List Table
stored_tables (group ∷ groups) (lane ∷ lanes) = stored_table (heading_of group) (folding_at lane).row_per_epoch lane.store
    ∷ stored_tables groups lanes
stored_tables _ _ = []

-- the places of each lane's pipe
abbrev pub pipe_places : List LaneView → List ℕ
pipe_places lanes = map (λ lane. lane.pipe.places) lanes

-- every pipe has this many places
abbrev pub HavePlaces : ℕ → List LaneView → Type 0
HavePlaces places lanes = All (λ lane. lane.pipe.places ≡ places) lanes

-- A pipeline represents a list of machines, one for each lane.
abbrev pub PipelineStands : PipelineView → List Machine → Type 0
PipelineStands p machines = Each StandsFor p.lanes machines

-- whether the pipe of a lane has room for a record
abbrev pub lane_is_ready : LaneView → Bool
lane_is_ready lane = nat_lt (length lane.pipe.records) lane.pipe.places

-- this holds of the lane with this number
abbrev pub AtLane : (LaneView → Type 0) → List LaneView → ℕ → Type 0
AtLane P lanes n = (lane : LaneView) → slice_get lanes n ≡ Some lane → P lane

-- the lanes are those of the plan's groupbys, in order, with entries for this
abbrev pub AreLanesOf : Entries → PlanParts → ℕ → List LaneView → Type 0
AreLanesOf entries plan buckets lanes =
    EachFrom (λ n lane group. IsLaneOf entries buckets lane.cache (ghosts.sizes lane.kind) (ghosts.folding lane.kind)
    (ghosts.open_bound lane.kind) (ghosts.absorb_bound lane.kind) group (wiring_at plan n)) 0 lanes plan.groups

-- a lane's entries are of the kind of its groupby's fold for what they are for
abbrev pub HasKindFor : Entries → LaneView → GroupPlan → Type 0
HasKindFor entries lane group = (f : TypedFold) → IsProgramOf f group.program → IsKindFor entries f (ghosts.sizes lane.kind)
    (ghosts.folding lane.kind) (ghosts.open_bound lane.kind) (ghosts.absorb_bound lane.kind)

-- merging an entry of a lane takes at most the steps that its groupby's fold allows
abbrev pub MergesWithin : LaneView → GroupPlan → Type 0
MergesWithin lane group = (f : TypedFold) → IsProgramOf f group.program → ghosts.merge_bound lane.kind ≤ merge_bound f

-- a lane's entries are made of its groupby's own program, and keep the bound on their merges
pub record IsMadeFor (lane : LaneView) (group : GroupPlan) : Type 0 where
  pub program : program_in lane.kind ≡ group.program
  pub merges : MergesWithin lane group

-- a lane for each groupby of the plan, and room for what is taken of a packet
pub record IsPipeline (ways : ℕ) (p : PipelineView) (registers key args : List ℕ) : Type 0 where
  pub few_ways : ways ≤ 65536
  pub lanes : AreLanesOf p.entries p.plan p.buckets p.lanes
  pub made : Each IsMadeFor p.lanes p.plan.groups
  pub rooms : HasRooms p.plan registers key args

-- a lane makes these events in order
pub record LaneMakes (ways : ℕ) (events : List Event) (old new : LaneView) : Type 0 where
  pub kind : new.kind ≡ old.kind
  pub made : MakesAll (ghosts.stands old.kind) (ghosts.folding old.kind) ways events (parts_of old) (parts_of new)

-- each lane makes the events of its number
abbrev pub LanesMake : ℕ → (ℕ → List Event) → List LaneView → List LaneView → Type 0
LanesMake ways events old new = EachFrom (λ n. LaneMakes ways (events n)) 0 old new

-- The events lead a pipeline from old parts to new ones: whatever machines it represented, it now represents these
-- after them. A lane that has none is unchanged.
pub record PipelineMakes (ways : ℕ) (events : ℕ → List Event) (old new : PipelineView) : Type 0 where
  pub stands : (machines : List Machine) → PipelineStands old machines
      → PipelineStands new (after_events (geometry_without_refresh ways old.buckets) events 0 machines)
  pub others : (n : ℕ) → events n ≡ [] → slice_get new.lanes n ≡ slice_get old.lanes n
  pub kinds : map (λ lane. lane.kind) new.lanes ≡ map (λ lane. lane.kind) old.lanes
  pub plan : new.plan ≡ old.plan
  pub entries : new.entries ≡ old.entries
  pub buckets : new.buckets ≡ old.buckets
  pub places : pipe_places new.lanes ≡ pipe_places old.lanes

-- the most steps that a packet takes at a lane, with the words of the key and of the arguments copied before
abbrev pub lane_cost : ℕ → LaneView → ℕ
lane_cost ways lane =
    let key_words = lane.cache.key_words in
    let sizes = ghosts.sizes lane.kind in
    (key_words + sizes.args) + (key_words + 2 * ways * (key_words + 1) + (key_words + sizes.entry)
    + ghosts.open_bound lane.kind + ghosts.absorb_bound lane.kind)

-- the most steps that a merge takes at a lane
abbrev pub lane_merge_cost : LaneView → ℕ
lane_merge_cost lane = merge_cost lane.cache.key_words lane.cache.entry_words (ghosts.merge_bound lane.kind)

-- the most steps that a sweep takes at a lane
abbrev pub lane_sweep_cost : LaneView → ℕ
lane_sweep_cost lane = sweep_cost (held_in lane.cache) (length lane.cache.lists)
    (evict_cost lane.cache.key_words lane.cache.entry_words) (lane_merge_cost lane)

-- the most steps that an upkeep takes at a lane
abbrev pub lane_upkeep_cost : Upkeep → LaneView → ℕ
lane_upkeep_cost upkeep lane = upkeep_cost upkeep lane.cache lane.pipe (ghosts.merge_bound lane.kind)

-- the events of an upkeep at a lane, where there is one
abbrev pub upkeep_at : Upkeep → Option LaneView → List Event
upkeep_at upkeep None = []
upkeep_at upkeep (Some lane) = upkeep_events upkeep lane.cache lane.pipe

-- those at the lane with this number
abbrev pub upkeeps_at : Upkeep → List LaneView → ℕ → List Event
upkeeps_at upkeep lanes n = upkeep_at upkeep (slice_get lanes n)

-- those of the lanes below one, and of that one these
abbrev pub upkeeps_until : Upkeep → List LaneView → ℕ → List Event → ℕ → List Event
upkeeps_until upkeep lanes at first n = if nat_lt n at then upkeeps_at upkeep lanes n else (if n == at then first else [])

-- Upkeeps of lanes in order broke off at one: the lanes below it made their events, it made the first of its events, and those above it
-- made none.
abbrev pub LanesBreakOff : ℕ → Upkeep → List LaneView → List LaneView → Type 0
LanesBreakOff ways upkeep old new = (at : ℕ) × (first : List Event) × AreFirst first (upkeeps_at upkeep old at)
    × LanesMake ways (upkeeps_until upkeep old at first) old new

abbrev pub UpkeepBreaksOff : ℕ → Upkeep → PipelineView → PipelineView → Type 0
UpkeepBreaksOff ways upkeep old new = (at : ℕ) × (first : List Event) × AreFirst first (upkeeps_at upkeep old.lanes at)
    × PipelineMakes ways (upkeeps_until upkeep old.lanes at first) old new

-- what holds of each lane after an upkeep
abbrev pub AreKept : Upkeep → List LaneView → Type 0
AreKept upkeep lanes = (n : ℕ) → AtLane (λ lane. IsKept upkeep lane.cache lane.pipe) lanes n

-- the most steps that a packet takes: its registers, and what each lane takes
abbrev pub pipeline_cost : ℕ → PipelineView → ℕ
pipeline_cost ways p = registers_of p.plan + sum_by (lane_cost ways) p.lanes

-- whether no lane has an open epoch or a record
abbrev pub lane_is_drained : LaneView → Bool
lane_is_drained lane = is_drained lane.cache lane.pipe

-- A pipeline as it is after a sweep: whatever machines it represented, it now represents ones that have the epochs of
-- these with all buckets emptied, and all caches are empty.
pub record PipelineIsSwept (old new : PipelineView) : Type 0 where
  pub stands : (machines : List Machine) → PipelineStands old machines → (swept : List Machine) × PipelineStands new swept
      × Each (λ m n. SameEpochs n (empty_buckets old.buckets m)) machines swept
  pub held : list_all (λ lane. held_in lane.cache == 0) new.lanes ≡ true
