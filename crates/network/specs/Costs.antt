-- How many steps the events of a switch take at the groupbys of a network.
use Rattle.std.specs.Prelude.{ℕ, List, slice_get, Option, Some, None}
use Rattle.epoch_entry.specs.{declared.any.AnyEpochs.AnyEpochs, contracts.any.AnyEpochsEpochKind.TheImpl.ghosts}
use Rattle.switch_core.specs.{FrontParts.FrontOf, PlanLanes.{LaneView, lane_cost}, Upkeeps.upkeep_cost, declared.upkeep.Upkeep.Upkeep}
use Rattle.switch_core.specs.declared.upkeep.Upkeep.TheVariants as due
use Rattle.network.specs.{Groups.GroupView, Shared.AtSwitch, Events.AtGroup}

-- a front of a groupby is a lane, with the store that all its fronts share
abbrev pub lane_in : GroupView → FrontOf AnyEpochs → LaneView
lane_in group front = record { kind = front.kind; cache = front.cache; pipe = front.pipe; store = group.store }

-- this holds of the lane of this switch at a groupby
abbrev pub AtLaneIn : (LaneView → Type 0) → GroupView → ℕ → Type 0
AtLaneIn P group at = AtSwitch (λ front. P (lane_in group front)) group.fronts at

-- this holds of the lane of this switch at the groupby with this number
abbrev pub AtSwitchLane : (LaneView → Type 0) → List GroupView → ℕ → ℕ → Type 0
AtSwitchLane P groups at number = AtGroup (λ group. AtLaneIn P group at) groups number

-- the most steps that a packet takes at a front of the groupby, if there is one
abbrev pub front_cost : ℕ → GroupView → Option (FrontOf AnyEpochs) → ℕ
front_cost ways group None = 0
front_cost ways group (Some front) = lane_cost ways (lane_in group front)

-- the most steps that a packet of this switch takes at a groupby
abbrev pub group_cost : ℕ → ℕ → GroupView → ℕ
group_cost ways at group = front_cost ways group (slice_get group.fronts at)

-- the most steps that an upkeep takes at a front, if there is one
abbrev pub front_upkeep_cost : Upkeep → Option (FrontOf AnyEpochs) → ℕ
front_upkeep_cost upkeep None = 0
front_upkeep_cost upkeep (Some front) = upkeep_cost upkeep front.cache front.pipe (ghosts.merge_bound front.kind)

-- the most steps that an upkeep of this switch takes at a groupby
abbrev pub group_upkeep_cost : Upkeep → ℕ → GroupView → ℕ
group_upkeep_cost upkeep at group = front_upkeep_cost upkeep (slice_get group.fronts at)

-- the most steps that a merge of this switch takes at a groupby
abbrev pub group_merge_cost : ℕ → GroupView → ℕ
group_merge_cost at group = group_upkeep_cost due.Lag at group
