-- A plan over several switches, as contracts see it.
use Rattle.std.specs.Prelude.{◌≡◌, ℕ, ◌+◌, ◌*◌, ◌≤◌, List, sum_by}
use Rattle.stage_plan.specs.{Planned.registers_of, Sound.PlanParts}
use Rattle.switch_core.specs.{FrontParts.AreSizes, Rows.Each, declared.upkeep.Upkeep.Upkeep}
use Rattle.switch_core.specs.declared.upkeep.Upkeep.TheVariants as due
use Rattle.network.specs.{Groups.{GroupGrows, GroupView, AreGroups, AllHavePlaces, AllWide}, Costs.{group_cost, group_upkeep_cost}}

-- the plan, the number of buckets of a cache and of records of a pipe, the number of switches, and the groupbys in order
pub record NetworkView : Type 0 where
  pub plan : PlanParts
  pub buckets : ℕ
  pub pipe_records : ℕ
  pub switches : ℕ
  pub groups : List GroupView

-- It has at most 64 switches, with fronts for each at every groupby; each cache has its number of buckets, and each pipe its number
-- of records as places.
pub record IsNetwork (ways : ℕ) (net : NetworkView) : Type 0 where
  pub few : net.switches ≤ 64
  pub groups : AreGroups net.plan net.switches net.groups
  pub wide : AllWide net.buckets net.groups
  pub pipes : AllHavePlaces net.pipe_records net.groups
  pub sizes : AreSizes ways net.buckets net.pipe_records

-- the plan, the number of buckets and the number of records of a pipe are unchanged
pub record KeepsNetwork (old new : NetworkView) : Type 0 where
  pub plan : new.plan ≡ old.plan
  pub buckets : new.buckets ≡ old.buckets
  pub pipe_records : new.pipe_records ≡ old.pipe_records

-- A network has one switch more, which had no event.
pub record NetworkGrows (ways : ℕ) (old new : NetworkView) : Type 0 where
  pub groups : Each (GroupGrows ways old.buckets old.pipe_records) old.groups new.groups
  pub switches : new.switches ≡ old.switches + 1
  pub keeps : KeepsNetwork old new

-- the most steps that a packet of this switch takes: its registers, and what the switch's front takes at each groupby
abbrev pub network_cost : ℕ → ℕ → NetworkView → ℕ
network_cost ways at net = registers_of net.plan + sum_by (group_cost ways at) net.groups

-- the most steps that an upkeep of this switch takes, groupby by groupby
abbrev pub upkeeps_cost : Upkeep → ℕ → NetworkView → ℕ
upkeeps_cost upkeep at net = sum_by (group_upkeep_cost upkeep at) net.groups

-- the most steps that a packet of this switch takes with the merges around it: one at each groupby before it, and one after it
abbrev pub turn_cost : ℕ → ℕ → NetworkView → ℕ
turn_cost ways at net = network_cost ways at net + 2 * upkeeps_cost due.Lag at net
