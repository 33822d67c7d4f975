-- The groupbys of a plan over several switches.
use Rattle.std.specs.{Prelude.{◌≡◌, ℕ, Bool, List, [], ◌∷◌, length, slice_get, take, Some}, List.list_all}
use Rattle.fold_class.specs.{declared.program.FoldProgram.FoldProgram, Program.IsProgramOf}
use Rattle.query_lang.specs.declared.fold.TypedFold.{TypedFold}
use Rattle.epoch_model.specs.{Machine.Epoch, Tables.Folding}
use Rattle.epoch_entry.specs.{declared.any.AnyEpochs.AnyEpochs, contracts.any.AnyEpochsEpochKind.TheImpl.ghosts}
use Rattle.epoch_entry.specs.Foldings.{IsKindOf, per_epoch}
use Rattle.backing_store.specs.{Store.Store, Merged.StoreHolds}
use Rattle.final_queries.specs.{declared.table.Table.Table, GroupTable.closed_table}
use Rattle.stage_plan.specs.{declared.group.{GroupPlan.GroupPlan, GroupWiring.GroupWiring}, Planned.wiring_at, Sound.PlanParts}
use Rattle.switch_core.specs.{FrontParts.FrontOf, Closing.is_drained, Pipelines.heading_of, Rows.{Each, EachFrom}}
use Rattle.additive_laws.specs.Network.{SwitchEvent, SwitchEpoch}
use Rattle.network.specs.Shared.{AllShare, FrontKept, SharedStand, StoreKept}

-- a groupby: the kind of its entries, the fronts of switches 0, 1 and so on, and the store that they share
pub record GroupView : Type 0 where
  pub kind : AnyEpochs
  pub fronts : List (FrontOf AnyEpochs)
  pub store : Store

-- what its entries are folded to
abbrev pub folding_in : GroupView → Folding
folding_in group = ghosts.folding group.kind

-- all its fronts, for rows of this number of arguments, can share its store
abbrev pub GroupShares : ℕ → GroupView → Type 0
GroupShares args group = AllShare ghosts.sizes ghosts.folding (folding_in group) args group.fronts group.store

-- entries of this kind are those of the program's fold
abbrev pub IsKindOfProgram : FoldProgram → AnyEpochs → Type 0
IsKindOfProgram program kind = (f : TypedFold) → IsProgramOf f program
    → IsKindOf f (ghosts.sizes kind) (ghosts.folding kind) (ghosts.open_bound kind) (ghosts.absorb_bound kind)

-- It is that of the plan's groupby, with fronts for this number of switches.
pub record IsGroup (switches : ℕ) (part : GroupPlan) (wiring : GroupWiring) (group : GroupView) : Type 0 where
  pub keys : group.store.key_words ≡ length part.key_names
  pub states : group.store.state_words ≡ (ghosts.sizes group.kind).state
  pub class : (folding_in group).row_per_epoch ≡ per_epoch part.program.class
  pub kind : IsKindOfProgram part.program group.kind
  pub kinds : (s : ℕ) (front : FrontOf AnyEpochs) → slice_get group.fronts s ≡ Some front → IsKindOfProgram part.program front.kind
  pub count : length group.fronts ≡ switches
  pub shares : GroupShares (length wiring.args) group

-- one for each groupby of the plan, in order
abbrev pub AreGroups : PlanParts → ℕ → List GroupView → Type 0
AreGroups plan switches groups = EachFrom (λ n group part. IsGroup switches part (wiring_at plan n) group) 0 groups plan.groups

-- the groupby's fronts and store represent these events and merged epochs
abbrev pub GroupStands : ℕ → ℕ → GroupView → List SwitchEvent → List SwitchEpoch → Type 0
GroupStands ways buckets group events merged =
    SharedStand ghosts.stands (folding_in group) ways buckets group.fronts group.store events merged

-- a groupby's kinds and sizes are unchanged, and so is its number of fronts
pub record GroupKept (old new : GroupView) : Type 0 where
  pub kind : new.kind ≡ old.kind
  pub fronts : Each FrontKept old.fronts new.fronts
  pub store : StoreKept old.store new.store

-- each of its caches has this number of buckets
abbrev pub AreWide : ℕ → GroupView → Type 0
AreWide buckets group =
    (s : ℕ) (front : FrontOf AnyEpochs) → slice_get group.fronts s ≡ Some front → length front.cache.lists ≡ buckets

-- each cache of each groupby has this number of buckets
abbrev pub AllWide : ℕ → List GroupView → Type 0
AllWide buckets groups = (n : ℕ) (group : GroupView) → slice_get groups n ≡ Some group → AreWide buckets group

-- each of its pipes has this number of places
abbrev pub HavePlaces : ℕ → GroupView → Type 0
HavePlaces places group =
    (s : ℕ) (front : FrontOf AnyEpochs) → slice_get group.fronts s ≡ Some front → front.pipe.places ≡ places

-- each pipe of each groupby has this number of places
abbrev pub AllHavePlaces : ℕ → List GroupView → Type 0
AllHavePlaces places groups = (n : ℕ) (group : GroupView) → slice_get groups n ≡ Some group → HavePlaces places group

-- the groupby with the fronts of this number of its first switches
abbrev pub with_first : ℕ → GroupView → GroupView
with_first switches group = record group { fronts = take switches group.fronts }

-- A groupby has one front more, for the next switch, which had no event; without that front it is the old one.
pub record GroupGrows (ways buckets places : ℕ) (old new : GroupView) : Type 0 where
  pub kind : new.kind ≡ old.kind
  pub wide : AreWide buckets old → AreWide buckets new
  pub pipes : HavePlaces places old → HavePlaces places new
  pub others : with_first (length old.fronts) new ≡ old
  pub stands : (events : List SwitchEvent) (merged : List SwitchEpoch) → GroupStands ways buckets old events merged
      → GroupStands ways buckets new events merged

-- all its caches and pipes are empty
abbrev pub group_is_drained : GroupView → Bool
group_is_drained group = list_all (λ front. is_drained front.cache front.pipe) group.fronts

-- the tables of these epochs, each by its groupby
abbrev pub shared_tables : List GroupPlan → List GroupView → List (List Epoch) → List Table
shared_tables (part ∷ parts) (group ∷ groups) (epochs ∷ more) =
    closed_table (heading_of part) (folding_in group) epochs ∷ shared_tables parts groups more
shared_tables _ _ _ = []

-- the stores hold these epochs
abbrev pub StoresHold : List GroupView → List (List Epoch) → Type 0
StoresHold groups epochs = Each (λ group. StoreHolds (folding_in group) group.store) groups epochs
