-- What is shown of a pipeline for bounds after any events, in whatever order packets, evictions and merges came.
use Rattle.std.specs.Prelude.{◌≡◌, ℕ, true, List, map, slice_get, Some}
use Rattle.query_lang.specs.{declared.fold.TypedFold.TypedFold, Folds.initial_state, Words.AreWords}
use Rattle.epoch_model.specs.{Epochs.Geometry, Machine.{Event, Machine}}
use Rattle.epoch_entry.specs.contracts.any.AnyEpochsEpochKind.TheImpl.{ghosts}
use Rattle.fold_class.specs.{Kinds.class_of, Program.IsProgramOf}
use Rattle.backing_store.specs.Store.{IsStore}
use Rattle.stage_plan.specs.{declared.group.GroupPlan.GroupPlan, Sound.PlanParts}
use Rattle.switch_core.specs.{Pipelines.{after_events, empty_machines, tables_of}, PlanLanes.{LaneView, PipelineView, folding_at}}
use Rattle.enclosure_folds.specs.{declared.table.Enclosed.Enclosed, Check.is_bounded, Holding.{HoldsAfter, TakesWords}, Shown.shown}

-- What is shown of a pipeline that represents these machines: the tables of their closed epochs, groupby by groupby.
abbrev pub shown_tables : PipelineView → List Machine → List Enclosed
shown_tables p machines = map shown (tables_of p.plan.groups (map folding_at p.lanes) machines)

-- the machines of a plan's groupbys, after the events of each
abbrev pub machines_after : PlanParts → Geometry → (ℕ → List Event) → List Machine
machines_after plan g events = after_events g events 0 (empty_machines g plan.groups)

-- the groupby has this fold, which is linear or monotone and starts from words
pub record IsBoundedGroup (f : TypedFold) (group : GroupPlan) : Type 0 where
  pub program : IsProgramOf f group.program
  pub bounded : is_bounded (class_of f) f ≡ true
  pub words : AreWords (initial_state f)

-- What is shown of each groupby whose fold is linear or monotone holds over all rows that its events gave: there is a row for each
-- key, values of a linear fold are the fold over all rows of their key, and bounds enclose it and are it where they are marked exact.
abbrev pub ShownHoldsAfter : PlanParts → (ℕ → List Event) → List Enclosed → Type 0
ShownHoldsAfter plan events tables = (i : ℕ) (group : GroupPlan) (f : TypedFold) (t : Enclosed) → slice_get plan.groups i ≡ Some group
    → IsBoundedGroup f group → TakesWords (events i) → slice_get tables i ≡ Some t → HoldsAfter f (events i) t

-- the keys and the rows of a lane's store have the words of its cache's keys and of its entries' states
pub record HasStoredRows (lane : LaneView) : Type 0 where
  pub store : IsStore lane.store
  pub words : lane.store.key_words ≡ lane.cache.key_words
  pub state : lane.store.state_words ≡ (ghosts.sizes lane.kind).state

abbrev pub HaveStoredRows : List LaneView → Type 0
HaveStoredRows lanes = (n : ℕ) (lane : LaneView) → slice_get lanes n ≡ Some lane → HasStoredRows lane
