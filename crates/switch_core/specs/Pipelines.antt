-- Lanes side by side, one for each groupby of a plan.
use Rattle.std.specs.Prelude.{◌≡◌, ℕ, suc, ◌==◌, Bool, List, [], ◌∷◌, ◌++◌, length, map, sum_by, if◌then◌else◌}
use Rattle.fold_class.specs.Program.{IsProgramOf}
use Rattle.query_lang.specs.declared.{fold.TypedFold.TypedFold, fault.TheConstants.{MAX_ARGS, MAX_KEYS}}
use Rattle.epoch_model.specs.{Epochs.Geometry, Machine.{Machine, Event, run, empty_machine}, Tables.{Folding, epochs_shown}}
use Rattle.epoch_model.specs.declared.tables.Row.{Row}
use Rattle.epoch_model.specs.Driving.{event_of}
use Rattle.epoch_entry.specs.{declared.purpose.Entries.Entries, Foldings.per_epoch, Kinds.Sizes, Purposes.IsKindFor}
use Rattle.bucket_cache.specs.Caches.{Cache}
use Rattle.backing_store.specs.{Merged.{epochs_in, shown_row}, SortedRows.sorted_rows, Store.Store}
use Rattle.final_queries.specs.{declared.table.{Table.Table, TableKind.TheVariants.Group}, GroupTable.{Heading, closed_table}}
use Rattle.stage_plan.specs.{declared.group.{GroupPlan.GroupPlan, GroupWiring.GroupWiring}, Planned.{registers_of, taken}, Sound.PlanParts}

-- what a lane has of its groupby: as many buckets as all lanes, the words of the groupby's keys and arguments, and the kind of its program
-- for what the entries are for
pub record IsLaneOf (entries : Entries) (buckets : ℕ) (cache : Cache) (sizes : Sizes) (folding : Folding)
    (opening absorbing : ℕ) (group : GroupPlan) (wiring : GroupWiring) : Type 0 where
  pub many : length cache.lists ≡ buckets
  pub keys : cache.key_words ≡ length group.key_names
  pub args : sizes.args ≡ length wiring.args
  pub class : folding.row_per_epoch ≡ per_epoch group.program.class
  pub kind : (f : TypedFold) → IsProgramOf f group.program → IsKindFor entries f sizes folding opening absorbing

-- room for the registers of the plan, for a key and for a row of arguments
pub record HasRooms (plan : PlanParts) (registers key args : List ℕ) : Type 0 where
  pub for_row : length registers ≡ registers_of plan
  pub for_key : length key ≡ MAX_KEYS
  pub for_args : length args ≡ MAX_ARGS

-- the geometry of caches with these numbers of ways and buckets
abbrev pub geometry_without_refresh : ℕ → ℕ → Geometry
geometry_without_refresh ways buckets = record { buckets = buckets; ways = ways; refresh = 0 }

-- one machine for each of the groupbys, without an epoch
abbrev pub empty_machines : Geometry → List GroupPlan → List Machine
empty_machines g [] = []
empty_machines g (group ∷ groups) = empty_machine g ∷ empty_machines g groups

-- the machines after events, where each machine has those of its number
abbrev pub after_events : Geometry → (ℕ → List Event) → ℕ → List Machine → List Machine
after_events g events n [] = []
after_events g events n (m ∷ ms) = run g (events n) m ∷ after_events g events (suc n) ms

-- the events of a packet with these words: each groupby has that of what it takes
abbrev pub packet_events : PlanParts → List ℕ → ℕ → List Event
packet_events plan words n = event_of (taken plan n words)

-- one lane alone has an event
abbrev pub event_at : ℕ → Event → ℕ → List Event
event_at lane event n = if n == lane then event ∷ [] else []

-- what the table of a groupby has besides its rows
abbrev pub heading_of : GroupPlan → Heading
heading_of group = record {
  name = group.name;
  key_names = group.key_names;
  state_names = group.state_names;
  class = group.program.class;
  depth = group.program.depth;
}

-- the tables of the machines' closed epochs, folded by the foldings of their lanes
abbrev pub tables_of : List GroupPlan → List Folding → List Machine → List Table
tables_of (group ∷ groups) (f ∷ foldings) (m ∷ machines) = closed_table (heading_of group) f m.closed
    ∷ tables_of groups foldings machines
tables_of _ _ _ = []

-- the table of these rows, which are for so many epochs
abbrev pub shown_table : Heading → List Row → ℕ → Table
shown_table heading rows epochs = record {
  name = heading.name;
  columns = heading.key_names ++ heading.state_names;
  keys = length heading.key_names;
  kind = Group heading.class heading.depth epochs;
  rows = rows;
}

-- the table of a store's rows, whatever they are folded from: a row for each of them, by ascending key
abbrev pub stored_table : Heading → Bool → Store → Table
stored_table heading row_per_epoch store = shown_table heading (map (shown_row row_per_epoch) (sorted_rows store))
    (epochs_shown (sum_by (epochs_in row_per_epoch) (sorted_rows store)))
