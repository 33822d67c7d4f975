-- The laws of tables: that closed epochs give them, and that evictions decide nothing where a key has one row.
use Rattle.std.specs.Prelude.{◌≡◌, false, ℕ, List, [], ◌∷◌, map, length}
use Rattle.epoch_model.specs.{Keys.{Key, has, ascending, IsAscending}, Epochs.{Use, Geometry}}
use Rattle.epoch_model.specs.{Machine.{Event, Packet, Evict, Merge, run, empty_machine, lists_of, end_of}, Timeline.IsSwept}
use Rattle.epoch_model.specs.Laws.{HasRoom, IsInTrace, rows_given}
use Rattle.epoch_model.specs.Tables.{Folding, exact_row, group_rows, group_epochs, closed_rows, closed_epochs}

-- Keys in ascending order are strictly ascending, and they are the same keys.
abbrev pub KeysAscend : Type 0
KeysAscend = (keys : List Key) → IsAscending (ascending keys) × ((key : Key) → has key (ascending keys) ≡ has key keys)

-- The closed epochs at the end of the trace give the table: its rows in order, and its number of epochs.
abbrev pub ClosedGiveTheTable : Type 0
ClosedGiveTheTable = (f : Folding) (g : Geometry) (uses : List Use) (packets : ℕ) → HasRoom g → IsInTrace packets uses
    → (closed_rows f (end_of g uses packets).closed ≡ group_rows f g uses)
    × (closed_epochs (end_of g uses packets).closed ≡ group_epochs g uses)

-- the keys of the packet events
abbrev pub keys_given : List Event → List Key
keys_given [] = []
keys_given (Packet key row ∷ events) = key ∷ keys_given events
keys_given (Evict bucket ∷ events) = keys_given events
keys_given (Merge ∷ events) = keys_given events

-- After any events that leave no epoch open, wherever evictions and merges fall: with one table row for a key, each key
-- of the packets has the row whose state is the fold over all argument rows of its packets. Only the number of epochs
-- beside it depends on the closed epochs.
abbrev pub ExactRowsFoldAllPackets : Type 0
ExactRowsFoldAllPackets = (f : Folding) (g : Geometry) (events : List Event) → HasRoom g → f.row_per_epoch ≡ false
    → IsSwept (run g events (empty_machine g))
    → closed_rows f (run g events (empty_machine g)).closed
    ≡ map (λ key. exact_row f key (length (lists_of key (run g events (empty_machine g)).closed)) (rows_given key events))
    (ascending (keys_given events))
