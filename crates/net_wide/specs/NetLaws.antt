-- That the order of packets of different switches makes no difference.
use Rattle.std.specs.Prelude.{◌≡◌, ◌≢◌, ◌==◌, ℕ, ◌-◌, ◌<◌, true, false, None, List, [], ◌∷◌, length, map, filter, slice_index}
use Rattle.std.specs.Prelude.{slice_index_or, All}
use Rattle.marple_base.specs.declared.field.TheConstants.{FIELDS}
use Rattle.query_lang.specs.declared.typed.{TypedOp.{TypedOp, TheVariants.{Filter, Map, Zip, Group}}, TypedQuery.TypedQuery}
use Rattle.query_lang.specs.{Words.AreWords, Streams.stream, TypedQueries.IsValidQuery}
use Rattle.epoch_model.specs.{Keys.Key, Epochs.{Use, Geometry}, Driving.Taken, Laws.{HasRoom, rows_given}}
use Rattle.epoch_model.specs.Tables.{Folding, closed_key_rows}
use Rattle.stage_plan.specs.Uses.{uses}
use Rattle.additive_laws.specs.Network.{SwitchEvent, SwitchEpoch, events_at, all_epochs, machine_at, AllMerged}
use Rattle.stage_plan.specs.Packets.{AreWhole}
use Rattle.net_wide.specs.{Combining.{is_switch, makes_switch, net_fault}, NetTables.{switch_in, packets_at, uses_at, net_text}}

-- both lists have the same packets of each switch, in the same order
abbrev pub SameOfEachSwitch : List (List ℕ) → List (List ℕ) → Type 0
SameOfEachSwitch packets other = (switch : ℕ) → packets_at switch packets ≡ packets_at switch other

-- this slot of the stream is the packet's switch, whatever the packet
abbrev pub IsSwitchSlot : TypedQuery → ℕ → ℕ → Type 0
IsSwitchSlot q input slot = (words : List ℕ) → length words ≡ FIELDS
    → All (λ t. slice_index t.row slot ≡ switch_in words) (stream q input (words ∷ []))

-- each key of a groupby that is named `switch` is the packet's switch, unless some `map` makes a column of that name
abbrev pub SwitchKeysAreSwitches : TypedQuery → List ℕ → TypedOp → Type 0
SwitchKeysAreSwitches q columns (Filter input condition) = Unit {0}
SwitchKeysAreSwitches q columns (Map input values) = Unit {0}
SwitchKeysAreSwitches q columns (Zip left right slots) = Unit {0}
SwitchKeysAreSwitches q columns (Group input keys f args) =
    (j : ℕ) → j < length keys → is_switch q.names (slice_index columns j) ≡ true → makes_switch q.names q.streams ≡ false
    → IsSwitchSlot q input (slice_index keys j)

-- A query whose names say what its columns are, as names in a text do: the keys named `switch` are switches, and the state
-- variables start as words.
pub record TellsSwitches (q : TypedQuery) : Type 0 where
  pub keys : All (λ one. SwitchKeysAreSwitches q one.columns one.op) q.streams
  pub words : All (λ f. AreWords f.initial) q.folds

-- Where every groupby combines, two lists that have the same packets of each switch are printed as the same text.
abbrev pub SwitchesDoNotWait : Type 0
SwitchesDoNotWait = (q : TypedQuery) (buckets ways : ℕ) (packets other : List (List ℕ))
    → IsValidQuery q → net_fault q ≡ None → TellsSwitches q
    → AreWhole packets → AreWhole other → SameOfEachSwitch packets other
    → net_text q buckets ways packets ≡ net_text q buckets ways other

-- A key whose packets are all of one switch has the table rows of that switch's machine, for any way of folding, whatever the
-- order in which one store merges the epochs of all switches.
abbrev pub KeysOfOneSwitch : Type 0
KeysOfOneSwitch = (f : Folding) (g : Geometry) (events : List SwitchEvent) (merged : List SwitchEpoch) (key : Key) (switch : ℕ)
    → HasRoom g
    → AllMerged g events merged → ((other : ℕ) → other ≢ switch → rows_given key (events_at other events) ≡ [])
    → closed_key_rows f (all_epochs merged) key ≡ closed_key_rows f (machine_at g switch events).closed key

-- the switch of the packet with this number, counted from 1
abbrev pub switch_of : List (List ℕ) → ℕ → ℕ
switch_of packets number = switch_in (slice_index_or packets (number - 1) [])

-- a use without the packet's number
abbrev pub taken_in : Use → Taken
taken_in u = record { key = u.key; row = u.row }

-- What a groupby takes of one switch's packets alone is what it takes of all packets, where the packet is of that switch. Only the
-- numbers of packets differ, which make no difference without a refresh.
abbrev pub UsesAreTheSwitchs : Type 0
UsesAreTheSwitchs = (q : TypedQuery) (i : ℕ) (packets : List (List ℕ)) (switch : ℕ) → AreWhole packets
    → map taken_in (uses_at q i packets switch) ≡ map taken_in (filter (λ u. switch_of packets u.packet == switch) (uses q i packets))
