-- Which epochs the machines of several switches close of a trace, and what the store that merges them has of a key.
use Rattle.std.specs.{Prelude.{◌≡◌, ◌≢◌, ◌==◌, ℕ, Bool, false, List, [], ◌∷◌, length, map, filter, flat_map}, List.list_any}
use Rattle.epoch_model.specs.{Keys.{Key, ArgRow, ascending}, Epochs.{Use, is_use_of, epochs}, Machine.lists_of, Laws.{HasRoom, rows_given}}
use Rattle.epoch_model.specs.{Tables.closed_keys, TableLaws.keys_given}
use Rattle.additive_laws.specs.Network.{SwitchEvent, SwitchEpoch, all_events, all_epochs, epochs_at, events_at, AllMerged}
use Rattle.additive_laws.specs.Traces.{Step, HasPackets, IsRun, own_uses, whole_uses, unrefreshed}

-- the rows that these uses give the key
abbrev pub rows_used : Key → List Use → List ArgRow
rows_used key uses = map (λ u. u.row) (filter (is_use_of key) uses)

-- The epochs that are merged of a switch are those of the definition, over the uses of that switch's packets alone.
abbrev pub OwnEpochs : Type 0
OwnEpochs = (buckets ways : ℕ) (steps : List Step) (events : List SwitchEvent) (merged : List SwitchEpoch) (key : Key) (switch : ℕ)
    → HasRoom (unrefreshed buckets ways) → IsRun steps events → AllMerged (unrefreshed buckets ways) events merged
    → lists_of key (epochs_at switch merged) ≡ epochs (unrefreshed buckets ways) (own_uses switch steps) key

-- The events give each key the rows of all its uses, in the order of the trace; and each switch's events those of its packets.
pub record GivenAreUsed (steps : List Step) (events : List SwitchEvent) : Type 0 where
  pub rows : (key : Key) → rows_given key (all_events events) ≡ rows_used key (whole_uses steps)
  pub keys : keys_given (all_events events) ≡ map (λ u. u.key) (whole_uses steps)
  pub own : (switch : ℕ) (key : Key) → rows_given key (events_at switch events) ≡ rows_used key (own_uses switch steps)

abbrev pub RunsGiveTheTrace : Type 0
RunsGiveTheTrace = (steps : List Step) (events : List SwitchEvent) → HasPackets steps events → GivenAreUsed steps events

-- The events of a run have the packets of its steps.
abbrev pub RunsHavePackets : Type 0
RunsHavePackets = (steps : List Step) (events : List SwitchEvent) → IsRun steps events → HasPackets steps events

-- The merged epochs have the keys of all uses.
abbrev pub MergedKeysAreUsed : Type 0
MergedKeysAreUsed = (buckets ways : ℕ) (steps : List Step) (events : List SwitchEvent) (merged : List SwitchEpoch)
    → HasRoom (unrefreshed buckets ways) → HasPackets steps events → AllMerged (unrefreshed buckets ways) events merged
    → closed_keys (all_epochs merged) ≡ ascending (map (λ u. u.key) (whole_uses steps))

-- the list has the number
abbrev pub has_number : ℕ → List ℕ → Bool
has_number number numbers = list_any (λ other. other == number) numbers

-- each number once
abbrev pub AreApart : List ℕ → Type 0
AreApart [] = Unit {0}
AreApart (number ∷ numbers) = (has_number number numbers ≡ false) × AreApart numbers

-- these are all switches that have an epoch of the key, each once
pub record AreSwitchesOf (key : Key) (merged : List SwitchEpoch) (switches : List ℕ) : Type 0 where
  pub apart : AreApart switches
  pub others : (switch : ℕ) → has_number switch switches ≡ false → lists_of key (epochs_at switch merged) ≡ []

-- The key has as many epochs in the store as all switches have of it.
abbrev pub EpochsAddUp : Type 0
EpochsAddUp = (key : Key) (merged : List SwitchEpoch) (switches : List ℕ) → AreSwitchesOf key merged switches
    → length (lists_of key (all_epochs merged)) ≡ length (flat_map (λ switch. lists_of key (epochs_at switch merged)) switches)

-- Where one switch alone has epochs of the key, the store has just these, in their order.
abbrev pub EpochsOfOneSwitch : Type 0
EpochsOfOneSwitch = (key : Key) (merged : List SwitchEpoch) (switches : List ℕ) (one : ℕ) → AreSwitchesOf key merged switches
    → ((switch : ℕ) → switch ≢ one → lists_of key (epochs_at switch merged) ≡ [])
    → lists_of key (all_epochs merged) ≡ flat_map (λ switch. lists_of key (epochs_at switch merged)) switches
