-- What a store that merged all epochs of several switches gives is the table of the definition.
use Rattle.std.specs.{Prelude.{◌≡◌, ◌<◌, ℕ, true, None, Some, Option, List, length, map, flat_map, All, ◌==◌}, List.list_any}
use Rattle.query_lang.specs.{declared.{fold.TypedFold.TypedFold, typed.TypedQuery.TypedQuery}, TypedQueries.{IsValidQuery, group_shape}}
use Rattle.query_lang.specs.Streams.{takings}
use Rattle.epoch_model.specs.{Keys.{ArgRow, Key}, Machine.lists_of, Driving.Taken, Laws.HasRoom, Epochs.Geometry}
use Rattle.epoch_entry.specs.Foldings.{folding_of}
use Rattle.stage_plan.specs.{Packets.AreWhole, Planned.{IsPlanOf, fold_at, taken}, Shape.GroupShape, Sound.{PlanParts, IsSoundPlan}}
use Rattle.final_queries.specs.{Finals.{IsTable, table_shape}, GroupTable.closed_table}
use Rattle.query_tables.specs.Tables.{heading_of_shape}
use Rattle.additive_laws.specs.{Network.{SwitchEvent, SwitchEpoch, all_epochs, machine_at, AllMerged}, Traces.{Step, HasPackets, IsRun}}
use Rattle.net_wide.specs.{Combining.net_fault, NetTables.{switch_in, switches, caches_of, net_epochs, net_table, net_tables}}
use Rattle.net_wide.specs.NetLaws.{TellsSwitches}

-- a packet of this switch is among these
abbrev pub IsSeen : ℕ → List (List ℕ) → Type 0
IsSeen switch packets = list_any (λ words. switch_in words == switch) packets ≡ true

-- different switches of these packets have different numbers
abbrev pub AreSwitchesNumbered : (ℕ → ℕ) → List (List ℕ) → Type 0
AreSwitchesNumbered number packets = (a b : ℕ) → IsSeen a packets → IsSeen b packets → number a ≡ number b → a ≡ b

-- the packets by the numbers of their switches, with what is taken of each
abbrev pub net_steps : (ℕ → ℕ) → (List ℕ → Option Taken) → List (List ℕ) → List Step
net_steps number taken packets = map (λ words. record { switch = number (switch_in words); taken = taken words }) packets

-- The row lists of a key that the machines of all switches closed: switch by switch, in ascending order.
abbrev pub closed_pieces : (ℕ → ℕ) → Geometry → List SwitchEvent → List (List ℕ) → Key → List (List ArgRow)
closed_pieces number g events packets key =
    flat_map (λ switch. lists_of key (machine_at g (number switch) events).closed) (switches packets)

-- In a query whose groupbys all combine, the merged epochs of all switches give the groupby's table, with the pieces of each key that
-- the machines closed, wherever evictions and merges came and whatever the order of the merges.
abbrev pub MergedMakeTheTable : Type 0
MergedMakeTheTable = (q : TypedQuery) (plan : PlanParts) (buckets ways : ℕ) (packets : List (List ℕ)) (number : ℕ → ℕ)
    → IsValidQuery q → net_fault q ≡ None → TellsSwitches q → IsPlanOf q plan → HasRoom (caches_of buckets ways)
    → AreWhole packets → AreSwitchesNumbered number packets
    → (i : ℕ) (shape : GroupShape) (f : TypedFold) (events : List SwitchEvent) (merged : List SwitchEpoch)
    → i < length plan.groups → fold_at q i ≡ Some f
    → HasPackets (net_steps number (taken plan i) packets) events → AllMerged (caches_of buckets ways) events merged
    → closed_table (heading_of_shape shape) (folding_of f) (all_epochs merged)
    ≡ net_table q packets (closed_pieces number (caches_of buckets ways) events packets) i shape f

-- Where no eviction comes before the end of a trace, those pieces are the epochs of the definition.
abbrev pub PiecesAreTheEpochs : Type 0
PiecesAreTheEpochs = (q : TypedQuery) (plan : PlanParts) (buckets ways : ℕ) (packets : List (List ℕ)) (number : ℕ → ℕ)
    → IsPlanOf q plan → HasRoom (caches_of buckets ways) → AreWhole packets → AreSwitchesNumbered number packets
    → (i : ℕ) (events : List SwitchEvent) (merged : List SwitchEpoch) (key : Key) → i < length plan.groups
    → IsRun (net_steps number (taken plan i) packets) events → AllMerged (caches_of buckets ways) events merged
    → closed_pieces number (caches_of buckets ways) events packets key ≡ net_epochs q i (caches_of buckets ways) packets key

-- Finals can read the tables of the definition, which have the shapes of what the groupbys take.
abbrev pub NetTablesAreRead : Type 0
NetTablesAreRead = (q : TypedQuery) (plan : PlanParts) (g : Geometry) (packets : List (List ℕ)) → IsValidQuery q
    → IsPlanOf q plan → IsSoundPlan plan → AreWhole packets
    → All IsTable (net_tables q g packets) × (map table_shape (net_tables q g packets) ≡ map (group_shape q.folds) (takings q.streams))
