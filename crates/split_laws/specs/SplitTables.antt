-- The tables of traces that are split for a query.
use Rattle.std.specs.{Prelude.{◌≡◌, ℕ, ◌<◌, true, false, List, length, map, All, Ok}, List.range_with_len}
use Rattle.epoch_model.specs.{Epochs.Geometry, Tables.{Folding, group_rows}}
use Rattle.accepted_query.specs.Accepted.{accepted}
use Rattle.marple_base.specs.declared.field.{Field.Field, Packet.Packet}
use Rattle.query_lang.specs.declared.typed.TypedQuery.{TypedQuery}
use Rattle.stage_plan.specs.Uses.{uses}
use Rattle.stage_plan.specs.Packets.{AreWhole}
use Rattle.trace_drive.specs.Drives.{words_of}
use Rattle.part_laws.specs.{FinalParts.AreOfParts, PartLaws.but_for_epochs, Parts.{KeepsKeys, groupbys}}
use Rattle.part_texts.specs.Texts.{packets_of_part, part_by_hash}
use Rattle.split_fields.specs.Splits.{may_split}

-- Of each accepted text, split by fields that may decide the part, with any salt, into any number of parts: where each key of a
-- groupby has one row, the table of all packets has the rows of the parts' tables in the order of their keys, whatever the caches of
-- each run, but for numbers of epochs; and these rows are in the parts of their keys, as laws of finals want it.
abbrev pub SplitTablesAreInOrder : Type 0
SplitTablesAreInOrder = (text : List ℕ) (q : TypedQuery) (i : ℕ) (fields : List Field) (salt parts : ℕ) (packets : List Packet)
    → accepted text ≡ Ok q → i < length (groupbys q) → All (λ field. may_split q field ≡ true) fields → 0 < parts
    → AreWhole (words_of packets)
    → (kept : KeepsKeys (part_by_hash fields salt parts) q i) × ((f : Folding) (g : Geometry) (caches : ℕ → Geometry)
    → f.row_per_epoch ≡ false
    → AreOfParts kept.part_of (range_with_len 0 parts) (map but_for_epochs (group_rows f g (uses q i (words_of packets))))
    (λ n. map but_for_epochs (group_rows f (caches n) (uses q i (words_of (packets_of_part (part_by_hash fields salt parts) n packets))))))
