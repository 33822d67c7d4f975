-- Runs over the texts of parts give what a run over the whole gives.
use Rattle.std.specs.Prelude.{◌≡◌, ◌≤◌, ◌<◌, ℕ, true, false, List, [], ◌∷◌, length, map, flat_map, fold, slice_get, All, Ok, Some}
use Rattle.std.specs.Prelude.{option_map}
use Rattle.accepted_query.specs.Accepted.{accepted}
use Rattle.additive_laws.specs.{Amounts.{plus, zeros}, TraceLaws.rows_used}
use Rattle.epoch_entry.specs.Foldings.{folding_of}
use Rattle.epoch_model.specs.{Epochs.{Geometry, Use, epochs}, Keys.{Key, ascending}, Tables.{group_rows, key_rows, keys_used}}
use Rattle.final_queries.specs.declared.table.Table.{Table}
use Rattle.fold_class.specs.Kinds.{class_of}
use Rattle.fold_code.specs.Additive.{is_additive}
use Rattle.marple_base.specs.declared.field.{Field.Field, Packet.Packet}
use Rattle.part_laws.specs.PartLaws.{but_for_epochs, row_of_state, valid_row}
use Rattle.part_texts.specs.Texts.{packets_of_part, part_by_hash, part_text}
use Rattle.query_lang.specs.{declared.{fold.TypedFold.TypedFold, typed.{Class.TheVariants.Other, TypedQuery.TypedQuery}}, Folds.folded}
use Rattle.query_tables.specs.Tables.{query_tables}
use Rattle.stage_plan.specs.Uses.{uses}
use Rattle.split_fields.specs.Splits.{may_split}
use Rattle.net_laws.specs.Fields.{makes_field}
use Rattle.split_laws.specs.Merging.{has_keys, merge_at, merged, merges, table_but_for_epochs}
use Rattle.trace_drive.specs.Drives.{words_of}
use Rattle.stage_plan.specs.{Fields.reads_of, Planned.fold_at, Shape.{GroupShape, query_groups}}
use Rattle.trace_reader.specs.{Traces.packets, declared.fault.TheConstants.{MAX_RECORDS, MAX_TRACE}}
use Rattle.trace_split.specs.Traces.{packets_of_all}

-- The tables of which `run` prints some, over a trace with this text.
abbrev pub tables_of_run : TypedQuery → Geometry → List ℕ → List Table
tables_of_run q g text = query_tables q g (words_of (packets text (reads_of q)))

-- the packets of traces of any length
abbrev pub packets_for : TypedQuery → List (List ℕ) → List Packet
packets_for q traces = packets_of_all traces (reads_of q)

-- the tables over all these packets
abbrev pub tables_of_whole : TypedQuery → Geometry → List (List ℕ) → List Table
tables_of_whole q g traces = query_tables q g (words_of (packets_for q traces))

-- Traces that are split for an accepted text: by a hash of fields of which no `map` makes columns, begun with a salt, into a number of
-- parts.
pub record Split : Type 0 where
  pub text : List ℕ
  pub q : TypedQuery
  pub fields : List Field
  pub salt : ℕ
  pub parts : ℕ
  pub traces : List (List ℕ)
  pub is_accepted : accepted text ≡ Ok q
  pub unmade : All (λ field. makes_field field q.names q.streams ≡ false) fields
  pub some : 0 < parts

-- the packets of a part, and its text
abbrev pub packets_in_part : Split → ℕ → List Packet
packets_in_part s n = packets_of_part (part_by_hash s.fields s.salt s.parts) n (packets_for s.q s.traces)

abbrev pub text_of_part : Split → ℕ → List ℕ
text_of_part s n = part_text (reads_of s.q) (part_by_hash s.fields s.salt s.parts) n (packets_for s.q s.traces)

-- one run takes the text
pub record FitsOneRun (s : Split) (n : ℕ) : Type 0 where
  pub bytes : length (text_of_part s n) ≤ MAX_TRACE
  pub records : length (packets_in_part s n) ≤ MAX_RECORDS

abbrev pub EachFits : Split → Type 0
EachFits s = (n : ℕ) → n < s.parts → FitsOneRun s n

-- What is merged of the tables that runs over the texts of the parts give, whatever the caches of each run, is the table of the
-- whole, but for numbers of epochs: for each groupby that has these fields as keys, and a row for each key, and for each final that is
-- made of such tables.
abbrev pub PartsAreTheRun : Type 0
PartsAreTheRun = (s : Split) → EachFits s → (g : Geometry) (caches : ℕ → Geometry) (number : ℕ) (table : Table)
    → merged (merge_at (merges s.fields s.q) number) s.parts
    (λ n. slice_get (tables_of_run s.q (caches n) (text_of_part s n)) number) ≡ Some table
    → option_map table_but_for_epochs (slice_get (tables_of_whole s.q g s.traces) number) ≡ Some table

-- what the groupby with this number takes in a run over the text of a part, and of the whole
abbrev pub uses_of_part : Split → ℕ → ℕ → List Use
uses_of_part s number n = uses s.q number (words_of (packets (text_of_part s n) (reads_of s.q)))

abbrev pub uses_of_whole : Split → ℕ → List Use
uses_of_whole s number = uses s.q number (words_of (packets_for s.q s.traces))

-- Where each epoch has a row, a key that has one epoch in a part has there the valid row of all rows that the whole gives the key, if
-- the groupby has these fields as keys.
abbrev pub ValidRowsAreOfTheWhole : Type 0
ValidRowsAreOfTheWhole = (s : Split) → EachFits s → (number n : ℕ) (shape : GroupShape) (f : TypedFold) (g : Geometry) (key : Key)
    → n < s.parts → slice_get (query_groups s.q) number ≡ Some shape → has_keys s.fields shape.key_names ≡ true
    → fold_at s.q number ≡ Some f → class_of f ≡ Other → length (epochs g (uses_of_part s number n) key) ≡ 1
    → key_rows (folding_of f) g (uses_of_part s number n) key
    ≡ valid_row (folding_of f) key (rows_used key (uses_of_whole s number)) ∷ []

-- Fields by which `marple-tools` may split are keys of each groupby, and no `map` makes columns of their names.
abbrev pub SplitFieldsAreKeys : Type 0
SplitFieldsAreKeys = (text : List ℕ) (q : TypedQuery) (fields : List Field) → accepted text ≡ Ok q
    → All (λ field. may_split q field ≡ true) fields
    → All (λ field. makes_field field q.names q.streams ≡ false) fields
    × All (λ shape. has_keys fields shape.key_names ≡ true) (query_groups q)

-- Where a fold only adds, and packets are those of any pieces one after the other, the table over all packets has, for each key of
-- the pieces' tables in ascending order, the row of the start and, piece after piece, what the piece's rows lead to from zeros.
abbrev pub SumsAreOfPieces : Type 0
SumsAreOfPieces = (text : List ℕ) (q : TypedQuery) (number : ℕ) (f : TypedFold) (g : Geometry) (all : List Packet)
    (pieces : List (List Packet)) → accepted text ≡ Ok q → fold_at q number ≡ Some f → is_additive f ≡ true
    → all ≡ flat_map (λ piece. piece) pieces
    → map but_for_epochs (group_rows (folding_of f) g (uses q number (words_of all)))
    ≡ map (λ key. row_of_state key (fold plus f.initial
    (map (λ piece. folded f (zeros f) (rows_used key (uses q number (words_of piece)))) pieces)))
    (ascending (flat_map (λ piece. keys_used (uses q number (words_of piece))) pieces))
