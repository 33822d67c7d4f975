-- A trace's parts, each run by itself, give what the whole trace gives.
use Rattle.std.specs.Prelude.{◌≡◌, ◌≢◌, ◌↔◌, ℕ, ◌+◌, ◌-◌, ◌%◌, ◌^◌, ◌<◌, ◌≤◌, true, false, List, [], ◌∷◌, Some, slice_get, length, map}
use Rattle.std.specs.Prelude.{flat_map, fold, slice_index, sum_by, All, Contains}
use Rattle.epoch_model.specs.{declared.tables.{Mark.TheVariants.{Exact, Valid}, Row.Row}, Keys.{Key, ArgRow, ascending}}
use Rattle.epoch_model.specs.{Epochs.{Geometry, epochs}, Tables.{Folding, key_rows, keys_used, group_rows}}
use Rattle.epoch_model.specs.Tables as tables
use Rattle.marple_base.specs.declared.field.Field.{Field}
use Rattle.query_lang.specs.declared.{fold.TypedFold.TypedFold, query.Query.Query, typed.{TypedQuery.TypedQuery, TypedStream.TypedStream}}
use Rattle.query_lang.specs.Folds.{fold_states, body, folded}
use Rattle.stage_plan.specs.{Packets.AreWhole, Uses.uses}
use Rattle.query_laws.specs.QueryRules.{IsTyped}
use Rattle.additive_laws.specs.{Amounts.{amount, plus, zeros}, Laws.IsAdditiveFrom, TraceLaws.rows_used}
use Rattle.part_laws.specs.Parts.{Partition, KeepsKeys, AreTheParts, part_uses, own_uses, whole_rows, part_rows, by_field, by_fields}
use Rattle.part_laws.specs.Parts.{groupbys, part_by, HasFieldKey}

-- this holds of each partition that keeps a groupby's keys, of all whole packets and of each key
abbrev pub WhereKeysAreKept : ((partition : Partition) (q : TypedQuery) (i : ℕ) → KeepsKeys partition q i → List (List ℕ) → Key
    → Type 0) → Type 0
WhereKeysAreKept P = (partition : Partition) (q : TypedQuery) (i : ℕ) (kept : KeepsKeys partition q i) (packets : List (List ℕ))
    (key : Key) → AreWhole packets → P partition q i kept packets key

-- The argument rows that the whole trace gives a key are, in order, those of the key's part alone.
abbrev pub PartsHaveTheRows : Type 0
PartsHaveTheRows = WhereKeysAreKept (λ partition q i kept packets key.
    rows_used key (uses q i packets) ≡ rows_used key (own_uses partition q i kept packets key))

-- Every other part gives the key no row.
abbrev pub OtherPartsHaveNone : Type 0
OtherPartsHaveNone = WhereKeysAreKept (λ partition q i kept packets key. (n : ℕ) → n ≢ kept.part_of key
    → rows_used key (part_uses partition q i packets n) ≡ [])

-- The table of the whole trace has a key exactly where the table of the key's part has it.
abbrev pub KeysAreOfTheirParts : Type 0
KeysAreOfTheirParts = WhereKeysAreKept (λ partition q i kept packets key.
    Contains (keys_used (uses q i packets)) key ↔ Contains (keys_used (own_uses partition q i kept packets key)) key)

-- No other part's table has it.
abbrev pub KeysAreOfNoOtherPart : Type 0
KeysAreOfNoOtherPart = WhereKeysAreKept (λ partition q i kept packets key. (n : ℕ)
    → Contains (keys_used (part_uses partition q i packets n)) key → n ≡ kept.part_of key)

-- the row with 0 in the place of the number of epochs
abbrev pub but_for_epochs : Row → Row
but_for_epochs row = record { key = row.key; mark = row.mark; epoch = row.epoch; epochs = 0; values = row.values }

-- Where a key has one row for all its packets, the row is that of the key's part, whatever the caches of either run: only the
-- number of epochs beside it may differ.
abbrev pub ExactRowsAreTheParts : Type 0
ExactRowsAreTheParts = WhereKeysAreKept (λ partition q i kept packets key. (f : Folding) (g h : Geometry)
    → f.row_per_epoch ≡ false
    → map but_for_epochs (key_rows f g (uses q i packets) key)
    ≡ map but_for_epochs (key_rows f h (own_uses partition q i kept packets key) key))

-- the row of a key that has one epoch, of these argument rows
abbrev pub valid_row : Folding → Key → List ArgRow → Row
valid_row f key rows = record { key = key; mark = Valid; epoch = 1; epochs = 1; values = tables.folded f rows }

-- Where each epoch has a row, a key that has one epoch in its part has one row there: a valid one, of all the rows that the whole
-- trace gives the key.
abbrev pub ValidRowsFoldTheWhole : Type 0
ValidRowsFoldTheWhole = WhereKeysAreKept (λ partition q i kept packets key. (f : Folding) (g : Geometry) → f.row_per_epoch ≡ true
    → length (epochs g (own_uses partition q i kept packets key) key) ≡ 1
    → key_rows f g (own_uses partition q i kept packets key) key ≡ valid_row f key (rows_used key (uses q i packets)) ∷ [])

-- Without a refresh a key has at most as many epochs in its part as in the whole trace, in caches of the same size: fewer other
-- keys come between.
abbrev pub PartsCutNoMore : Type 0
PartsCutNoMore = WhereKeysAreKept (λ partition q i kept packets key. (g : Geometry) → g.refresh ≡ 0
    → length (epochs g (own_uses partition q i kept packets key) key) ≤ length (epochs g (uses q i packets) key))

-- So a key that is valid in the table of the whole trace has the same row in its part's table.
abbrev pub ValidRowsAreTheParts : Type 0
ValidRowsAreTheParts = WhereKeysAreKept (λ partition q i kept packets key. (f : Folding) (g : Geometry) → f.row_per_epoch ≡ true
    → g.refresh ≡ 0 → length (epochs g (uses q i packets) key) ≡ 1
    → key_rows f g (uses q i packets) key ≡ key_rows f g (own_uses partition q i kept packets key) key)

-- The keys of the whole table are those of the parts' tables, whatever the partition.
abbrev pub KeysAreOfAllParts : Type 0
KeysAreOfAllParts = (partition : Partition) (q : TypedQuery) (i : ℕ) (packets : List (List ℕ)) (parts : List ℕ)
    → AreTheParts partition packets parts
    → keys_used (uses q i packets) ≡ ascending (flat_map (λ n. keys_used (part_uses partition q i packets n)) parts)

-- Where each key has one row, the table of the whole trace has, for each key of the parts' tables in ascending order, the row of
-- the key's part, whatever the caches of each part.
abbrev pub ExactTablesJoin : Type 0
ExactTablesJoin = (partition : Partition) (q : TypedQuery) (i : ℕ) (kept : KeepsKeys partition q i) (packets : List (List ℕ))
    (parts : List ℕ) → AreWhole packets → AreTheParts partition packets parts
    → (f : Folding) (g : Geometry) (caches : ℕ → Geometry) → f.row_per_epoch ≡ false
    → map but_for_epochs (group_rows f g (uses q i packets))
    ≡ flat_map (λ key.
    let n = kept.part_of key in map but_for_epochs (key_rows f (caches n) (part_uses partition q i packets n) key))
    (ascending (flat_map (λ n. keys_used (part_uses partition q i packets n)) parts))

-- what these argument rows add to a state variable, before the remainder is taken
abbrev pub added : TypedFold → ℕ → List ArgRow → ℕ
added f v rows = sum_by (λ row. slice_index (amount f row) v) rows

-- this holds of each additive fold, and of each partition and any list of all its parts
abbrev pub WhereTheFoldAdds : (TypedFold → List ℕ → Partition → TypedQuery → ℕ → List (List ℕ) → List ℕ → Key → Type 0) → Type 0
WhereTheFoldAdds P = (f : TypedFold) (state : List ℕ) (partition : Partition) (q : TypedQuery) (i : ℕ) (packets : List (List ℕ))
    (parts : List ℕ) (key : Key)
    → IsAdditiveFrom f state → AreTheParts partition packets parts → P f state partition q i packets parts key

-- A state variable of a key over the whole trace is its start and the sum of what each part's rows add to it, even where the
-- parts don't keep keys.
abbrev pub AdditivePartsAdd : Type 0
AdditivePartsAdd = WhereTheFoldAdds (λ f state partition q i packets parts key. (v : ℕ) → v < fold_states f
    → slice_index (folded f state (whole_rows q i key packets)) v
    ≡ (slice_index state v + sum_by (λ n. added f v (part_rows partition q i key packets n)) parts) % 2 ^ 64)

-- So the state is the start and, part after part, the state to which the part's rows lead from zeros.
abbrev pub StatesFromZerosAdd : Type 0
StatesFromZerosAdd = WhereTheFoldAdds (λ f state partition q i packets parts key.
    folded f state (whole_rows q i key packets)
    ≡ fold plus state (map (λ n. folded f (zeros f) (part_rows partition q i key packets n)) parts))

-- And by what the tables of the parts show: each part's own word, less the start, is added to the start.
abbrev pub PartWordsAdd : Type 0
PartWordsAdd = WhereTheFoldAdds (λ f state partition q i packets parts key. (v : ℕ) → v < fold_states f
    → slice_index (folded f state (whole_rows q i key packets)) v
    ≡ (slice_index state v
    + sum_by (λ n. slice_index (folded f state (part_rows partition q i key packets n)) v + (2 ^ 64 - slice_index state v)) parts)
    % 2 ^ 64)

-- the one row of a key that has this state, with 0 in the place of the number of epochs
abbrev pub row_of_state : Key → List ℕ → Row
row_of_state key state = record { key = key; mark = Exact; epoch = 0; epochs = 0; values = state }

-- So the table of the whole trace has, for each key of the parts' tables in ascending order, the row of that state.
abbrev pub AdditiveTablesJoin : Type 0
AdditiveTablesJoin = (f : TypedFold) (folding : Folding) (g : Geometry) (partition : Partition) (q : TypedQuery) (i : ℕ)
    (packets : List (List ℕ)) (parts : List ℕ) → folding.step ≡ body f → folding.row_per_epoch ≡ false
    → IsAdditiveFrom f folding.initial → AreTheParts partition packets parts
    → map but_for_epochs (group_rows folding g (uses q i packets))
    ≡ map (λ key.
    row_of_state key (fold plus folding.initial (map (λ n. folded f (zeros f) (part_rows partition q i key packets n)) parts)))
    (ascending (flat_map (λ n. keys_used (part_uses partition q i packets n)) parts))

-- Each partition by a field keeps the keys of a groupby that has a key of that name, where no `map` of the query makes such a
-- column.
abbrev pub FieldsKeepKeys : Type 0
FieldsKeepKeys = (query : Query) (q : TypedQuery) (i : ℕ) (field : Field) (choose : ℕ → ℕ)
    → IsTyped query q → HasFieldKey q i field → KeepsKeys (by_field field choose) q i

-- And so does each partition by several such fields.
abbrev pub FieldListsKeepKeys : Type 0
FieldListsKeepKeys = (query : Query) (q : TypedQuery) (i : ℕ) (fields : List Field) (choose : List ℕ → ℕ)
    → IsTyped query q → All (HasFieldKey q i) fields → KeepsKeys (by_fields fields choose) q i

-- Such a partition sends a key to the part that its words of these fields give, by the names of the groupby's keys: so two
-- groupbys whose keys have the same names have the same part for each key.
abbrev pub FieldListsGiveTheParts : Type 0
FieldListsGiveTheParts = (query : Query) (q : TypedQuery) (i : ℕ) (fields : List Field) (choose : List ℕ → ℕ) (one : TypedStream)
    → IsTyped query q → All (HasFieldKey q i) fields → slice_get (groupbys q) i ≡ Some one
    → (kept : KeepsKeys (by_fields fields choose) q i) × ((key : Key) → kept.part_of key ≡ part_by q.names one.columns fields choose key)
