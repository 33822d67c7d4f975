-- What finals make of the tables of parts. A table is represented by the rows that finals read of it, and the tables of parts by a
-- function of the parts' numbers.
use Rattle.std.specs.Prelude.{◌≡◌, ◌≢◌, ℕ, false, List, [], ◌∷◌, map, filter, flat_map, slice_index, All, Option, Some}
use Rattle.epoch_model.specs.{declared.tables.Row.Row, Keys.{Key, ascending}, Epochs.Geometry, Tables.{Folding, group_rows}}
use Rattle.query_lang.specs.declared.{fold.{TypedExpr.TypedExpr, TypedFold.TypedFold}, typed.TypedQuery.TypedQuery}
use Rattle.stage_plan.specs.Uses.{uses}
use Rattle.stage_plan.specs.Packets.{AreWhole}
use Rattle.final_queries.specs.Finals.{is_of_key, plain_row, filtered_rows, mapped_rows, grouped_rows, joined_rows, top_rows}
use Rattle.additive_laws.specs.TraceLaws.{AreApart}
use Rattle.part_laws.specs.{Parts.{Partition, KeepsKeys, AreTheParts, part_uses}, PartLaws.but_for_epochs}

-- the rows in the ascending order of their keys, where rows of one key stay in their order
abbrev pub by_key : List Row → List Row
by_key rows = flat_map (λ key. filter (is_of_key key) rows) (ascending (map (λ row. row.key) rows))

-- the rows of all these parts, in the order of their keys
abbrev pub rows_of_all : (ℕ → List Row) → List ℕ → List Row
rows_of_all rows parts = by_key (flat_map rows parts)

-- each row is in the part of its key
abbrev pub AreInTheirParts : (Key → ℕ) → (ℕ → List Row) → Type 0
AreInTheirParts part_of rows = (n : ℕ) → All (λ row. part_of row.key ≡ n) (rows n)

-- The rows are those of all parts in the order of their keys, and the rows of each part are in the part of their keys.
pub record AreOfParts (part_of : Key → ℕ) (parts : List ℕ) (whole : List Row) (rows : ℕ → List Row) : Type 0 where
  pub all : whole ≡ rows_of_all rows parts
  pub placed : AreInTheirParts part_of rows

-- Where each key has one row, the table of the whole trace has the rows of the parts' tables in the order of their keys, but for
-- numbers of epochs, whatever the caches of each part; and these rows are in the parts of their keys.
abbrev pub ExactTablesInOrder : Type 0
ExactTablesInOrder = (partition : Partition) (q : TypedQuery) (i : ℕ) (kept : KeepsKeys partition q i) (packets : List (List ℕ))
    (parts : List ℕ) → AreWhole packets → AreTheParts partition packets parts
    → (f : Folding) (g : Geometry) (caches : ℕ → Geometry) → f.row_per_epoch ≡ false
    → AreOfParts kept.part_of parts (map but_for_epochs (group_rows f g (uses q i packets)))
    (λ n. map but_for_epochs (group_rows f (caches n) (part_uses partition q i packets n)))

-- `filter` of all rows gives the rows that it gives for each part, in the order of keys.
abbrev pub FiltersAreOfParts : Type 0
FiltersAreOfParts = (condition : TypedExpr) (rows : ℕ → List Row) (parts : List ℕ)
    → filtered_rows condition (rows_of_all rows parts) ≡ rows_of_all (λ n. filtered_rows condition (rows n)) parts

-- So does `map`.
abbrev pub MapsAreOfParts : Type 0
MapsAreOfParts = (values : List TypedExpr) (rows : ℕ → List Row) (parts : List ℕ)
    → mapped_rows values (rows_of_all rows parts) ≡ rows_of_all (λ n. mapped_rows values (rows n)) parts

-- And so does `join` of two tables, where the rows of both are in the parts of their keys.
abbrev pub JoinsAreOfParts : Type 0
JoinsAreOfParts = (part_of : Key → ℕ) (left right : ℕ → List Row) (parts : List ℕ) → AreApart parts
    → AreInTheirParts part_of left → AreInTheirParts part_of right
    → joined_rows (rows_of_all left parts) (rows_of_all right parts) ≡ rows_of_all (λ n. joined_rows (left n) (right n)) parts

-- So what `filter`, `map` and `join` make of rows that are those of parts is that again, of what they make of each part's rows: these
-- finals compose.
abbrev pub FiltersStayOfParts : Type 0
FiltersStayOfParts = (part_of : Key → ℕ) (parts : List ℕ) (condition : TypedExpr) (whole : List Row) (rows : ℕ → List Row)
    → AreOfParts part_of parts whole rows
    → AreOfParts part_of parts (filtered_rows condition whole) (λ n. filtered_rows condition (rows n))

abbrev pub MapsStayOfParts : Type 0
MapsStayOfParts = (part_of : Key → ℕ) (parts : List ℕ) (values : List TypedExpr) (whole : List Row) (rows : ℕ → List Row)
    → AreOfParts part_of parts whole rows
    → AreOfParts part_of parts (mapped_rows values whole) (λ n. mapped_rows values (rows n))

abbrev pub JoinsStayOfParts : Type 0
JoinsStayOfParts = (part_of : Key → ℕ) (parts : List ℕ) (left_whole right_whole : List Row) (left right : ℕ → List Row)
    → AreApart parts → AreOfParts part_of parts left_whole left → AreOfParts part_of parts right_whole right
    → AreOfParts part_of parts (joined_rows left_whole right_whole) (λ n. joined_rows (left n) (right n))

-- `top` of all rows is `top` of the rows that `top` gives for each part, whatever parts the keys are in.
abbrev pub TopsAreOfTops : Type 0
TopsAreOfTops = (column kept : ℕ) (rows : ℕ → List Row) (parts : List ℕ)
    → top_rows column kept (rows_of_all rows parts) ≡ top_rows column kept (rows_of_all (λ n. top_rows column kept (rows n)) parts)

-- A row in each part: its key has the part's number, and then the word 5.
abbrev pub one_each : ℕ → List Row
one_each n = plain_row (n ∷ 5 ∷ []) [] ∷ []

-- `groupby` can't be made part by part. By the second word of these keys it has one row of both parts, and one of each part alone,
-- whatever the fold.
abbrev pub GroupbysAreNotOfParts : Type 0
GroupbysAreNotOfParts = (f : TypedFold) → AreInTheirParts (λ key. slice_index key 0) one_each
    × (grouped_rows (1 ∷ []) (Some f) [] (rows_of_all one_each (0 ∷ 1 ∷ []))
    ≢ rows_of_all (λ n. grouped_rows (1 ∷ []) (Some f) [] (one_each n)) (0 ∷ 1 ∷ []))

-- this final makes the same of rows, whatever their numbers of epochs
abbrev pub ReadsNoEpochs : (List Row → List Row) → Type 0
ReadsNoEpochs final = (rows : List Row) → final (map but_for_epochs rows) ≡ final rows

-- No final reads the number of epochs.
abbrev pub FiltersReadNoEpochs : Type 0
FiltersReadNoEpochs = (condition : TypedExpr) → ReadsNoEpochs (filtered_rows condition)

abbrev pub MapsReadNoEpochs : Type 0
MapsReadNoEpochs = (values : List TypedExpr) → ReadsNoEpochs (mapped_rows values)

abbrev pub GroupbysReadNoEpochs : Type 0
GroupbysReadNoEpochs = (keys : List ℕ) (f : Option TypedFold) (args : List ℕ) → ReadsNoEpochs (grouped_rows keys f args)

abbrev pub JoinsReadNoEpochs : Type 0
JoinsReadNoEpochs = (left right : List Row)
    → joined_rows (map but_for_epochs left) (map but_for_epochs right) ≡ joined_rows left right

abbrev pub TopsReadNoEpochs : Type 0
TopsReadNoEpochs = (column kept : ℕ) → ReadsNoEpochs (top_rows column kept)
