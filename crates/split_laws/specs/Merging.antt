-- How the tables that runs over the parts of a trace give are merged.
use Rattle.std.specs.Prelude.{if◌then◌else◌, ℕ, Bool, List, [], ◌∷◌, ◌++◌, map, fold, slice_get, Option, None, Some, option_and_then}
use Rattle.std.specs.{Prelude.{option_map, unwrap_or}, List.{list_all, list_any, range_with_len}, Str.bytes_eq}
use Rattle.epoch_model.specs.declared.tables.Row.{Row}
use Rattle.final_queries.specs.{Finals.top_rows, declared.table.{Table.Table, TableKind.TableKind}}
use Rattle.final_queries.specs.declared.table.TableKind.TheVariants as kind
use Rattle.marple_base.specs.{Field.field_name, declared.field.Field.Field}
use Rattle.query_lang.specs.declared.typed.{Class.{Class, TheVariants.{Linear, Other}}, TypedFinal.TypedFinal, TypedFinalOp.TypedFinalOp}
use Rattle.query_lang.specs.declared.typed.{TypedFinalOp.TheVariants.{Filter, Map, Group, Join, Top}, TypedQuery.TypedQuery}
use Rattle.stage_plan.specs.Shape.{GroupShape, query_groups}
use Rattle.part_laws.specs.{FinalParts.rows_of_all, PartLaws.but_for_epochs}

-- ---- which tables are merged, and how

-- A table is merged of those of the parts by their rows in the order of the keys, which have these names; or it has of these rows the
-- ones that `top` by this column takes, so many; or it isn't merged.
pub data Merge : Type 0 where
  InOrder : List (List ℕ) → Merge
  TopAgain : ℕ → ℕ → Merge
  NotMerged : Merge

-- whether each of these fields is one of the keys with these names
abbrev pub has_keys : List Field → List (List ℕ) → Bool
has_keys fields keys = list_all (λ field. list_any (bytes_eq (field_name field)) keys) fields

-- the table of a groupby is merged where each key has one row
abbrev pub by_class : Class → List (List ℕ) → Merge
by_class Linear keys = InOrder keys
by_class Other keys = NotMerged

-- and where the fields by which packets are split are among its keys
abbrev pub group_merge : List Field → GroupShape → Merge
group_merge fields shape = if has_keys fields shape.key_names then by_class shape.class shape.key_names else NotMerged

-- the merge of the table with this number
abbrev pub merge_at : List Merge → ℕ → Merge
merge_at known number = unwrap_or (slice_get known number) NotMerged

-- what `filter` and `map` make of a table in the order of keys is in that order
abbrev pub still_in_order : Merge → Merge
still_in_order (InOrder keys) = InOrder keys
still_in_order (TopAgain column kept) = NotMerged
still_in_order NotMerged = NotMerged

-- and so is what `join` makes of two, whose keys have the same names
abbrev pub joined : Merge → Merge → Merge
joined (InOrder keys) other = still_in_order other
joined (TopAgain column kept) other = NotMerged
joined NotMerged other = NotMerged

-- `top` is taken again
abbrev pub top_of : ℕ → ℕ → Merge → Merge
top_of column kept (InOrder keys) = TopAgain column kept
top_of column kept (TopAgain of_top few) = NotMerged
top_of column kept NotMerged = NotMerged

-- The table of a final, by those of the tables before it. That of a `groupby` isn't merged, and neither is one made of a `top`.
abbrev pub final_merge : List Merge → TypedFinalOp → Merge
final_merge known (Filter input condition) = still_in_order (merge_at known input)
final_merge known (Map input values) = still_in_order (merge_at known input)
final_merge known (Group input keys f args) = NotMerged
final_merge known (Join left right) = joined (merge_at known left) (merge_at known right)
final_merge known (Top input column kept) = top_of column kept (merge_at known input)

abbrev pub merges_with : List Merge → List TypedFinal → List Merge
merges_with known finals = fold (λ before one. before ++ final_merge before one.op ∷ []) known finals

-- How the tables of a query are merged where packets are split by these fields, by their numbers: those of groupbys, and then those
-- of finals.
abbrev pub merges : List Field → TypedQuery → List Merge
merges fields q = merges_with (map (group_merge fields) (query_groups q)) q.finals

-- ---- merging

abbrev pub kind_but_for_epochs : TableKind → TableKind
kind_but_for_epochs (kind.Group class depth epochs) = kind.Group class depth 0
kind_but_for_epochs kind.Final = kind.Final

-- the table with these rows, and with 0 in the place of the number of its epochs
abbrev pub with_rows : Table → List Row → Table
with_rows t rows = record { name = t.name; columns = t.columns; keys = t.keys; kind = kind_but_for_epochs t.kind; rows = rows }

-- the table with 0 in the place of each number of epochs
abbrev pub table_but_for_epochs : Table → Table
table_but_for_epochs t = with_rows t (map but_for_epochs t.rows)

abbrev pub rows_of : Option Table → List Row
rows_of None = []
rows_of (Some t) = t.rows

abbrev pub rows_in : Option Table → List Row
rows_in table = map but_for_epochs (rows_of table)

-- the rows that are merged of those of all parts in the order of keys
abbrev pub merged_rows : Merge → List Row → Option (List Row)
merged_rows (InOrder keys) rows = Some rows
merged_rows (TopAgain column kept) rows = Some (top_rows column kept rows)
merged_rows NotMerged rows = None

-- The table that is merged of those of the parts, with the heading of the first part's table.
abbrev pub merged : Merge → ℕ → (ℕ → Option Table) → Option Table
merged how parts tables =
    option_and_then (λ first. option_map (with_rows first)
    (merged_rows how (rows_of_all (λ n. rows_in (tables n)) (range_with_len 0 parts)))) (tables 0)
