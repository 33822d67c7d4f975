-- The text of a table: a line that says what it is, a heading, and a line for each row. Lines end with LF, numbers are
-- decimal, and the parts of a heading and of a row are separated by commas.
use Rattle.std.specs.Prelude.{ℕ, List, [], ◌∷◌, ◌++◌, length, map, flat_map, take, drop, codes, decimal}
use Rattle.query_lang.specs.declared.typed.Class.{Class, TheVariants.{Linear, Other}}
use Rattle.epoch_model.specs.declared.tables.{Mark.{Mark, TheVariants.{Exact, Valid, Invalid, Plain}}, Row.Row}
use Rattle.final_queries.specs.declared.table.{Table.Table, TableKind.{TableKind, TheVariants.{Group, Final}}}

-- parts after another one, each with a comma before it
abbrev pub cells_continued : List (List ℕ) → List ℕ
cells_continued parts = flat_map (λ part. 44 ∷ part) parts

-- the parts with a comma between each two
abbrev pub cells_joined : List (List ℕ) → List ℕ
cells_joined [] = []
cells_joined (part ∷ parts) = part ++ cells_continued parts

abbrev pub table_line : List (List ℕ) → List ℕ
table_line parts = cells_joined parts ++ 10 ∷ []

abbrev pub class_text : Class → List ℕ
class_text Linear = codes "linear"
class_text Other = codes "other"

abbrev pub mark_text : Mark → List ℕ
mark_text Exact = codes "exact"
mark_text Valid = codes "valid"
mark_text Invalid = codes "invalid"
mark_text Plain = codes "plain"

-- A row for all epochs of its key names none of them.
abbrev pub epoch_text : Mark → ℕ → List ℕ
epoch_text Exact epoch = codes "*"
epoch_text mark epoch = decimal epoch

abbrev pub numbers : List ℕ → List (List ℕ)
numbers words = map decimal words

-- a groupby's row: its key, what it represents, and the state
abbrev pub group_parts : Row → List (List ℕ)
group_parts row = numbers row.key ++ (mark_text row.mark ∷ epoch_text row.mark row.epoch ∷ decimal row.epochs ∷ [])
    ++ numbers row.values

-- a final's row: its key and its values
abbrev pub final_parts : Row → List (List ℕ)
final_parts row = numbers row.key ++ numbers row.values

abbrev pub row_parts : TableKind → Row → List (List ℕ)
row_parts (Group class depth epochs) row = group_parts row
row_parts Final row = final_parts row

-- the names of the columns; a groupby's have three more after the keys
abbrev pub heading : TableKind → ℕ → List (List ℕ) → List (List ℕ)
heading (Group class depth epochs) keys columns =
    take keys columns ++ (codes "mark" ∷ codes "epoch" ∷ codes "epochs" ∷ []) ++ drop keys columns
heading Final keys columns = columns

-- the line that says what a table of this kind with this many rows is
abbrev pub kind_text : TableKind → ℕ → List ℕ
kind_text (Group class depth epochs) rows = class_text class ++ (32 ∷ decimal depth) ++ (32 ∷ decimal epochs)
kind_text Final rows = codes "final " ++ decimal rows

abbrev pub title : Table → List ℕ
title table = codes "table " ++ table.name ++ (32 ∷ kind_text table.kind (length table.rows)) ++ 10 ∷ []

-- the lines of rows
abbrev pub lines_of : TableKind → List Row → List ℕ
lines_of kind rows = flat_map (λ row. table_line (row_parts kind row)) rows

-- the text of a table
abbrev pub table_text : Table → List ℕ
table_text table =
    title table ++ table_line (heading table.kind table.keys table.columns)
    ++ flat_map (λ row. table_line (row_parts table.kind row)) table.rows
