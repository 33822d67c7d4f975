-- The fields that are read of a trace, with their columns.
use Rattle.std.specs.{Prelude.{ℕ, ◌<◌, List, [], ◌∷◌, Option, Some, None, IfSome}, List.{All, zip}}
use Rattle.marple_base.specs.{Field.all_fields, declared.field.Field.Field}

-- a field before those that are read, if it has a column
abbrev pub with_column : Field → Option ℕ → List (Field × ℕ) → List (Field × ℕ)
with_column field None rest = rest
with_column field (Some column) rest = (field, column) ∷ rest

-- the fields that have a column, of fields and their columns
abbrev pub read_of : List (Field × Option ℕ) → List (Field × ℕ)
read_of [] = []
read_of (p ∷ rest) = with_column p.0 p.1 (read_of rest)

-- the fields that are read, with their columns, in the order of the fields
unfoldable pub read_columns : List (Option ℕ) → List (Field × ℕ)
read_columns columns = read_of (zip all_fields columns)

-- the columns that are read are those of a record with so many fields
abbrev pub AreWithin : ℕ → List (Option ℕ) → Type 0
AreWithin width columns = All (λ found. IfSome found (λ column. column < width)) columns
