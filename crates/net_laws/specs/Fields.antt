-- Columns that have a field's name.
use Rattle.std.specs.{Prelude.{ℕ, Bool, List, slice_index}, List.list_any, Str.bytes_eq}
use Rattle.marple_base.specs.{declared.field.Field.Field, Field.{field_name, number_of}}
use Rattle.query_lang.specs.declared.typed.TypedStream.{TypedStream}
use Rattle.stage_plan.specs.Shape.{text_at}
use Rattle.net_wide.specs.Combining.{columns_made}

-- the packet's word of the field
abbrev pub field_word : Field → List ℕ → ℕ
field_word field words = slice_index words (number_of field)

-- whether the name with this number is the field's
abbrev pub is_named : Field → List (List ℕ) → ℕ → Bool
is_named field names id = bytes_eq (field_name field) (text_at names id)

-- whether one of these columns has the field's name
abbrev pub names_field : Field → List (List ℕ) → List ℕ → Bool
names_field field names columns = list_any (is_named field names) columns

-- whether a `map` of these streams makes a column that has the field's name
abbrev pub makes_field : Field → List (List ℕ) → List TypedStream → Bool
makes_field field names streams = list_any (λ one. names_field field names (columns_made one.columns one.op)) streams
