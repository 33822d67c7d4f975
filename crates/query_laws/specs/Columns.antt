-- The columns of streams, and the values that rows have under their names.
use Rattle.std.specs.Prelude.{◌≡◌, ℕ, zero, suc, List, [], Option, Some, None, option_map, unwrap_or, slice_get, slice_index}
use Rattle.query_lang.specs.{declared.typed.{TypedOp.{TypedOp, TheVariants.Zip}, TypedQuery.TypedQuery}, Checks.place_of}
use Rattle.query_lang.specs.Typing.{field_numbers}

-- the names of a stream's columns, in their order; those of `pktstream`, which is number 0, are the fields
abbrev pub columns_of : TypedQuery → ℕ → List ℕ
columns_of q zero = field_numbers q.names
columns_of q (suc i) = unwrap_or (option_map (λ one. one.columns) (slice_get q.streams i)) []

-- what makes a stream
abbrev pub operator_of : TypedQuery → ℕ → Option TypedOp
operator_of q zero = None
operator_of q (suc i) = option_map (λ one. one.op) (slice_get q.streams i)

-- the stream with this number zips those two
pub record IsZip (q : TypedQuery) (number left right : ℕ) : Type 0 where
  pub slots : List ℕ
  pub is : operator_of q number ≡ Some (Zip left right slots)

-- the value that a row has under a name, where its columns have these names
abbrev pub value_under : ℕ → List ℕ → List ℕ → Option ℕ
value_under name columns row = option_map (λ slot. slice_index row slot) (place_of columns name)
