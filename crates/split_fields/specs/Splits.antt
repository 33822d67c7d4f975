-- The fields by which a trace may be split.
use Rattle.std.specs.{Prelude.{ℕ, Bool, true, ◌&&◌, not, List}, List.list_all}
use Rattle.marple_base.specs.declared.field.Field.{Field}
use Rattle.net_laws.specs.Fields.{makes_field, names_field}
use Rattle.query_lang.specs.declared.typed.{TypedOp.{TypedOp, TheVariants.{Filter, Map, Zip, Group}}, TypedQuery.TypedQuery}
use Rattle.query_lang.specs.declared.typed.TypedStream.{TypedStream}

-- whether a stream is no groupby's, or that of a groupby with a key that has the field's name; the columns of a groupby's stream
-- are its keys
abbrev pub is_keyed : Field → List (List ℕ) → List ℕ → TypedOp → Bool
is_keyed field names columns (Filter input condition) = true
is_keyed field names columns (Map input values) = true
is_keyed field names columns (Zip left right slots) = true
is_keyed field names columns (Group input keys f args) = names_field field names columns

-- whether each groupby of these streams has such a key
abbrev pub all_keyed : Field → List (List ℕ) → List TypedStream → Bool
all_keyed field names streams = list_all (λ one. is_keyed field names one.columns one.op) streams

-- whether a trace may be split by the field: each groupby of the query has it as a key, and no `map` makes a column of its name
abbrev pub may_split : TypedQuery → Field → Bool
may_split q field = all_keyed field q.names q.streams && not (makes_field field q.names q.streams)
