-- That such columns have the packet's word of the field.
use Rattle.std.specs.Prelude.{◌≡◌, ℕ, ◌<◌, true, false, List, [], ◌∷◌, length, slice_index, All}
use Rattle.marple_base.specs.declared.field.{Field.Field, TheConstants.FIELDS}
use Rattle.query_lang.specs.declared.{query.Query.Query, typed.TypedOp.{TypedOp, TheVariants.{Filter, Map, Zip, Group}}}
use Rattle.query_lang.specs.{declared.typed.TypedQuery.TypedQuery, Streams.stream}
use Rattle.query_laws.specs.QueryRules.{IsTyped}
use Rattle.net_laws.specs.Fields.{is_named, makes_field, field_word}

-- this slot of the stream is the packet's word of the field, whatever the packet
abbrev pub IsFieldSlot : TypedQuery → Field → ℕ → ℕ → Type 0
IsFieldSlot q field input slot = (words : List ℕ) → length words ≡ FIELDS
    → All (λ t. slice_index t.row slot ≡ field_word field words) (stream q input (words ∷ []))

-- each key of a groupby that has the field's name is the packet's word of it, unless some `map` makes a column of that name
abbrev pub KeysAreTheField : TypedQuery → Field → List ℕ → TypedOp → Type 0
KeysAreTheField q field columns (Filter input condition) = Unit {0}
KeysAreTheField q field columns (Map input values) = Unit {0}
KeysAreTheField q field columns (Zip left right slots) = Unit {0}
KeysAreTheField q field columns (Group input keys f args) =
    (j : ℕ) → j < length keys → is_named field q.names (slice_index columns j) ≡ true → makes_field field q.names q.streams ≡ false
    → IsFieldSlot q field input (slice_index keys j)

-- So it is in each typed query, for each field.
abbrev pub KeysAreFields : Type 0
KeysAreFields = (query : Query) (q : TypedQuery) (field : Field) → IsTyped query q
    → All (λ one. KeysAreTheField q field one.columns one.op) q.streams
