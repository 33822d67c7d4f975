-- The fields of packets that a typed query reads while packets pass.
use Rattle.std.specs.Prelude.{ℕ, List, [], ◌∷◌, ◌++◌, map, fold, flat_map, filter_map, slice_get, Option, Some, None, unwrap_or}
use Rattle.marple_base.specs.{declared.field.{Field.Field, FieldSet.FieldSet}, Field.{all_fields, field_set}}
use Rattle.query_lang.specs.declared.typed.{TypedOp.{TypedOp, TheVariants.{Filter, Map, Zip, Group}}, TypedQuery.TypedQuery}
use Rattle.query_lang.specs.Terms.{Term, Literal, Read, Negation, Operation, term_of}

-- A column is a packet's field, or it was made by a `map`.
abbrev pub FieldSource : Type 0
FieldSource = Option Field

abbrev pub source_at : List FieldSource → ℕ → FieldSource
source_at columns slot = unwrap_or (slice_get columns slot) None

-- where the columns of the packets come from: each is a field
abbrev pub packet_sources : List FieldSource
packet_sources = map Some all_fields

abbrev pub sources_at : List (List FieldSource) → ℕ → List FieldSource
sources_at streams number = unwrap_or (slice_get streams number) []

-- the columns of a stream: only a `map` makes new ones, and the others stay what they are
abbrev pub sources_made : List (List FieldSource) → TypedOp → List FieldSource
sources_made streams (Filter input condition) = sources_at streams input
sources_made streams (Map input values) = sources_at streams input ++ map (λ _. None) values
sources_made streams (Zip left right slots) = sources_at streams left ++ map (source_at (sources_at streams right)) slots
sources_made streams (Group input keys f args) = map (source_at (sources_at streams input)) keys

-- where the columns of all streams come from, in order
abbrev pub all_sources : TypedQuery → List (List FieldSource)
all_sources q = fold (λ streams one. streams ++ sources_made streams one.op ∷ []) (packet_sources ∷ []) q.streams

-- the slots that an expression names
abbrev pub term_slots : Term → List ℕ
term_slots (Literal n) = []
term_slots (Read s) = s ∷ []
term_slots (Negation e) = term_slots e
term_slots (Operation op a b) = term_slots a ++ term_slots b

-- the slots of its input that an operator names in expressions, as keys, or as arguments of its fold
abbrev pub named_slots : TypedOp → List ℕ
named_slots (Filter input condition) = term_slots (term_of condition)
named_slots (Map input values) = flat_map (λ e. term_slots (term_of e)) values
named_slots (Zip left right slots) = []
named_slots (Group input keys f args) = keys ++ args

-- the input of those slots
abbrev pub named_input : TypedOp → ℕ
named_input (Filter input condition) = input
named_input (Map input values) = input
named_input (Zip left right slots) = left
named_input (Group input keys f args) = input

-- the fields that an operator names
abbrev pub named_fields : List (List FieldSource) → TypedOp → List Field
named_fields streams op = filter_map (source_at (sources_at streams (named_input op))) (named_slots op)

-- the fields that the streams name
abbrev pub read_fields : TypedQuery → List Field
read_fields q = flat_map (λ one. named_fields (all_sources q) one.op) q.streams

-- The fields that a query reads.
abbrev pub reads_of : TypedQuery → FieldSet
reads_of q = field_set (read_fields q)
