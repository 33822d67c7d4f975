-- Where the columns of streams come from: each is a field of the packet, or a `map` makes it.
use Rattle.std.specs.Prelude.{ℕ, List, [], ◌∷◌, ◌++◌, length, map, fold, slice_get, unwrap_or}
use Rattle.marple_base.specs.Field.{all_fields}
use Rattle.query_lang.specs.declared.typed.{TypedOp.{TypedOp, TheVariants.{Filter, Map, Zip, Group}}, TypedQuery.TypedQuery}
use Rattle.query_lang.specs.declared.typing.Origin.{Origin}
use Rattle.query_lang.specs.declared.typing.Origin.TheVariants as origin

abbrev pub origin_at : List Origin → ℕ → Origin
origin_at columns slot = unwrap_or (slice_get columns slot) origin.Field

-- the columns of the packets are the fields
abbrev pub packet_origins : List Origin
packet_origins = map (λ _. origin.Field) all_fields

abbrev pub origins_at : List (List Origin) → ℕ → List Origin
origins_at streams number = unwrap_or (slice_get streams number) []

-- the columns of the stream with this number, by those of the streams before it: only a `map` makes new ones
abbrev pub origins_made : List (List Origin) → ℕ → TypedOp → List Origin
origins_made streams number (Filter input condition) = origins_at streams input
origins_made streams number (Map input values) = origins_at streams input ++ map (λ _. origin.Map number) values
origins_made streams number (Zip left right slots) = origins_at streams left ++ map (origin_at (origins_at streams right)) slots
origins_made streams number (Group input keys f args) = map (origin_at (origins_at streams input)) keys

abbrev pub with_origins : List (List Origin) → TypedOp → List (List Origin)
with_origins streams op = streams ++ origins_made streams (length streams) op ∷ []

-- Where the columns of all streams come from, those of the packets first.
abbrev pub all_origins : TypedQuery → List (List Origin)
all_origins q = fold (λ streams one. with_origins streams one.op) (packet_origins ∷ []) q.streams
