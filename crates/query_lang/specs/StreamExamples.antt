-- Streams of three packets of two words, computed.
use Rattle.std.specs.Prelude.{◌≡◌, ℕ, List, [], ◌∷◌, Some}
use Rattle.query_lang.specs.declared.fold.{Op.TheVariants.{Add, Lt}, TypedExpr.TypedExpr, TypedFold.TypedFold}
use Rattle.query_lang.specs.declared.typed.{TypedOp.TheVariants.{Filter, Group}, TypedQuery.TypedQuery, TypedStream.TypedStream}
use Rattle.query_lang.specs.Terms.{Literal, Read, Operation, term_of}
use Rattle.query_lang.specs.Streams.{Tuple, numbered, filter_stream, map_stream, zip_stream, stream}

abbrev pub three_packets : List (List ℕ)
three_packets = (5 ∷ 1 ∷ []) ∷ (7 ∷ 0 ∷ []) ∷ (5 ∷ 3 ∷ []) ∷ []

abbrev pub tuple : ℕ → List ℕ → Tuple
tuple packet row = record { packet = packet; row = row }

-- a filter on the second word: it is above 0
abbrev pub FilterExample : Type 0
FilterExample = (condition : TypedExpr) → term_of condition ≡ Operation Lt (Literal 0) (Read 1)
    → filter_stream condition (numbered 1 three_packets) ≡ tuple 1 (5 ∷ 1 ∷ []) ∷ tuple 3 (5 ∷ 3 ∷ []) ∷ []

-- a map that adds the sum of both words
abbrev pub MapExample : Type 0
MapExample = (sum : TypedExpr) → term_of sum ≡ Operation Add (Read 0) (Read 1)
    → map_stream (sum ∷ []) (numbered 1 three_packets) ≡ tuple 1 (5 ∷ 1 ∷ 6 ∷ []) ∷ tuple 2 (7 ∷ 0 ∷ 7 ∷ [])
    ∷ tuple 3 (5 ∷ 3 ∷ 8 ∷ []) ∷ []

-- a zip of streams that have packets 1 and 3, and 2 and 3; it takes the third value from the right
abbrev pub ZipExample : Type 0
ZipExample =
    zip_stream (2 ∷ []) (tuple 1 (5 ∷ 1 ∷ []) ∷ tuple 3 (5 ∷ 3 ∷ []) ∷ [])
    (tuple 2 (7 ∷ 0 ∷ 7 ∷ []) ∷ tuple 3 (5 ∷ 3 ∷ 8 ∷ []) ∷ [])
    ≡ tuple 3 (5 ∷ 3 ∷ 8 ∷ []) ∷ []

-- a query of one fold and two streams
abbrev pub HasParts : TypedStream → TypedStream → TypedQuery → TypedFold → Type 0
HasParts first second q f = (q.folds ≡ f ∷ []) × (q.streams ≡ first ∷ second ∷ [])

-- a groupby by the first word, whose fold has one variable and emits where its argument, the second word, is above 0; and a filter on
-- the keys that it emits: they are below 6
abbrev pub GroupExample : Type 0
GroupExample = (q : TypedQuery) (f : TypedFold) (first second : TypedStream) (emit below : TypedExpr)
    → HasParts first second q f → f.emit ≡ Some emit → f.initial ≡ 9 ∷ []
    → first.op ≡ Group 0 (0 ∷ []) 0 (1 ∷ []) → second.op ≡ Filter 1 below
    → term_of emit ≡ Operation Lt (Literal 0) (Read 1) → term_of below ≡ Operation Lt (Read 0) (Literal 6)
    → stream q 2 three_packets ≡ tuple 1 (5 ∷ []) ∷ tuple 3 (5 ∷ []) ∷ []
