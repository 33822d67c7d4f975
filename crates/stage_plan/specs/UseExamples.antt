-- What groupbys take from three packets of two words, computed.
use Rattle.std.specs.Prelude.{◌≡◌, ℕ, List, [], ◌∷◌, Some}
use Rattle.epoch_model.specs.Epochs.{Use}
use Rattle.query_lang.specs.declared.fold.{Op.TheVariants.{Add, Lt}, TypedExpr.TypedExpr, TypedFold.TypedFold}
use Rattle.query_lang.specs.declared.typed.{TypedOp.TheVariants.{Filter, Map, Zip, Group}, TypedQuery.TypedQuery, TypedStream.TypedStream}
use Rattle.query_lang.specs.{Terms.{Literal, Read, Operation, term_of}, StreamExamples.{three_packets, HasParts}}
use Rattle.stage_plan.specs.Uses.{uses}

abbrev pub use_at : ℕ → List ℕ → List ℕ → Use
use_at packet key row = record { packet = packet; key = key; row = row }

-- a groupby by the first word after a filter on the second, which is above 0; the argument is the second word
abbrev pub FilteredUses : Type 0
FilteredUses = (q : TypedQuery) (f : TypedFold) (first second : TypedStream) (condition : TypedExpr)
    → HasParts first second q f → first.op ≡ Filter 0 condition → second.op ≡ Group 1 (0 ∷ []) 0 (1 ∷ [])
    → term_of condition ≡ Operation Lt (Literal 0) (Read 1)
    → uses q 0 three_packets ≡ use_at 1 (5 ∷ []) (1 ∷ []) ∷ use_at 3 (5 ∷ []) (3 ∷ []) ∷ []

-- a groupby after a map that adds the sum of both words, which is the argument
abbrev pub MappedUses : Type 0
MappedUses = (q : TypedQuery) (f : TypedFold) (first second : TypedStream) (sum : TypedExpr)
    → HasParts first second q f → first.op ≡ Map 0 (sum ∷ []) → second.op ≡ Group 1 (0 ∷ []) 0 (2 ∷ [])
    → term_of sum ≡ Operation Add (Read 0) (Read 1)
    → uses q 0 three_packets ≡ use_at 1 (5 ∷ []) (6 ∷ []) ∷ use_at 2 (7 ∷ []) (7 ∷ []) ∷ use_at 3 (5 ∷ []) (8 ∷ [])
    ∷ []

-- a groupby by both words after a zip of the packets with themselves; it has no argument
abbrev pub ZippedUses : Type 0
ZippedUses = (q : TypedQuery) (f : TypedFold) (first second : TypedStream)
    → HasParts first second q f → first.op ≡ Zip 0 0 [] → second.op ≡ Group 1 (0 ∷ 1 ∷ []) 0 []
    → uses q 0 three_packets ≡ use_at 1 (5 ∷ 1 ∷ []) [] ∷ use_at 2 (7 ∷ 0 ∷ []) [] ∷ use_at 3 (5 ∷ 3 ∷ []) [] ∷ []

-- A groupby by the first word, whose fold has one variable and emits where its argument, the second word, is above 0. It feeds
-- another groupby, number 1, whose key and argument are the key that was emitted
abbrev pub FedUses : Type 0
FedUses = (q : TypedQuery) (f : TypedFold) (first second : TypedStream) (emit : TypedExpr)
    → HasParts first second q f → f.emit ≡ Some emit → f.initial ≡ 9 ∷ []
    → first.op ≡ Group 0 (0 ∷ []) 0 (1 ∷ []) → second.op ≡ Group 1 (0 ∷ []) 0 (0 ∷ [])
    → term_of emit ≡ Operation Lt (Literal 0) (Read 1)
    → uses q 1 three_packets ≡ use_at 1 (5 ∷ []) (5 ∷ []) ∷ use_at 3 (5 ∷ []) (5 ∷ []) ∷ []
