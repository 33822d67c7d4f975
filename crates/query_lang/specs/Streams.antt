-- What the streams of a typed query are, over the list of all packets.
use Rattle.std.specs.Prelude.{ℕ, suc, Bool, false, ◌==◌, List, [], ◌∷◌, ◌++◌, map, filter, filter_map, find, fold, slice_get, slice_index}
use Rattle.std.specs.Prelude.{Option, Some, None, option_map, unwrap_or}
use Rattle.query_lang.specs.declared.{fold.{TypedExpr.TypedExpr, TypedFold.TypedFold}, typed.TypedOp.TypedOp}
use Rattle.query_lang.specs.declared.typed.{TypedOp.TheVariants.{Filter, Map, Zip, Group}, TypedQuery.TypedQuery, TypedStream.TypedStream}
use Rattle.query_lang.specs.{Words.holds, Terms.term_of, Folds.term_value}

-- a packet's number, and the row that a stream has for it. A stream is a list of these, with at most one for each packet
pub record Tuple : Type 0 where
  pub packet : ℕ
  pub row : List ℕ

-- the packets as a stream, numbered from this number on
abbrev pub numbered : ℕ → List (List ℕ) → List Tuple
numbered number [] = []
numbered number (row ∷ rest) = record { packet = number; row = row } ∷ numbered (suc number) rest

-- the values in these slots of a row
abbrev pub values_at : List ℕ → List ℕ → List ℕ
values_at row slots = map (λ slot. slice_index row slot) slots

abbrev pub expr_value : TypedExpr → List ℕ → ℕ
expr_value e row = term_value (term_of e) row

-- `filter`: the tuples where the condition holds
abbrev pub filter_stream : TypedExpr → List Tuple → List Tuple
filter_stream condition input = filter (λ t. holds (expr_value condition t.row)) input

-- `map`: each row with the new values after it
abbrev pub map_stream : List TypedExpr → List Tuple → List Tuple
map_stream values input = map (λ t. record { packet = t.packet; row = t.row ++ map (λ e. expr_value e t.row) values }) input

-- `zip`: a tuple for each packet that both have, the left row and then these values of the right one
abbrev pub zip_stream : List ℕ → List Tuple → List Tuple → List Tuple
zip_stream slots left right =
    filter_map (λ t. option_map (λ other. record { packet = t.packet; row = t.row ++ values_at other.row slots })
    (find (λ other. other.packet == t.packet) right)) left

-- a fold emits for these arguments where it has an `emit` and its condition holds; the condition reads no state
abbrev pub holds_at : Option TypedExpr → List ℕ → Bool
holds_at None row = false
holds_at (Some condition) row = holds (expr_value condition row)

abbrev pub emits_at : TypedFold → List ℕ → Bool
emits_at f args = holds_at f.emit (f.initial ++ args)

-- `groupby`: the keys of the tuples for which the fold emits
abbrev pub group_stream : Option TypedFold → List ℕ → List ℕ → List Tuple → List Tuple
group_stream None keys args input = []
group_stream (Some f) keys args input =
    map (λ t. record { packet = t.packet; row = values_at t.row keys }) (filter (λ t. emits_at f (values_at t.row args)) input)

-- the stream with this number, of streams in order
abbrev pub tuples_at : List (List Tuple) → ℕ → List Tuple
tuples_at streams number = unwrap_or (slice_get streams number) []

-- what an operator makes of the streams before it
abbrev pub made_of : List TypedFold → List (List Tuple) → TypedOp → List Tuple
made_of folds streams (Filter input condition) = filter_stream condition (tuples_at streams input)
made_of folds streams (Map input values) = map_stream values (tuples_at streams input)
made_of folds streams (Zip left right slots) = zip_stream slots (tuples_at streams left) (tuples_at streams right)
made_of folds streams (Group input keys f args) = group_stream (slice_get folds f) keys args (tuples_at streams input)

-- all streams in order: the packets, numbered from 1, and then what each operator makes
abbrev pub all_streams : TypedQuery → List (List ℕ) → List (List Tuple)
all_streams q packets = fold (λ streams one. streams ++ made_of q.folds streams one.op ∷ []) (numbered 1 packets ∷ []) q.streams

-- The stream with this number, where each packet is the list of its fields' words.
abbrev pub stream : TypedQuery → ℕ → List (List ℕ) → List Tuple
stream q number packets = tuples_at (all_streams q packets) number

-- what a groupby takes: a stream, the slots of its keys, a fold, and the slots of the fold's arguments
pub record Taking : Type 0 where
  pub input : ℕ
  pub keys : List ℕ
  pub fold_number : ℕ
  pub args : List ℕ

abbrev pub taking_of : TypedOp → Option Taking
taking_of (Filter input condition) = None
taking_of (Map input values) = None
taking_of (Zip left right slots) = None
taking_of (Group input keys f args) = Some (record { input = input; keys = keys; fold_number = f; args = args })

-- the groupbys among streams, in order
abbrev pub takings : List TypedStream → List Taking
takings streams = filter_map (λ one. taking_of one.op) streams
