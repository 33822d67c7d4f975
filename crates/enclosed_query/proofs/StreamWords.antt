-- Streams over packets of words consist of words.
use Rattle.std.proofs.Common.{ℕ, zero, suc, List, [], ◌∷◌, ◌++◌, Option, Some, None, length, get_or, map, slice_index, Bool, true, false}
use Rattle.std.proofs.{Common.not, lemmas.List.Elements.{All-nil, All-cons, All-head, All-tail, All-append, All-filter, All-map, All-push}}
use Rattle.std.specs.{Prelude.{IfSome, fold, option_map, ◌==◌, if◌then◌else◌}, List.{All, cons_option, filter, filter_map, find, slice_get}}
use Rattle.epoch_entry.proofs.FoldLemmas.{word_at}
use Rattle.epoch_model.specs.Epochs.{Use}
use Rattle.query_lang.specs.declared.{fold.{TypedExpr.TypedExpr, TypedFold.TypedFold}, typed.TypedOp.TypedOp}
use Rattle.query_lang.specs.declared.typed.TypedOp.TheVariants as op
use Rattle.query_lang.specs.{declared.typed.{TypedQuery.TypedQuery, TypedStream.TypedStream}, Folds.{IsValidTerm, term_value}}
use Rattle.query_lang.specs.Streams.{Tuple, Taking, all_streams, emits_at, expr_value, group_stream, tuples_at, made_of, numbered, takings}
use Rattle.query_lang.specs.{Streams.values_at, Terms.{Term, Literal, Read, Negation, Operation, term_of}}
use Rattle.query_lang.specs.{TypedQueries.{IsValidOp, IsValidQuery, IsValidWord, AreValidStreams}, Words.{AreWords, IsWord, holds}}
use Rattle.query_lang.proofs.WordLemmas.{flag_word, op_word}
use Rattle.stage_plan.specs.Uses.{taken_by, use_of, uses}

abbrev HasWords : Tuple → Type 0
HasWords one = AreWords one.row

abbrev HaveWords : List Tuple → Type 0
HaveWords given = All HasWords given

values_words : (row slots : List ℕ) → AreWords row → AreWords (values_at row slots)
values_words row slots h = All-map IsWord (λ slot. slice_index row slot) slots (λ k d lt. word_at row (get_or slots k d) h)

term_words : (slots : ℕ) (e : Term) (row : List ℕ) → IsValidTerm slots e → AreWords row → IsWord (term_value e row)
term_words slots (Literal n) row v h = v
term_words slots (Read s) row v h = word_at row s h
term_words slots (Negation e) row v h = flag_word (not (holds (term_value e row)))
term_words slots (Operation o a b) row v h = op_word o (term_value a row) (term_value b row) (term_words slots a row v.0 h)
    (term_words slots b row v.1 h)

exprs_words : (slots : ℕ) (values : List TypedExpr) (row : List ℕ) → All (IsValidWord slots) values → AreWords row
    → AreWords (map (λ e. expr_value e row) values)
exprs_words slots values row v h =
    All-map IsWord (λ e. expr_value e row) values (λ k d lt. let valid =
    v k d lt in term_words slots (term_of (get_or values k d)) row valid.0.0 h)

packets_words : (number : ℕ) (packets : List (List ℕ)) → All AreWords packets → HaveWords (numbered number packets)
packets_words number [] h = All-nil HasWords
packets_words number (row ∷ packets) h =
    All-cons HasWords (record { packet = number; row = row }) (numbered (suc number) packets) (All-head AreWords row packets h)
    (packets_words (suc number) packets (All-tail AreWords row packets h))

-- the results of operators

found_words : (p : Tuple → Bool) (given : List Tuple) → HaveWords given → IfSome (find p given) HasWords
found_words p [] h = tt
found_words p (one ∷ given) h = by_case (p one) (All-head HasWords one given h) (found_words p given (All-tail HasWords one given h))
  where
    by_case : (b : Bool) → HasWords one → IfSome (find p given) HasWords → IfSome (if b then Some one else find p given) HasWords
    by_case true here later = here
    by_case false here later = later

joined_words : (slots : List ℕ) (left right : List Tuple) → HaveWords left → HaveWords right
    → HaveWords (filter_map (λ t. option_map (λ (other : Tuple). record { packet = t.packet; row = t.row ++ values_at other.row slots })
    (find (λ (other : Tuple). other.packet == t.packet) right)) left)
joined_words slots [] right hl hr = All-nil HasWords
joined_words slots (t ∷ left) right hl hr =
    by_other (filter_map (λ (one : Tuple). option_map (λ (other : Tuple). record
    { packet = one.packet; row = one.row ++ values_at other.row slots }) (find (λ (other : Tuple). other.packet == one.packet) right))
    left)
    (find (λ (other : Tuple). other.packet == t.packet) right) (found_words (λ (other : Tuple). other.packet == t.packet) right hr)
    (joined_words slots left right (All-tail HasWords t left hl) hr)
  where
    by_other : (rest : List Tuple) (o : Option Tuple) → IfSome o HasWords → HaveWords rest
        → HaveWords (cons_option (option_map (λ (other : Tuple). record { packet = t.packet; row = t.row ++ values_at other.row slots }) o)
        rest)
    by_other rest None none later = later
    by_other rest (Some other) has later =
        let made : Tuple = record { packet = t.packet; row = t.row ++ values_at other.row slots } in
        All-cons HasWords made rest (All-append IsWord t.row (values_at other.row slots) (All-head HasWords t left hl)
        (values_words other.row slots has)) later

keys_words : (o : Option TypedFold) (keys args : List ℕ) (input : List Tuple) → HaveWords input → HaveWords (group_stream o keys args input)
keys_words None keys args input h = All-nil HasWords
keys_words (Some f) keys args input h =
    let emitted = filter (λ (t : Tuple). emits_at f (values_at t.row args)) input in
    All-map HasWords (λ (t : Tuple). record { packet = t.packet; row = values_at t.row keys }) emitted
    (λ k d lt. values_words (get_or emitted k d).row keys (All-filter (λ (t : Tuple). emits_at f (values_at t.row args)) HasWords input h k
    d lt))

listed_words : (streams : List (List Tuple)) (number : ℕ) → All HaveWords streams → HaveWords (tuples_at streams number)
listed_words [] number h = All-nil HasWords
listed_words (given ∷ streams) zero h = All-head HaveWords given streams h
listed_words (given ∷ streams) (suc number) h = listed_words streams number (All-tail HaveWords given streams h)

made_words : (folds : List TypedFold) (before : List TypedStream) (width : ℕ) (streams : List (List Tuple)) (o : TypedOp)
    → IsValidOp folds before width o → All HaveWords streams → HaveWords (made_of folds streams o)
made_words folds before width streams (op.Filter input condition) v h =
    All-filter (λ (t : Tuple). holds (expr_value condition t.row)) HasWords (tuples_at streams input) (listed_words streams input h)
made_words folds before width streams (op.Map input values) v h =
    let given = tuples_at streams input in
    All-map HasWords (λ (t : Tuple). record { packet = t.packet; row = t.row ++ map (λ e. expr_value e t.row) values }) given
    (λ k d lt. let t = get_or given k d in let words = listed_words streams input h k d lt in
    All-append IsWord t.row (map (λ e. expr_value e t.row) values) words (exprs_words _ values t.row v.1.0 words))
made_words folds before width streams (op.Zip left right slots) v h = joined_words slots (tuples_at streams left) (tuples_at streams right)
    (listed_words streams left h) (listed_words streams right h)
made_words folds before width streams (op.Group input keys f args) v h =
    keys_words (slice_get folds f) keys args (tuples_at streams input) (listed_words streams input h)

streams_words : (names : ℕ) (folds : List TypedFold) (before rest : List TypedStream) (made : List (List Tuple))
    → AreValidStreams names folds before rest → All HaveWords made
    → All HaveWords (fold (λ streams (one : TypedStream). streams ++ made_of folds streams one.op ∷ []) made rest)
streams_words names folds before [] made valid h = h
streams_words names folds before (one ∷ rest) made valid h =
    let next = made_of folds made one.op in
    streams_words names folds (before ++ one ∷ []) rest (made ++ next ∷ []) valid.1
    (All-push HaveWords made next h (made_words folds before (length one.columns) made one.op valid.0.operator h))

-- The argument rows that a groupby takes consist of words.
pub uses_words : (q : TypedQuery) (i : ℕ) (packets : List (List ℕ)) → IsValidQuery q → All AreWords packets
    → All (λ (u : Use). AreWords u.row) (uses q i packets)
uses_words q i packets valid h = by_taking (slice_get (takings q.streams) i)
  where
    all : All HaveWords (all_streams q packets)
    all = streams_words (length q.names) q.folds [] q.streams (numbered 1 packets ∷ []) valid.streams
        (All-cons HaveWords (numbered 1 packets) [] (packets_words 1 packets h) (All-nil HaveWords))

    by_taking : (o : Option Taking) → All (λ (u : Use). AreWords u.row) (taken_by q packets o)
    by_taking None = All-nil (λ (u : Use). AreWords u.row)
    by_taking (Some t) =
        let given = tuples_at (all_streams q packets) t.input in
        All-map (λ (u : Use). AreWords u.row) (use_of t) given (λ k d lt. values_words (get_or given k d).row t.args
        (listed_words (all_streams q packets) t.input all k d lt))
