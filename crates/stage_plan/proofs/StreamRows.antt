-- The streams of a query packet by packet: each has one row or none for a packet.
use Rattle.std.proofs.Common.{◌≡◌, ℕ, zero, suc, ◌+◌, ◌<◌, ◌≤◌, Bool, true, false, cond, eqb, List, [], ◌∷◌, ◌++◌, length, get_or, Some}
use Rattle.std.proofs.{Common.{None, Option, refl, sym, ap, ◌∙◌, inl, inr, arith, append_assoc}, lemmas.Bool.{cases_eq, cases_lt}}
use Rattle.std.proofs.lemmas.{Bool.Decides.nat_tests, Option.slice_get_past, List.length_push}
use Rattle.std.specs.{Prelude.{All, map, filter, find, fold, slice_get, option_map, unwrap_or, if◌then◌else◌, ◌==◌}, List.cons_option}
use Rattle.marple_base.specs.declared.field.TheConstants.{FIELDS}
use Rattle.epoch_model.specs.Driving.{Taken, uses_taken}
use Rattle.query_lang.specs.{Words.holds, declared.{fold.{TypedExpr.TypedExpr, TypedFold.TypedFold}, typed.TypedOp.TypedOp}}
use Rattle.query_lang.specs.declared.typed.{TypedOp.TheVariants.{Filter, Map, Zip, Group}, TypedQuery.TypedQuery, TypedStream.TypedStream}
use Rattle.query_lang.specs.Streams.{Tuple, numbered, values_at, expr_value, emits_at, filter_stream, map_stream, zip_stream, group_stream}
use Rattle.query_lang.specs.Streams.{tuples_at, made_of, stream, Taking, takings}
use Rattle.stage_plan.specs.Uses.{use_of, uses}
use Rattle.stage_plan.proofs.Lists.{slice_get-last}

abbrev pub Row : Type 0
Row = Option (List ℕ)

abbrev pub row_at : List Row → ℕ → Row
row_at rows number = unwrap_or (slice_get rows number) None

abbrev pub filter_row : TypedExpr → Row → Row
filter_row _ None = None
filter_row condition (Some row) = if holds (expr_value condition row) then Some row else None

abbrev pub map_row : List TypedExpr → Row → Row
map_row _ None = None
map_row values (Some row) = Some (row ++ map (λ e. expr_value e row) values)

abbrev pub zip_row : List ℕ → Row → Row → Row
zip_row _ None right = None
zip_row _ (Some _) None = None
zip_row slots (Some row) (Some other) = Some (row ++ values_at other slots)

abbrev pub emit_row : TypedFold → List ℕ → List ℕ → Row → Row
emit_row f _ _ None = None
emit_row f keys args (Some row) = if emits_at f (values_at row args) then Some (values_at row keys) else None

abbrev pub group_row : Option TypedFold → List ℕ → List ℕ → Row → Row
group_row None _ _ _ = None
group_row (Some f) keys args row = emit_row f keys args row

abbrev pub row_made : List TypedFold → List Row → TypedOp → Row
row_made _ rows (Filter input condition) = filter_row condition (row_at rows input)
row_made _ rows (Map input values) = map_row values (row_at rows input)
row_made _ rows (Zip left right slots) = zip_row slots (row_at rows left) (row_at rows right)
row_made folds rows (Group input keys f args) = group_row (slice_get folds f) keys args (row_at rows input)

-- the rows that follow others
abbrev pub rows_from : List TypedFold → List Row → List TypedStream → List Row
rows_from folds rows list = fold (λ rows one. rows ++ row_made folds rows one.op ∷ []) rows list

-- the rows of all streams for one packet
abbrev pub all_rows : TypedQuery → List ℕ → List Row
all_rows q words = rows_from q.folds (Some words ∷ []) q.streams

abbrev pub tuple_of : ℕ → Row → List Tuple
tuple_of n None = []
tuple_of n (Some row) = record { packet = n; row = row } ∷ []

-- the tuples of packets that have these rows
abbrev pub tuples : (List ℕ → Row) → ℕ → List (List ℕ) → List Tuple
tuples f n [] = []
tuples f n (words ∷ packets) = tuple_of n (f words) ++ tuples f (suc n) packets

pub same_tuples : (f g : List ℕ → Row) → ((words : List ℕ) → f words ≡ g words) → (n : ℕ) (packets : List (List ℕ))
    → tuples f n packets ≡ tuples g n packets
same_tuples f g _ n [] = refl
same_tuples f g same n (words ∷ packets) = cc (same words, same_tuples f g same (suc n) packets)

numbered_are : (n : ℕ) (packets : List (List ℕ)) → numbered n packets ≡ tuples (λ words. Some words) n packets
numbered_are n [] = refl
numbered_are n (words ∷ packets) = cc (numbered_are (suc n) packets)

both_ways : (P : Bool → Type 0) → P true → P false → (b : Bool) → P b
both_ways P holds fails true = holds
both_ways P holds fails false = fails

-- a stream makes of each tuple what is made of its row
abbrev IsOfRows : (List Tuple → List Tuple) → (Row → Row) → Type 0
IsOfRows stream row = (n : ℕ) (o : Row) (rest : List Tuple) → stream (tuple_of n o ++ rest) ≡ tuple_of n (row o) ++ stream rest

-- so it makes that of the tuples of packets
rows_are : (stream : List Tuple → List Tuple) (row : Row → Row) → stream [] ≡ [] → IsOfRows stream row → (f : List ℕ → Row) (n : ℕ)
    (packets : List (List ℕ)) → stream (tuples f n packets) ≡ tuples (λ words. row (f words)) n packets
rows_are _ _ none _ f n [] = none
rows_are stream row none more f n (words ∷ packets) =
    more n (f words) (tuples f (suc n) packets)
    ∙ ap (λ rest. tuple_of n (row (f words)) ++ rest) (rows_are stream row none more f (suc n) packets)

filter_are : (condition : TypedExpr) (f : List ℕ → Row) (n : ℕ) (packets : List (List ℕ)) →
    filter_stream condition (tuples f n packets) ≡ tuples (λ words. filter_row condition (f words)) n packets
filter_are condition = rows_are (filter_stream condition) (filter_row condition) refl go
  where
    go : IsOfRows (filter_stream condition) (filter_row condition)
    go n None rest = refl
    go n (Some row) rest = both_ways (λ b. cond b (record { packet = n; row = row } ∷ filter_stream condition rest)
        (filter_stream condition rest) ≡ tuple_of n (cond b (Some row) None) ++ filter_stream condition rest) refl refl
        (holds (expr_value condition row))

map_are : (values : List TypedExpr) (f : List ℕ → Row) (n : ℕ) (packets : List (List ℕ)) →
    map_stream values (tuples f n packets) ≡ tuples (λ words. map_row values (f words)) n packets
map_are values = rows_are (map_stream values) (map_row values) refl go
  where
    go : IsOfRows (map_stream values) (map_row values)
    go n None rest = refl
    go n (Some row) rest = refl

emit_are : (f : TypedFold) (keys args : List ℕ) (g : List ℕ → Row) (n : ℕ) (packets : List (List ℕ)) →
    group_stream (Some f) keys args (tuples g n packets) ≡ tuples (λ words. emit_row f keys args (g words)) n packets
emit_are f keys args = rows_are (group_stream (Some f) keys args) (emit_row f keys args) refl go
  where
    go : IsOfRows (group_stream (Some f) keys args) (emit_row f keys args)
    go n None rest = refl
    go n (Some row) rest = both_ways (λ b. map (λ t. record { packet = t.packet; row = values_at t.row keys })
        (cond b (record { packet = n; row = row } ∷ filter (λ t. emits_at f (values_at t.row args)) rest)
        (filter (λ t. emits_at f (values_at t.row args)) rest))
        ≡ tuple_of n (cond b (Some (values_at row keys)) None) ++ group_stream (Some f) keys args rest) refl refl
        (emits_at f (values_at row args))

none_are : (n : ℕ) (packets : List (List ℕ)) → [] ≡ tuples (λ words. None) n packets
none_are n [] = refl
none_are n (_ ∷ packets) = none_are (suc n) packets

group_are : (o : Option TypedFold) (keys args : List ℕ) (g : List ℕ → Row) (n : ℕ) (packets : List (List ℕ)) →
    group_stream o keys args (tuples g n packets) ≡ tuples (λ words. group_row o keys args (g words)) n packets
group_are None _ _ g n packets = none_are n packets
group_are (Some f) keys args g n packets = emit_are f keys args g n packets

-- the tuples of earlier packets
abbrev AreBefore : ℕ → List Tuple → Type 0
AreBefore n [] = Unit {0}
AreBefore n (t ∷ list) = (t.packet < n) × AreBefore n list

before_more : (n : ℕ) (list : List Tuple) (o : Row) → AreBefore n list → AreBefore (suc n) (list ++ tuple_of n o)
before_more n [] None h = tt
before_more n [] (Some _) h = (omega arith, tt)
before_more n (t ∷ list) o h = (omega (arith, h.0), before_more n list o h.1)

find_after : (n : ℕ) (list rest : List Tuple) → AreBefore n list → find (λ other. other.packet == n) (list ++ rest) ≡ find
    (λ other. other.packet == n) rest
find_after n [] _ h = refl
find_after n (t ∷ list) rest h =
    let other : eqb t.packet n ≡ false = (grind (arith, nat_tests)) in
    cc (find_after n list rest h.1)

find_later : (f : List ℕ → Row) (n m : ℕ) (packets : List (List ℕ)) → n < m → find (λ other. other.packet == n) (tuples f m packets) ≡ None
find_later f n m [] lt = refl
find_later f n m (words ∷ packets) lt = go _ (find_later f n (suc m) packets (omega arith))
  where
    go : (o : Row) → find (λ other. other.packet == n) (tuples f (suc m) packets) ≡ None
        → find (λ other. other.packet == n) (tuple_of m o ++ tuples f (suc m) packets) ≡ None
    go None rest = rest
    go (Some row) rest =
        let other : eqb m n ≡ false = grind (arith, nat_tests) in
        rw (other, rest)

find_here : (f : List ℕ → Row) (n : ℕ) (words : List ℕ) (packets : List (List ℕ)) →
    find (λ other. other.packet == n) (tuples f n (words ∷ packets)) ≡ option_map (λ row. record { packet = n; row = row }) (f words)
find_here f n words packets = go _
  where
    go : (o : Row) → find (λ other. other.packet == n) (tuple_of n o ++ tuples f (suc n) packets) ≡ option_map
        (λ row. record { packet = n; row = row }) o
    go None = find_later f n (suc n) packets (omega arith)
    go (Some row) =
        let here : eqb n n ≡ true = grind (arith, nat_tests) in
        rw here

zip_are : (slots : List ℕ) (f g : List ℕ → Row) (n : ℕ) (before : List Tuple) (packets : List (List ℕ)) → AreBefore n before →
    zip_stream slots (tuples f n packets) (before ++ tuples g n packets) ≡ tuples (λ words. zip_row slots (f words) (g words)) n packets
zip_are _ f g n _ [] h = refl
zip_are slots f g n before (words ∷ packets) h =
    go _ (zip_are slots f g (suc n) (before ++ tuple_of n (g words)) packets (before_more n _ _ h))
  where
    right : (before ++ tuple_of n (g words)) ++ tuples g (suc n) packets ≡ before ++ tuples g n (words ∷ packets)
    right = append_assoc before (tuple_of n (g words)) (tuples g (suc n) packets)

    found : find (λ other. other.packet == n) (before ++ tuples g n (words ∷ packets)) ≡ option_map
        (λ row. record { packet = n; row = row }) (g words)
    found = simp (find_after, find_here)

    go : (o : Row) → zip_stream slots (tuples f (suc n) packets) ((before ++ tuple_of n (g words)) ++ tuples g (suc n) packets) ≡ tuples
        (λ words. zip_row slots (f words) (g words)) (suc n) packets →
        zip_stream slots (tuple_of n o ++ tuples f (suc n) packets) (before ++ tuples g n (words ∷ packets)) ≡ tuple_of n
        (zip_row slots o (g words)) ++ tuples (λ words. zip_row slots (f words) (g words)) (suc n) packets
    go None rest = ap (zip_stream slots (tuples f (suc n) packets)) (sym right) ∙ rest
    go (Some row) rest = simp (found, last)
      where
        tail : zip_stream slots (tuples f (suc n) packets) (before ++ tuples g n (words ∷ packets)) ≡ tuples
            (λ words. zip_row slots (f words) (g words)) (suc n) packets
        tail = ap (zip_stream slots (tuples f (suc n) packets)) (sym right) ∙ rest

        last : (p : Row) → cons_option (option_map (λ (other : Tuple). record { packet = n; row = row ++ values_at other.row slots })
            (option_map (λ row. record { packet = n; row = row }) p)) (zip_stream slots (tuples f (suc n) packets)
            (before ++ tuples g n (words ∷ packets)))
            ≡ tuple_of n (zip_row slots (Some row) p) ++ tuples (λ words. zip_row slots (f words) (g words)) (suc n) packets
        last None = tail
        last (Some other) = rw tail

-- streams against their rows
pub record AreRows (packets : List (List ℕ)) (streams : List (List Tuple)) (rows : List ℕ → List Row) : Type 0 where
  pub long : (words : List ℕ) → length (rows words) ≡ length streams
  pub each : (j : ℕ) → tuples_at streams j ≡ tuples (λ words. row_at (rows words) j) 1 packets

rows_of_op : (folds : List TypedFold) (packets : List (List ℕ)) (streams : List (List Tuple)) (rows : List ℕ → List Row) (op : TypedOp)
    → AreRows packets streams rows → made_of folds streams op ≡ tuples (λ words. row_made folds (rows words) op) 1 packets
rows_of_op _ packets _ rows (Filter input condition) are = simp (are.each, filter_are)
rows_of_op _ packets _ rows (Map input values) are = simp (are.each, map_are)
rows_of_op _ packets streams rows (Zip left right slots) are =
    cc (
      are.each left,
      are.each right,
      zip_are slots (λ words. row_at (rows words) left) (λ words. row_at (rows words) right) 1 [] packets
          tt,
    )
rows_of_op folds packets _ rows (Group input keys f args) are = simp (are.each, group_are)

-- the item at a place of a list with one more
pub at_earlier : {A : Type 0} (xs : List A) (y d : A) (j : ℕ) → j < length xs
    → unwrap_or (slice_get (xs ++ y ∷ []) j) d ≡ unwrap_or (slice_get xs j) d
at_earlier [] y d j lt = absurd (omega arith)
at_earlier (x ∷ xs) y d zero lt = refl
at_earlier (x ∷ xs) y d (suc j) lt = at_earlier xs y d j (omega arith)

pub at_last : {A : Type 0} (xs : List A) (y d : A) (j : ℕ) → j ≡ length xs → unwrap_or (slice_get (xs ++ y ∷ []) j) d ≡ y
at_last xs y d j e = simp (e, slice_get-last)

pub at_past : {A : Type 0} (xs : List A) (d : A) (j : ℕ) → length xs ≤ j → unwrap_or (slice_get xs j) d ≡ d
at_past xs d j le = simp slice_get_past

rows_more : (packets : List (List ℕ)) (streams : List (List Tuple)) (rows : List ℕ → List Row) (made : List Tuple) (row : List ℕ → Row) →
    AreRows packets streams rows → made ≡ tuples row 1 packets → AreRows packets (streams ++ made ∷ [])
    (λ words. rows words ++ row words ∷ [])
rows_more packets streams rows made row are is = record {
  long = λ words. length_push (rows words) (row words) ∙ ap (λ n. n + 1) (are.long words) ∙ sym (length_push streams made);
  each = λ j. elim (cases_lt j (length streams)) [
    | inl lt ↦ at_earlier streams made [] j lt ∙ are.each j
        ∙ same_tuples (λ words. row_at (rows words) j) (λ words. row_at (rows words ++ row words ∷ []) j)
        (λ words. sym (at_earlier (rows words) (row words) None j (let l = are.long words in omega arith))) 1 packets
    | inr le ↦ elim (cases_eq j (length streams)) [
      | inl here ↦ at_last streams made [] j here ∙ is ∙ same_tuples row (λ words. row_at (rows words ++ row words ∷ []) j)
          (λ words. sym (at_last (rows words) (row words) None j (here ∙ sym (are.long words)))) 1 packets
      | inr past ↦ at_past (streams ++ made ∷ []) [] j (let l = length_push streams made in omega arith) ∙ none_are 1 packets
          ∙ same_tuples (λ words. None) (λ words. row_at (rows words ++ row words ∷ []) j)
          (λ words. sym (at_past (rows words ++ row words ∷ []) None j
          (let l = length_push (rows words) (row words) in let k = are.long words in omega arith))) 1 packets
    ]
  ];
}

rows_along : (folds : List TypedFold) (packets : List (List ℕ)) (list : List TypedStream) (streams : List (List Tuple))
    (rows : List ℕ → List Row) → AreRows packets streams rows →
    AreRows packets (fold (λ streams one. streams ++ made_of folds streams one.op ∷ []) streams list)
    (λ words. rows_from folds (rows words) list)
rows_along _ _ [] _ _ are = are
rows_along folds packets (one ∷ list) streams rows are = rows_along folds packets list (streams ++ made_of folds streams one.op ∷ [])
    (λ words. rows words ++ row_made folds (rows words) one.op ∷ []) (rows_more _ _ _ _ _ are (rows_of_op folds _ _ _ one.op are))

first_rows : (packets : List (List ℕ)) → AreRows packets (numbered 1 packets ∷ []) (λ words. Some words ∷ [])
first_rows packets = record {
  long = λ words. refl;
  each = first;
}
  where
    first : (j : ℕ) → tuples_at (numbered 1 packets ∷ []) j ≡ tuples (λ words. row_at (Some words ∷ []) j) 1 packets
    first zero = numbered_are 1 _
    first (suc j) = none_are 1 packets

-- a stream is its rows, packet by packet
pub stream_rows : (q : TypedQuery) (i : ℕ) (packets : List (List ℕ)) → stream q i packets ≡ tuples (λ words. row_at (all_rows q words) i) 1
    packets
stream_rows q i packets = (rows_along q.folds packets q.streams _ _ (first_rows _)).each i

-- what a groupby takes of a row
abbrev pub row_taken : Taking → List ℕ → Taken
row_taken t row = record { key = values_at row t.keys; row = values_at row t.args }

uses_along : (t : Taking) (f : List ℕ → Row) (g : List ℕ → Option Taken)
    → ((words : List ℕ) → length words ≡ FIELDS → option_map (row_taken t) (f words) ≡ g words) →
    (n : ℕ) (packets : List (List ℕ)) → ((k : ℕ) (d : List ℕ) → k < length packets → length (get_or packets k d) ≡ FIELDS) →
    map (use_of t) (tuples f n packets) ≡ uses_taken n (map g packets)
uses_along t f g _ n [] _ = refl
uses_along t f g same n (words ∷ packets) all =
    go _ (same words (all 0 [] (omega arith))) (uses_along t f g same (suc n) packets (λ k d lt. all (suc k) d (omega arith)))
  where
    go : (o : Row) → option_map (row_taken t) o ≡ g words → map (use_of t) (tuples f (suc n) packets) ≡ uses_taken (suc n) (map g packets) →
        map (use_of t) (tuple_of n o ++ tuples f (suc n) packets) ≡ uses_taken n (g words ∷ map g packets)
    go None e rest = rest ∙ ap (λ z. uses_taken n (z ∷ map g packets)) e
    go (Some row) e rest = ap (λ l. record { packet = n; key = values_at row t.keys; row = values_at row t.args } ∷ l) rest
        ∙ ap (λ z. uses_taken n (z ∷ map g packets)) e

-- what a groupby takes, packet by packet
pub uses_are : (q : TypedQuery) (i : ℕ) (t : Taking) (g : List ℕ → Option Taken) → slice_get (takings q.streams) i ≡ Some t →
    ((words : List ℕ) → length words ≡ FIELDS → option_map (row_taken t) (row_at (all_rows q words) t.input) ≡ g words) →
    (packets : List (List ℕ)) → All (λ words. length words ≡ FIELDS) packets → uses q i packets ≡ uses_taken 1 (map g packets)
uses_are q i t g found same packets all =
    cc (stream_rows q t.input packets, uses_along t (λ words. row_at (all_rows q words) t.input) g same 1 packets all)
