-- The rows of all streams of a typed query.
use Rattle.std.proofs.Common.{◌≡◌, ℕ, zero, suc, ◌+◌, ◌-◌, ◌<◌, List, [], ◌∷◌, ◌++◌, length, map, Option, Some, None, Ok, refl, sym, ap}
use Rattle.std.proofs.{Common.{subst, ◌∙◌, append_assoc, append-nil, arith}, lemmas.List.{length_push, length-map}}
use Rattle.std.proofs.lemmas.Option.{same_Some, slice_get_within, get_or_from_slice_get}
use Rattle.std.specs.Prelude.{All, Contains, fold, slice_get, slice_index_or, unwrap_or}
use Rattle.marple_base.specs.declared.field.TheConstants.{FIELDS}
use Rattle.query_lang.specs.declared.typed.TypedOp.TheVariants as typed
use Rattle.query_lang.specs.declared.typing.Origin.TheVariants as origin
use Rattle.query_lang.specs.Streams.{Tuple, numbered, tuples_at, made_of, all_streams, stream}
use Rattle.query_laws.proofs.Terms.{TypedFold, Query, TypedOp, TypedQuery, TypedStream, StreamColumn, column_names, field_numbers, checked}
use Rattle.query_laws.proofs.{Typed.{field_view, viewed}, FieldColumns.fields_distinct}
use Rattle.query_laws.proofs.{Views.{View, AreDistinct, AreBelow, Makes, AreMade, others_below, columns_made}, Values.{Values, row_of}}
use Rattle.query_laws.proofs.Values.{HaveValues, look, all_looked_up, AreEarlier, AllHave, have_at, OneMore, of_filter, of_map, of_zip}
use Rattle.query_laws.proofs.Values.{of_group}
use Rattle.query_laws.specs.Columns.{columns_of}

-- ---- stream by stream

one_more : (folds : List TypedFold) (number : ℕ) (V : Values) (views : List View) (lists : List (List Tuple)) → AllHave number V views lists
    → (op : TypedOp) (view : View) → Makes views number op view → OneMore number views lists view (made_of folds lists op)
one_more folds number V views lists h (typed.Filter _ _) _ m = of_filter folds number V views lists h _ _ m
one_more folds number V views lists h (typed.Map _ _) _ m = of_map folds number V views lists h m
one_more folds number V views lists h (typed.Zip _ _ _) _ m = of_zip folds number V views lists h m
    (subst (AreBelow (length m.second)) (sym m.picked) (others_below (column_names m.first) m.second))
one_more folds number V views lists h (typed.Group _ _ f _) _ m = of_group folds number V views lists h f _ m

-- the streams that follow others
abbrev followed : List TypedFold → List (List Tuple) → List TypedStream → List (List Tuple)
followed folds lists streams = fold (λ lists one. lists ++ made_of folds lists one.op ∷ []) lists streams

all_have : (folds : List TypedFold) (streams : List TypedStream) (before views : List View) (lists : List (List Tuple)) (V : Values)
    → AllHave (length before) V before lists → AreMade before streams views
    → (W : Values) × AllHave (length (before ++ views)) W (before ++ views) (followed folds lists streams)
all_have _ [] before [] lists V h m = (V, subst (λ l. AllHave (length l) V l lists) (sym (append-nil before)) h)
all_have folds (one ∷ streams) before (view ∷ views) lists V h m =
    let next = one_more folds (length before) V before lists h one.op view m.0 in
    let made : List (List Tuple) = lists ++ made_of folds lists one.op ∷ [] in
    let long : suc (length before) ≡ length (before ++ view ∷ []) = omega (arith, length_push before view) in
    let more = all_have folds streams (before ++ view ∷ []) views made next.0
    (subst (λ n. AllHave n next.0 (before ++ view ∷ []) made) long next.1) m.2 in
    (more.0, subst (λ l. AllHave (length l) more.0 l (followed folds made streams)) (append_assoc before (view ∷ []) views) more.1)
all_have _ _ _ _ _ _ _ m = absurd m

-- ---- the packets

-- the words of the packet with this number
abbrev words_of : List (List ℕ) → ℕ → List ℕ
words_of packets packet = unwrap_or (slice_get packets (packet - 1)) []

abbrev field_values : List ℕ → List (List ℕ) → Values
field_values ids packets packet origin.Field id = look ids (words_of packets packet) id
field_values _ _ _ (origin.Map m) _ = 0

fields_row : (V : Values) (packet : ℕ) (ids : List ℕ)
    → row_of V packet (map (λ id. let column : StreamColumn = record { name = id; origin = origin.Field } in column) ids)
    ≡ map (λ id. V packet origin.Field id) ids
fields_row V _ [] = refl
fields_row V packet (id ∷ ids) = ap (λ l. V packet origin.Field id ∷ l) (fields_row V packet ids)

fields_earlier : (number : ℕ) (ids : List ℕ)
    → AreEarlier number (map (λ id. let column : StreamColumn = record { name = id; origin = origin.Field } in column) ids)
fields_earlier _ [] = tt
fields_earlier number (_ ∷ ids) = (tt, fields_earlier number ids)

numbered_have : (V : Values) (view : View) (n : ℕ) (packets : List (List ℕ))
    → ((k : ℕ) (words : List ℕ) → slice_get packets k ≡ Some words → words ≡ row_of V (n + k) view) → HaveValues V view (numbered n packets)
numbered_have V _ n [] _ = tt
numbered_have V view n (words ∷ packets) are = (
  are 0 words refl ∙ ap (λ m. row_of V m view) (let same : n + 0 ≡ n = omega arith in same),
  numbered_have V view (suc n) packets
      (λ k w e. are (suc k) w e ∙ ap (λ m. row_of V m view) (let same : n + suc k ≡ suc n + k = omega arith in same)),
)

packets_have : (names : List (List ℕ)) (packets : List (List ℕ)) → AreDistinct (field_numbers names)
    → All (λ words. length words ≡ FIELDS) packets
    → HaveValues (field_values (field_numbers names) packets) (field_view names) (numbered 1 packets)
packets_have names packets distinct whole = numbered_have V (field_view names) 1 packets are
  where
    ids : List ℕ
    ids = field_numbers names

    V : Values
    V = field_values ids packets

    are : (k : ℕ) (words : List ℕ) → slice_get packets k ≡ Some words → words ≡ row_of V (1 + k) (field_view names)
    are k words e =
        let long : length words ≡ FIELDS = ap length (sym (get_or_from_slice_get packets k words [] e))
        ∙ whole k [] (slice_get_within packets k words e) in
        let here : words_of packets (1 + k) ≡ words =
        ap (λ i. unwrap_or (slice_get packets i) []) (let same : (1 + k) - 1 ≡ k = omega arith in same) ∙ ap (λ o. unwrap_or o []) e in
        sym (fields_row V (1 + k) ids ∙ ap (λ w. map (λ id. look ids w id) ids) here ∙ all_looked_up ids words distinct (sym long))

-- ---- whole queries

-- the columns and values of all streams of a query
pub record HasRows (q : TypedQuery) (packets : List (List ℕ)) : Type 0 where
  pub views : List View
  pub made : AreMade (field_view q.names ∷ []) q.streams views
  pub values : Values
  pub have : AllHave (length (field_view q.names ∷ views)) values (field_view q.names ∷ views) (all_streams q packets)

pub has_rows : (query : Query) {q : TypedQuery} {packets : List (List ℕ)} → checked query ≡ Ok q
    → All (λ words. length words ≡ FIELDS) packets → HasRows q packets
has_rows query {q} {packets} e whole =
    let v = viewed query q e in
    let distinct = subst (λ names. AreDistinct (field_numbers names)) (sym v.names) (fields_distinct query.names) in
    let V : Values = field_values (field_numbers q.names) packets in
    let first : AllHave 1 V (field_view q.names ∷ []) (numbered 1 packets ∷ []) =
    ((fields_earlier 1 (field_numbers q.names), packets_have q.names packets distinct whole), tt) in
    let all = all_have q.folds q.streams (field_view q.names ∷ []) v.views (numbered 1 packets ∷ []) V first v.made in
    record { views = v.views; made = v.made; values = all.0; have = all.1 }

field_names : (ids : List ℕ)
    → ids ≡ column_names (map (λ id. let column : StreamColumn = record { name = id; origin = origin.Field } in column) ids)
field_names [] = refl
field_names (id ∷ ids) = ap (λ l. id ∷ l) (field_names _)

-- the names of a stream's columns
pub names_are : (q : TypedQuery) (views : List View) → AreMade (field_view q.names ∷ []) q.streams views
    → (number : ℕ) {view : View} → slice_get (field_view q.names ∷ views) number ≡ Some view → columns_of q number ≡ column_names view
names_are q _ _ zero {view} e = field_names _ ∙ ap column_names (same_Some (field_view q.names) view e)
names_are q _ made (suc i) e = ap (λ o. unwrap_or o []) (columns_made _ _ _ made i e)

-- a tuple of a stream has these values
pub row_in : (V : Values) (view : View) (tuples : List Tuple) {t : Tuple} → HaveValues V view tuples → Contains tuples t
    → t.row ≡ row_of V t.packet view
row_in V _ [] h c = absurd (omega (arith, c.1))
row_in V view (u ∷ tuples) {t} h c = go c.0 c.1 c.2 (λ k lt e. row_in V view tuples h.1 (k, lt, e))
  where
    go : (k : ℕ) → k < length (u ∷ tuples) → slice_index_or (u ∷ tuples) k t ≡ t
        → ((j : ℕ) → j < length tuples → slice_index_or tuples j t ≡ t → t.row ≡ row_of V t.packet view) → t.row ≡ row_of V t.packet view
    go zero _ e _ = subst (λ z. z.row ≡ row_of V z.packet view) e h.0
    go (suc k) lt e more = more k (omega (arith, lt)) e

-- ---- how long rows are

all_long : (V : Values) (view : View) {n : ℕ} (tuples : List Tuple) → n ≡ length view → HaveValues V view tuples
    → All (λ t. length t.row ≡ n) tuples
all_long V _ [] e h = λ k d lt. absurd (omega (arith, lt))
all_long V view {n} (t ∷ tuples) e h = go (all_long V view tuples e h.1)
  where
    go : All (λ t. length t.row ≡ n) tuples → All (λ t. length t.row ≡ n) (t ∷ tuples)
    go _ zero d _ = ap length h.0 ∙ length-map view (λ column. V t.packet column.origin column.name) ∙ sym e
    go more (suc k) d lt = more k d (omega (arith, lt))

none_past : (number : ℕ) (V : Values) (views : List View) (lists : List (List Tuple)) (i : ℕ) → AllHave number V views lists
    → slice_get views i ≡ None → tuples_at lists i ≡ []
none_past _ V [] [] i h e = refl
none_past _ V (v ∷ _) (l ∷ _) zero h e = cc e
none_past number V (v ∷ views) (l ∷ lists) (suc i) h e = none_past number V views lists i h.1 e
none_past _ _ _ _ _ h _ = absurd h

pub rows_fill : {q : TypedQuery} {packets : List (List ℕ)} → HasRows q packets → (number : ℕ)
    → All (λ t. length t.row ≡ length (columns_of q number)) (stream q number packets)
rows_fill {q} {packets} r number = go (slice_get (field_view q.names ∷ r.views) number) refl
  where
    all : List View
    all = field_view q.names ∷ r.views

    go : (o : Option View) → slice_get all number ≡ o → All (λ t. length t.row ≡ length (columns_of q number)) (stream q number packets)
    go None e = subst (All (λ t. length t.row ≡ length (columns_of q number)))
        (sym (none_past (length all) r.values all (all_streams q packets) number r.have e)) (λ k d lt. absurd (omega (arith, lt)))
    go (Some view) e = all_long r.values view (stream q number packets)
        (ap length (names_are q r.views r.made number e) ∙ length-map view (λ c. c.name))
        (have_at (length all) r.values all (all_streams q packets) number r.have e).1
