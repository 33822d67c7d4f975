-- The rows of streams: the values of their columns, each by the packet, where the values come from, and the column's name.
use Rattle.std.proofs.Common.{◌≡◌, ℕ, zero, suc, ◌<◌, Bool, false, cond, eqb, List, [], ◌∷◌, ◌++◌, length, map, Option, Some, None, nat_eq}
use Rattle.std.proofs.{Common.{slice_index, refl, sym, ap, subst, ◌∙◌, arith}, lemmas.Bool.{eqb-true, or_parts}}
use Rattle.std.proofs.lemmas.{List.{map-append, length-map}, Option.same_Some}
use Rattle.std.specs.{Prelude.{filter, find, slice_get, if◌then◌else◌, ◌==◌}, List.cons_option}
use Rattle.query_lang.specs.declared.typed.TypedOp.TheVariants as typed
use Rattle.query_lang.specs.declared.typing.Origin.TheVariants as origin
use Rattle.query_lang.specs.Streams.{Tuple, values_at, expr_value, map_stream, zip_stream, group_stream, tuples_at, made_of}
use Rattle.query_laws.proofs.Terms.{TypedExpr, TypedFold, Origin, StreamColumn, is_among, columns_at}
use Rattle.query_laws.proofs.Steps.{nat_is, nat_is_not, by_test, by_cond, by_option}
use Rattle.query_laws.proofs.Views.{View, AreDistinct, AreBelow, mapped_columns, OfMap, OfZip, OfGroup}

-- the value of a column, by the number of a packet, where it comes from, and its name
abbrev pub Values : Type 0
Values = ℕ → Origin → ℕ → ℕ

abbrev pub row_of : Values → ℕ → View → List ℕ
row_of V packet view = map (λ column. V packet column.origin column.name) view

-- each row has the values of these columns
abbrev pub HaveValues : Values → View → List Tuple → Type 0
HaveValues V _ [] = Unit {0}
HaveValues V view (t ∷ tuples) = (t.row ≡ row_of V t.packet view) × HaveValues V view tuples

-- ---- slots

column_found : (V : Values) {packet : ℕ} (view : View) (slot : ℕ) → slot < length view
    → (c : StreamColumn) × (slice_get view slot ≡ Some c) × (slice_index (row_of V packet view) slot ≡ V packet c.origin c.name)
column_found V [] _ lt = absurd (omega (arith, lt))
column_found V (c ∷ _) zero _ = (c, refl, refl)
column_found V (c ∷ view) (suc slot) lt = column_found V view slot (omega (arith, lt))

-- the values in slots are those of the columns at these slots
values_picked : (V : Values) (packet : ℕ) (view : View) (slots : List ℕ) → AreBelow (length view) slots
    → values_at (row_of V packet view) slots ≡ row_of V packet (columns_at view slots)
values_picked V _ _ [] h = refl
values_picked V packet view (slot ∷ slots) h =
    let f = column_found V view slot h.0 in
    ap (λ n. n ∷ values_at (row_of V packet view) slots) f.2
    ∙ ap (λ l. V packet f.0.origin f.0.name ∷ l) (values_picked V packet view slots h.1)
    ∙ ap (λ o. row_of V packet (cons_option o (columns_at view slots))) (sym f.1)

-- ---- operators

filter_has : (V : Values) (view : View) (test : Tuple → Bool) (tuples : List Tuple) → HaveValues V view tuples
    → HaveValues V view (filter test tuples)
filter_has V _ _ [] h = tt
filter_has V view test (t ∷ tuples) h =
    let more = filter_has V view test tuples h.1 in by_test (test t) (λ is. rw is (h.0, more)) (λ is. rw is more)

map_has : (V : Values) (source new : View) (values : List TypedExpr)
    → ((packet : ℕ) → map (λ e. expr_value e (row_of V packet source)) values ≡ row_of V packet new)
    → (tuples : List Tuple) → HaveValues V source tuples → HaveValues V (source ++ new) (map_stream values tuples)
map_has V _ _ _ _ [] h = tt
map_has V source new values are (t ∷ tuples) h = (
  ap (λ row. row ++ map (λ e. expr_value e row) values) h.0 ∙ ap (λ l. row_of V t.packet source ++ l) (are t.packet)
      ∙ sym (map-append (λ column. V t.packet column.origin column.name) source new),
  map_has V source new values are tuples h.1,
)

find_has : (V : Values) (view : View) (packet : ℕ) (tuples : List Tuple) {other : Tuple} → HaveValues V view tuples
    → find (λ (t : Tuple). t.packet == packet) tuples ≡ Some other → other.row ≡ row_of V packet view
find_has V _ _ [] h e = cc e
find_has V view packet (t ∷ tuples) {other} h e = by_cond (eqb t.packet packet) e
    (λ is k. ap (λ (z : Tuple). z.row) (sym (same_Some t other k)) ∙ h.0 ∙ ap (λ n. row_of V n view) (eqb-true t.packet packet is))
    (λ _ k. find_has V view packet tuples h.1 k)

zip_has : (V : Values) (first second : View) (slots : List ℕ) → AreBelow (length second) slots
    → (right : List Tuple) → HaveValues V second right → (left : List Tuple) → HaveValues V first left
    → HaveValues V (first ++ columns_at second slots) (zip_stream slots left right)
zip_has V _ _ _ _ _ r [] l = tt
zip_has V first second slots below right r (t ∷ left) l =
    let more = zip_has V first second slots below right r left l.1 in
    by_option (find (λ (other : Tuple). other.packet == t.packet) right) (λ is. rw is more) (λ other is. rw is (
      ap (λ row. row ++ values_at other.row slots) l.0
          ∙ ap (λ row. row_of V t.packet first ++ values_at row slots) (find_has V second t.packet right r is)
          ∙ ap (λ row. row_of V t.packet first ++ row) (values_picked V t.packet second slots below)
          ∙ sym (map-append (λ column. V t.packet column.origin column.name) first (columns_at second slots)),
      more,
    ))

keys_have : (V : Values) (source : View) (keys : List ℕ) → AreBelow (length source) keys → (tuples : List Tuple)
    → HaveValues V source tuples
    → HaveValues V (columns_at source keys) (map (λ t. record { packet = t.packet; row = values_at t.row keys }) tuples)
keys_have V _ _ _ [] h = tt
keys_have V source keys below (t ∷ tuples) h =
    (ap (λ row. values_at row keys) h.0 ∙ values_picked V t.packet source keys below, keys_have V source keys below tuples h.1)

group_has : (V : Values) (source : View) (f : Option TypedFold) (keys args : List ℕ) → AreBelow (length source) keys
    → (tuples : List Tuple) → HaveValues V source tuples → HaveValues V (columns_at source keys) (group_stream f keys args tuples)
group_has V _ None _ _ _ _ h = tt
group_has V _ (Some f) _ _ below _ h = keys_have V _ _ below _ (filter_has V _ _ _ h)

-- ---- values by distinct names

-- the value beside a name
abbrev pub look : List ℕ → List ℕ → ℕ → ℕ
look [] _ _ = 0
look (_ ∷ _) [] _ = 0
look (name ∷ names) (v ∷ values) id = if nat_eq name id then v else look names values id

looks_past : (name v : ℕ) (names values list : List ℕ) → is_among name list ≡ false
    → map (λ id. look (name ∷ names) (v ∷ values) id) list ≡ map (λ id. look names values id) list
looks_past _ v _ _ [] h = refl
looks_past name v names values (x ∷ list) h =
    let parts = or_parts (nat_eq x name) _ h in
    let other : nat_eq name x ≡ false = grind (arith, parts.0) in
    rw other (ap (λ l. look names values x ∷ l) (looks_past name v names values list parts.1))

pub all_looked_up : (names values : List ℕ) → AreDistinct names → length names ≡ length values
    → map (λ id. look names values id) names ≡ values
all_looked_up [] [] d e = refl
all_looked_up [] (v ∷ _) d e = absurd (omega (arith, e))
all_looked_up (_ ∷ _) [] d e = absurd (omega (arith, e))
all_looked_up (name ∷ names) (v ∷ values) d e =
    ap (λ b. cond b v (look names values name) ∷ map (λ id. look (name ∷ names) (v ∷ values) id) names) (nat_is refl)
    ∙ ap (λ l. v ∷ l) (looks_past name v names values names d.0 ∙ all_looked_up names values d.1 (omega (arith, e)))

-- ---- the values that a `map` adds

-- these values with those of the `map` with this number
abbrev pub with_map : Values → ℕ → (ℕ → ℕ → ℕ) → Values
with_map V _ _ packet origin.Field id = V packet origin.Field id
with_map V number new packet (origin.Map m) id = if nat_eq m number then new packet id else V packet (origin.Map m) id

-- no values of the `map` with this number, or of a later one
abbrev IsEarlier : ℕ → Origin → Type 0
IsEarlier _ origin.Field = Unit {0}
IsEarlier number (origin.Map m) = m < number

abbrev pub AreEarlier : ℕ → View → Type 0
AreEarlier _ [] = Unit {0}
AreEarlier number (c ∷ view) = IsEarlier number c.origin × AreEarlier number view

earlier_later : (number : ℕ) (o : Origin) → IsEarlier number o → IsEarlier (suc number) o
earlier_later _ origin.Field h = tt
earlier_later _ (origin.Map m) h = omega (arith, h)

are_earlier_later : (number : ℕ) (view : View) → AreEarlier number view → AreEarlier (suc number) view
are_earlier_later _ [] h = tt
are_earlier_later number (c ∷ view) h = (earlier_later number c.origin h.0, are_earlier_later number view h.1)

both_earlier : (number : ℕ) (view more : View) → AreEarlier number view → AreEarlier number more → AreEarlier number (view ++ more)
both_earlier _ [] _ h k = k
both_earlier number (c ∷ view) more h k = (h.0, both_earlier number view more h.1 k)

mapped_earlier : (number : ℕ) (names : List ℕ) → AreEarlier (suc number) (mapped_columns number names)
mapped_earlier _ [] = tt
mapped_earlier number (_ ∷ names) = (omega arith, mapped_earlier number names)

earlier_at : (number : ℕ) (view : View) (slot : ℕ) (more : View) → AreEarlier number view → AreEarlier number more
    → AreEarlier number (cons_option (slice_get view slot) more)
earlier_at _ [] _ _ h k = k
earlier_at _ (c ∷ _) zero _ h k = (h.0, k)
earlier_at number (c ∷ view) (suc slot) more h k = earlier_at number view slot more h.1 k

picked_earlier : (number : ℕ) (view : View) (slots : List ℕ) → AreEarlier number view → AreEarlier number (columns_at view slots)
picked_earlier _ _ [] h = tt
picked_earlier number view (slot ∷ slots) h = earlier_at number view slot (columns_at view slots) h (picked_earlier number view slots h)

value_same : (V : Values) (number : ℕ) (new : ℕ → ℕ → ℕ) {packet : ℕ} (o : Origin) {id : ℕ} → IsEarlier number o
    → V packet o id ≡ with_map V number new packet o id
value_same V _ _ origin.Field h = refl
value_same V _ new {packet} (origin.Map m) {id} h =
    ap (λ b. cond b (new packet id) (V packet (origin.Map m) id)) (sym (nat_is_not (λ e. absurd (omega (arith, h, e)))))

row_same : (V : Values) (number : ℕ) (new : ℕ → ℕ → ℕ) (packet : ℕ) (view : View) → AreEarlier number view
    → row_of V packet view ≡ row_of (with_map V number new) packet view
row_same V _ _ _ [] h = refl
row_same V number new packet (c ∷ view) h = ap (λ n. n ∷ row_of V packet view) (value_same V number new c.origin h.0)
    ∙ ap (λ l. with_map V number new packet c.origin c.name ∷ l) (row_same V number new packet view h.1)

have_same : (V : Values) (number : ℕ) (new : ℕ → ℕ → ℕ) (view : View) (tuples : List Tuple) → AreEarlier number view
    → HaveValues V view tuples → HaveValues (with_map V number new) view tuples
have_same V _ _ _ [] e h = tt
have_same V number new view (t ∷ tuples) e h = (h.0 ∙ row_same V number new t.packet view e, have_same V number new view tuples e h.1)

-- the row of new columns has the new values
new_row : (V : Values) (number : ℕ) (new : ℕ → ℕ → ℕ) (packet : ℕ) (names : List ℕ)
    → map (λ id. new packet id) names ≡ row_of (with_map V number new) packet (mapped_columns number names)
new_row V _ _ _ [] = refl
new_row V number new packet (name ∷ names) =
    ap (λ b. cond b (new packet name) (V packet (origin.Map number) name) ∷ map (λ id. new packet id) names) (sym (nat_is refl))
    ∙ ap (λ l. with_map V number new packet (origin.Map number) name ∷ l) (new_row V number new packet names)

-- ---- all streams

-- streams with their columns, which were made before the stream with this number
abbrev pub AllHave : ℕ → Values → List View → List (List Tuple) → Type 0
AllHave _ V [] [] = Unit {0}
AllHave _ V [] (_ ∷ _) = ⊥
AllHave _ V (_ ∷ _) [] = ⊥
AllHave number V (view ∷ views) (tuples ∷ lists) = (AreEarlier number view × HaveValues V view tuples) × AllHave number V views lists

pub have_at : (number : ℕ) (V : Values) (views : List View) (lists : List (List Tuple)) (i : ℕ) {view : View} → AllHave number V views lists
    → slice_get views i ≡ Some view → AreEarlier number view × HaveValues V view (tuples_at lists i)
have_at _ V [] _ i h e = cc e
have_at _ V (v ∷ _) [] i h e = absurd h
have_at number V (v ∷ _) (l ∷ _) zero {view} h e = subst (λ z. AreEarlier number z × HaveValues V z l) (same_Some v view e) h.0
have_at number V (v ∷ views) (l ∷ lists) (suc i) h e = have_at number V views lists i h.1 e

have_last : (number : ℕ) (V : Values) (views : List View) (lists : List (List Tuple)) (view : View) (tuples : List Tuple)
    → AllHave number V views lists → AreEarlier (suc number) view → HaveValues V view tuples
    → AllHave (suc number) V (views ++ view ∷ []) (lists ++ tuples ∷ [])
have_last _ V [] [] _ _ h e k = ((e, k), tt)
have_last number V (v ∷ views) (l ∷ lists) view tuples h e k =
    ((are_earlier_later number v h.0.0, h.0.1), have_last number V views lists view tuples h.1 e k)
have_last _ _ _ _ _ _ h _ _ = absurd h

all_same : (V : Values) (number : ℕ) (new : ℕ → ℕ → ℕ) (views : List View) (lists : List (List Tuple)) → AllHave number V views lists
    → AllHave number (with_map V number new) views lists
all_same V _ _ [] [] h = tt
all_same V number new (v ∷ views) (l ∷ lists) h = ((h.0.0, have_same V number new v l h.0.0 h.0.1), all_same V number new views lists h.1)
all_same _ _ _ _ _ h = absurd h

abbrev pub OneMore : ℕ → List View → List (List Tuple) → View → List Tuple → Type 0
OneMore number views lists view tuples = (V : Values) × AllHave (suc number) V (views ++ view ∷ []) (lists ++ tuples ∷ [])

module _ (folds : List TypedFold) (number : ℕ) (V : Values) (views : List View) (lists : List (List Tuple))
    (h : AllHave number V views lists) where
  pub of_filter : (input : ℕ) (condition : TypedExpr) {view : View} → slice_get views input ≡ Some view
      → OneMore number views lists view (made_of folds lists (typed.Filter input condition))
  of_filter _ _ e =
      let source = have_at _ V _ _ _ h e in (V, have_last _ V _ _ _ _ h (are_earlier_later _ _ source.0) (filter_has V _ _ _ source.1))

  pub of_map : {input : ℕ} {values : List TypedExpr} {view : View} → OfMap views number input values view
      → OneMore number views lists view (made_of folds lists (typed.Map input values))
  of_map {input} {values} {view} m =
      let from = have_at number V views lists input h m.stream in (
        next,
        have_last number next views lists view _ (all_same V number new views lists h) (subst (AreEarlier (suc number)) (sym m.is)
            (both_earlier (suc number) m.source (mapped_columns number m.names) (are_earlier_later number m.source from.0)
            (mapped_earlier number m.names))) (subst (λ z. HaveValues next z (map_stream values (tuples_at lists input))) (sym m.is)
            (map_has next m.source (mapped_columns number m.names) values (are from.0) (tuples_at lists input)
            (have_same V number new m.source (tuples_at lists input) from.0 from.1))),
      )
    where
      results : ℕ → List ℕ
      results packet = map (λ e. expr_value e (row_of V packet m.source)) values

      new : ℕ → ℕ → ℕ
      new packet id = look m.names (results packet) id

      next : Values
      next = with_map V number new

      are : AreEarlier number m.source → (packet : ℕ)
          → map (λ e. expr_value e (row_of next packet m.source)) values ≡ row_of next packet (mapped_columns number m.names)
      are e packet = ap (λ row. map (λ e. expr_value e row) values) (sym (row_same V number new packet m.source e))
          ∙ sym (all_looked_up m.names (results packet) m.distinct (m.long
          ∙ sym (length-map values (λ e. expr_value e (row_of V packet m.source))))) ∙ new_row V number new packet m.names

  pub of_zip : {left right : ℕ} {slots : List ℕ} {view : View} (z : OfZip views left right slots view) → AreBelow (length z.second) slots
      → OneMore number views lists view (made_of folds lists (typed.Zip left right slots))
  of_zip {left} {right} {slots} z below =
      let one = have_at _ V _ _ _ h z.one in
      let other = have_at _ V _ _ _ h z.other in (
        V,
        have_last _ V _ _ _ _ h (subst (AreEarlier (suc number)) (sym z.is) (are_earlier_later _ _
            (both_earlier _ _ _ one.0 (picked_earlier _ _ _ other.0))))
            (subst (λ v. HaveValues V v (zip_stream slots (tuples_at lists left) (tuples_at lists right))) (sym z.is)
            (zip_has V _ _ _ below _ other.1 _ one.1)),
      )

  pub of_group : {input : ℕ} {keys : List ℕ} (f : ℕ) (args : List ℕ) {view : View} → OfGroup views input keys view
      → OneMore number views lists view (made_of folds lists (typed.Group input keys f args))
  of_group {input} {keys} f args g =
      let from = have_at _ V _ _ _ h g.stream in (
        V,
        have_last _ V _ _ _ _ h (subst (AreEarlier (suc number)) (sym g.is) (are_earlier_later _ _ (picked_earlier _ _ _ from.0)))
            (subst (λ v. HaveValues V v (group_stream (slice_get folds f) keys args (tuples_at lists input))) (sym g.is)
            (group_has V _ _ _ _ g.below _ from.1)),
      )
