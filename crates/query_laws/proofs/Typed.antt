-- The streams of a typed query and the columns that the checks know of them.
use Rattle.std.proofs.Common.{◌≡◌, ℕ, zero, suc, ◌+◌, ◌<◌, Bool, true, false, ◌||◌, List, [], ◌∷◌, ◌++◌, length, map, Option, Some, None}
use Rattle.std.proofs.{Common.{Ok, nat_eq, refl, sym, ap, subst, ◌∙◌, arith}, lemmas.{Bool.or_parts, List.length_push}}
use Rattle.std.proofs.lemmas.List.Folds.{list_any-append}
use Rattle.std.specs.Prelude.{slice_get}
use Rattle.query_lang.specs.declared.query.Item.TheVariants as item
use Rattle.query_lang.specs.declared.query.StreamOp.TheVariants as ops
use Rattle.query_lang.specs.declared.typed.TypedOp.TheVariants as typed
use Rattle.query_lang.specs.declared.typing.Meaning.TheVariants as meaning
use Rattle.query_lang.specs.declared.typing.Origin.TheVariants as origin
use Rattle.query_laws.proofs.Terms.{Column, FinalDef, FoldDef, Item, Name, Query, StreamDef, StreamOp, TypedQuery, Earlier, Given, Known}
use Rattle.query_laws.proofs.Terms.{MadeStream, Meaning, NewColumns, StreamView, is_among, word_of, fold_checked, meaning_of, as_stream}
use Rattle.query_laws.proofs.Terms.{stream_named, column_names, new_columns, no_new_columns, mapped, next_stream, made_stream, with_stream}
use Rattle.query_laws.proofs.Terms.{begun, stream_checked, table_named, made_final, final_checked, typed_names, field_numbers, given_of}
use Rattle.query_laws.proofs.Terms.{start_of, fold_added, print_checked, item_checked, items_checked, ended, checked, StandsAt}
use Rattle.query_laws.proofs.Steps.{must_ok, must_not_ok, same_ok, found_first, nat_other, nat_is_not, by_cond}
use Rattle.query_laws.proofs.Views.{View, AreDistinct, mapped_columns, Makes, AreMade, made_long, made_last, get_front, get_after}
use Rattle.query_laws.proofs.{StreamLaws.{made_stream_sound, zip_is, group_is, all_same_complete}, NameLaws.stream_complete}
use Rattle.query_laws.proofs.ColumnLaws.{slots_within}

-- ---- what names stand for

-- a name of a stream gives its columns
abbrev pub TellsColumns : List View → Meaning → Type 0
TellsColumns views (meaning.Stream s) = slice_get views s.number ≡ Some s.columns
TellsColumns _ (meaning.Fold f) = Unit {0}
TellsColumns _ (meaning.Final t) = Unit {0}

abbrev pub AllTell : List View → List Known → Type 0
AllTell _ [] = Unit {0}
AllTell views (one ∷ known) = TellsColumns views one.meaning × AllTell views known

tell_last : (views : List View) (known : List Known) (one : Known) → AllTell views known → TellsColumns views one.meaning
    → AllTell views (known ++ one ∷ [])
tell_last _ [] _ h k = (k, tt)
tell_last views (_ ∷ known) one h k = (h.0, tell_last views known one h.1 k)

tells_more : (views : List View) (view : View) (m : Meaning) → TellsColumns views m → TellsColumns (views ++ view ∷ []) m
tells_more views view (meaning.Stream s) h = get_front views (view ∷ []) s.number h
tells_more _ _ (meaning.Fold f) h = tt
tells_more _ _ (meaning.Final t) h = tt

tell_more : (views : List View) (view : View) (known : List Known) → AllTell views known → AllTell (views ++ view ∷ []) known
tell_more _ _ [] h = tt
tell_more views view (one ∷ known) h = (tells_more views view one.meaning h.0, tell_more views view known h.1)

tells_of : (views : List View) (known : List Known) (id : ℕ) {m : Meaning} → AllTell views known → meaning_of known id ≡ Some m
    → TellsColumns views m
tells_of _ [] _ h e = cc e
tells_of views (one ∷ known) id h e =
    by_cond (nat_eq one.name id) e (λ _ k. subst (TellsColumns views) (cc k) h.0) (λ _ k. tells_of views known id h.1 k)

-- the columns of a stream that is named
columns_named : (views : List View) (known : List Known) (name : Name) {s : StreamView} → AllTell views known
    → stream_named known name ≡ Ok s → slice_get views s.number ≡ Some s.columns
columns_named views known name {s} h e = go (meaning_of known name.id) (λ m k. tells_of _ _ _ h k) e
  where
    go : (o : Option Meaning) → ((m : Meaning) → o ≡ Some m → TellsColumns views m) → as_stream o name.span ≡ Ok s
        → slice_get views s.number ≡ Some s.columns
    go None _ k = cc k
    go (Some (meaning.Stream x)) told k = subst (λ z. slice_get views z.number ≡ Some z.columns) (same_ok x s k)
        (told (meaning.Stream x) refl)
    go (Some (meaning.Fold f)) _ k = cc k
    go (Some (meaning.Final t)) _ k = cc k

-- ---- the names of new columns

last_of_three : (a b : Bool) {c : Bool} → (a || (b || c)) ≡ false → c ≡ false
last_of_three true b e = cc e
last_of_three false true e = cc e
last_of_three false false e = e

not_last : (id x : ℕ) (names : List ℕ) → is_among id names ≡ false → nat_eq x id ≡ false → is_among id (names ++ x ∷ []) ≡ false
not_last id x names h k =
    list_any-append (λ name. nat_eq name id) names (x ∷ []) ∙ ap (λ b. b || (nat_eq x id || false)) h ∙ ap (λ b. b || false) k

distinct_last : (names : List ℕ) (id : ℕ) → AreDistinct names → is_among id names ≡ false → AreDistinct (names ++ id ∷ [])
distinct_last [] _ h k = (refl, tt)
distinct_last (n ∷ names) id h k =
    let parts = or_parts (nat_eq n id) _ k in
    (not_last n id names h.0 (nat_is_not (λ same. nat_other parts.0 (sym same))), distinct_last names id h.1 parts.1)

-- the names of new columns are distinct, and there is a name for each value
new_distinct : (columns hidden : List ℕ) (new : List Column) (made : NewColumns) {all : NewColumns} → AreDistinct made.names
    → length made.names ≡ length made.values
    → new_columns columns hidden made new ≡ Ok all → AreDistinct all.names × (length all.names ≡ length all.values)
new_distinct _ _ [] _ d long e = subst (λ z. AreDistinct z.names × (length z.names ≡ length z.values)) (same_ok _ _ e) (d, long)
new_distinct columns hidden (c ∷ new) made {all} d long e =
    let free = must_not_ok _ _ _ e in
    let value = found_first (word_of columns hidden c.value) _ all free.1 in
    let more : NewColumns = record { names = made.names ++ c.name.id ∷ []; values = made.values ++ value.0 ∷ [] } in
    new_distinct columns hidden new more (distinct_last made.names c.name.id d
    (last_of_three (is_among c.name.id columns) (is_among c.name.id hidden) free.0))
    (length_push made.names c.name.id ∙ ap (λ n. n + 1) long ∙ sym (length_push made.values value.0)) value.2

-- ---- places in columns

pub stands_below : (columns : List ℕ) (slot id : ℕ) → StandsAt columns slot id → slot < length columns
stands_below [] _ _ h = absurd h
stands_below (_ ∷ _) zero _ h = omega arith
stands_below (_ ∷ columns) (suc slot) id h = omega (arith, stands_below columns slot id h.1)

-- ---- operators

abbrev MadeOf : List View → Earlier → MadeStream → Type 0
MadeOf views earlier made = Makes views (next_stream earlier) made.op made.columns

made_as : (views : List View) (earlier : Earlier) {m made : MadeStream} → m ≡ made → MadeOf views earlier m → MadeOf views earlier made
made_as views earlier e h = subst (MadeOf views earlier) e h

abbrev maps_to : ℕ → StreamView → NewColumns → MadeStream
maps_to number source new = record {
  op = typed.Map source.number new.values;
  columns = source.columns ++ mapped_columns number new.names;
  hidden = source.hidden;
  table = None;
}

module _ (views : List View) (earlier : Earlier) (told : AllTell views earlier.known) where
  map_made : (input : Name) (columns : List Column) {made : MadeStream} → mapped earlier input columns ≡ Ok made → MadeOf views earlier made
  map_made input columns {made} h =
      let source = found_first (stream_named earlier.known input) _ made h in
      let new = found_first (new_columns (column_names source.0.columns) source.0.hidden no_new_columns columns) _ made source.2 in
      let names = new_distinct (column_names source.0.columns) source.0.hidden columns no_new_columns tt refl new.1 in
      made_as views earlier (same_ok (maps_to (next_stream earlier) source.0 new.0) made new.2) (record {
        source = source.0.columns;
        names = new.0.names;
        stream = columns_named views earlier.known input told source.1;
        distinct = names.0;
        long = names.1;
        is = refl;
      })

  stream_made : (five : List ℕ) (name : Name) (op : StreamOp) {made : MadeStream} → made_stream five earlier name op ≡ Ok made
      → MadeOf views earlier made
  stream_made five name (ops.Filter input e) is =
      let h = made_stream_sound five earlier name (ops.Filter input e) is in
      subst (MadeOf views earlier) (sym h.is) (columns_named views earlier.known input told (stream_complete _ _ h.stream))
  stream_made _ _ (ops.Map _ _) h = map_made _ _ h
  stream_made five name (ops.Zip first second) {made} is =
      let h = made_stream_sound five earlier name (ops.Zip first second) is in
      subst (MadeOf views earlier) (sym (zip_is first second made h)) (record {
        first = h.left.columns;
        second = h.right.columns;
        one = columns_named views earlier.known first told (stream_complete _ _ h.one);
        other = columns_named views earlier.known second told (stream_complete _ _ h.other);
        apart = all_same_complete _ _ h.same;
        picked = refl;
        is = refl;
      })
  stream_made five name (ops.Group input keys fold_name) {made} is =
      let h = made_stream_sound five earlier name (ops.Group input keys fold_name) is in
      subst (MadeOf views earlier) (sym (group_is input keys fold_name made h)) (record {
        source = h.source.columns;
        stream = columns_named views earlier.known input told (stream_complete _ _ h.stream);
        below = slots_within _ _ _ h.picked.places;
        is = refl;
      })

-- ---- items

-- the columns of the streams so far, after those of the packets
pub record HasViews (fields : View) (earlier : Earlier) : Type 0 where
  pub views : List View
  pub made : AreMade (fields ∷ []) earlier.streams views
  pub told : AllTell (fields ∷ views) earlier.known

module _ (fields : View) where
  one_more : {earlier : Earlier} (name : Name) (made : MadeStream) (h : HasViews fields earlier) → MadeOf (fields ∷ h.views) earlier made
      → HasViews fields (with_stream earlier name made)
  one_more {earlier} name made h k =
      let long : next_stream earlier ≡ length (fields ∷ h.views) = omega (arith, made_long (fields ∷ []) earlier.streams h.views h.made)
      in record {
        views = h.views ++ made.columns ∷ [];
        made = made_last (fields ∷ []) earlier.streams h.views (record { name = name; columns = column_names made.columns; op = made.op })
            made.columns h.made (subst (λ n. Makes (fields ∷ h.views) n made.op made.columns) long k) refl;
        told = tell_last (fields ∷ h.views ++ made.columns ∷ []) earlier.known _
            (tell_more (fields ∷ h.views) made.columns earlier.known h.told) (get_after (fields ∷ h.views) [] (next_stream earlier) long);
      }

  stream_item : (five : List ℕ) (d : StreamDef) {earlier more : Earlier} → HasViews fields earlier → stream_checked five earlier d ≡ Ok more
      → HasViews fields more
  stream_item five d {earlier} {more} h e =
      let start = found_first (begun earlier d.name) _ more e in
      let made = found_first (made_stream five earlier d.name d.op) _ more start.2 in
      subst (HasViews fields) (same_ok _ more made.2)
      (one_more d.name made.0 h (stream_made (fields ∷ h.views) earlier h.told five d.name d.op made.1))

  fold_item : (d : FoldDef) {earlier more : Earlier} → HasViews fields earlier → fold_added earlier d ≡ Ok more → HasViews fields more
  fold_item d {earlier} {more} h e =
      let free = must_not_ok _ _ _ e in
      let f = found_first (fold_checked d) _ more free.1 in
      subst (HasViews fields) (same_ok _ more f.2)
      (record { views = h.views; made = h.made; told = tell_last (fields ∷ h.views) earlier.known _ h.told tt })

  final_item : (given : Given) (d : FinalDef) {earlier more : Earlier} → HasViews fields earlier → final_checked given earlier d ≡ Ok more
      → HasViews fields more
  final_item given d {earlier} {more} h e =
      let start = found_first (begun earlier d.name) _ more e in
      let made = found_first (made_final given earlier d.op) _ more start.2 in
      subst (HasViews fields) (same_ok _ more made.2)
      (record { views = h.views; made = h.made; told = tell_last (fields ∷ h.views) earlier.known _ h.told tt })

  print_item : (name : Name) {earlier more : Earlier} → HasViews fields earlier → print_checked earlier name ≡ Ok more
      → HasViews fields more
  print_item name {earlier} {more} h e =
      let table = found_first (table_named earlier.known name) _ more e in
      let once = must_not_ok _ _ _ table.2 in
      subst (HasViews fields) (same_ok _ more once.1) (record { views = h.views; made = h.made; told = h.told })

  one_item : (given : Given) (i : Item) {earlier more : Earlier} → HasViews fields earlier → item_checked given earlier i ≡ Ok more
      → HasViews fields more
  one_item _ (item.Fold d) h e = fold_item d h e
  one_item _ (item.Stream d) h e = stream_item _ d h e
  one_item given (item.Final d) h e = final_item given d h e
  one_item _ (item.Print _) h e = print_item _ h e

  all_items : (given : Given) (items : List Item) {earlier all : Earlier} → HasViews fields earlier
      → items_checked given earlier items ≡ Ok all → HasViews fields all
  all_items _ [] h e = subst (HasViews fields) (same_ok _ _ e) h
  all_items given (i ∷ items) {earlier} {all} h e =
      let first = found_first (item_checked given earlier i) _ all e in
      all_items given items (one_item given i h first.1) first.2

-- ---- whole queries

-- the columns of `pktstream`
abbrev pub field_view : List (List ℕ) → View
field_view names = map (λ id. record { name = id; origin = origin.Field }) (field_numbers names)

-- the columns of a query's streams
pub record IsViewed (query : Query) (q : TypedQuery) : Type 0 where
  pub views : List View
  pub names : q.names ≡ typed_names query.names
  pub made : AreMade (field_view q.names ∷ []) q.streams views

pub viewed : (query : Query) (q : TypedQuery) → checked query ≡ Ok q → IsViewed query q
viewed query q e =
    let names = typed_names query.names in
    let fields = field_view names in
    let given = given_of names query.items in
    let all = found_first (items_checked given (start_of names) query.items) (ended names query.end) q e in
    let prints = must_ok _ _ _ all.2 in
    let h = all_items fields given query.items (record { views = []; made = tt; told = (refl, tt) }) all.1 in
    subst (IsViewed query) (same_ok _ q prints.1) (record { views = h.views; names = refl; made = h.made })
