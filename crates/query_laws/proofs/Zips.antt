-- What a zip's rows have under the names of both streams.
use Rattle.std.proofs.Common.{◌≡◌, ℕ, zero, suc, ◌+◌, Bool, true, false, not, ◌&&◌, List, [], ◌∷◌, ◌++◌, length, Option, Some, None, nat_eq}
use Rattle.std.proofs.{Common.{slice_index, refl, sym, ap, subst, ◌∙◌, append_assoc, arith}, lemmas.{List.length_push, Option.same_Some}}
use Rattle.std.specs.{Prelude.{Contains, slice_get, option_map, if◌then◌else◌}, List.list_any}
use Rattle.query_lang.specs.declared.typing.Origin.TheVariants as origin
use Rattle.query_lang.specs.Streams.{Tuple, all_streams, stream}
use Rattle.query_laws.proofs.Terms.{Zip, TypedQuery, StreamColumn, is_among, place_from, column_names, same_origin, clashes_with, clash}
use Rattle.query_laws.proofs.{Terms.{others_from, columns_at}, Steps.{nat_same, nat_is, by_test, by_cond, by_option}, Typed.field_view}
use Rattle.query_laws.proofs.{Views.{View, ZipAt, zip_made}, Values.{Values, row_of, have_at}, Rows.{HasRows, names_are, row_in}}
use Rattle.query_laws.proofs.StreamLaws.{origin_same, same_where}
use Rattle.query_laws.specs.{Columns.{columns_of, operator_of, IsZip, value_under}, TupleLaws.{ColumnsAgree, ColumnsAreKept}}
use Rattle.std.proofs.lemmas.Bool.{or_parts}

-- ---- columns by their names

-- the first column of this name
abbrev named : View → ℕ → Option StreamColumn
named [] _ = None
named (c ∷ view) id = if nat_eq c.name id then Some c else named view id

abbrev value_of : Values → ℕ → Option StreamColumn → Option ℕ
value_of V packet o = option_map (λ c. V packet c.origin c.name) o

index_after : (front : List ℕ) {x : ℕ} (rest : List ℕ) → slice_index (front ++ x ∷ rest) (length front) ≡ x
index_after [] _ = refl
index_after (y ∷ front) rest = index_after front rest

value_from : (V : Values) (packet id : ℕ) (front : List ℕ) (view : View)
    → option_map (λ slot. slice_index (front ++ row_of V packet view) slot) (place_from (length front) (column_names view) id)
    ≡ value_of V packet (named view id)
value_from V _ _ _ [] = refl
value_from V packet id front (c ∷ view) =
    let x = V packet c.origin c.name in
    let whole : List ℕ = front ++ row_of V packet (c ∷ view) in
    by_test (nat_eq c.name id) (λ is. rw is (ap (λ n. Some n) (index_after front (row_of V packet view)))) (λ is. rw is (
    ap (λ n. option_map (λ slot. slice_index whole slot) (place_from n (column_names view) id)) (sym (length_push front x))
    ∙ ap (λ l. option_map (λ slot. slice_index l slot) (place_from (length (front ++ x ∷ [])) (column_names view) id))
    (sym (append_assoc front (x ∷ []) (row_of V packet view))) ∙ value_from V packet id (front ++ x ∷ []) view))

value_named : (V : Values) (packet id : ℕ) (view : View)
    → value_under id (column_names view) (row_of V packet view) ≡ value_of V packet (named view id)
value_named V packet id view = value_from V packet id [] view

-- ---- the columns of both streams

-- a column that is found has the name, and fails each test that no column passes
named_fails : (view : View) {id : ℕ} {c : StreamColumn} (test : StreamColumn → Bool) → named view id ≡ Some c → list_any test view ≡ false
    → (c.name ≡ id) × (test c ≡ false)
named_fails [] _ e h = cc e
named_fails (x ∷ view) {id} test e h =
    let none = or_parts (test x) _ h in
    by_cond (nat_eq x.name id) e (λ is k. subst (λ z. (z.name ≡ id) × (test z ≡ false)) (same_Some x _ k) (nat_same is, none.0))
    (λ _ k. named_fails view test k none.1)

-- columns of one name come from one place
columns_same : (first second : View) (id : ℕ) {c d : StreamColumn} → clash first second ≡ false → named first id ≡ Some c
    → named second id ≡ Some d → (c.name ≡ d.name) × (c.origin ≡ d.origin)
columns_same first second _ {c} {d} apart one other =
    let right = named_fails second (clashes_with first) other apart in
    let left = named_fails first (λ z. nat_eq z.name d.name && not (same_origin z.origin d.origin)) one right.1 in
    let name : c.name ≡ d.name = left.0 ∙ sym right.0 in (
      name,
      origin_same c.origin d.origin (same_where (nat_eq c.name d.name) (same_origin c.origin d.origin) (nat_is name) left.1),
    )

values_same : (V : Values) {packet : ℕ} (first second : View) (id : ℕ) {c d : StreamColumn} → clash first second ≡ false
    → named first id ≡ Some c → named second id ≡ Some d → V packet c.origin c.name ≡ V packet d.origin d.name
values_same V {packet} first second id {c} {d} apart one other =
    let same = columns_same first second id apart one other in
    ap (λ n. V packet c.origin n) same.0 ∙ ap (λ o. V packet o d.name) same.1

-- ---- the columns of the zip

abbrev kept : List ℕ → View → View
kept _ [] = []
kept names (c ∷ view) = if is_among c.name names then kept names view else (c ∷ kept names view)

others_are : (all : View) (at : ℕ) (names : List ℕ) (view : View) → ((k : ℕ) → slice_get all (at + k) ≡ slice_get view k)
    → columns_at all (others_from at names view) ≡ kept names view
others_are all _ _ [] _ = refl
others_are all at names (c ∷ view) are =
    let here : slice_get all at ≡ Some c = ap (slice_get all) (let same : at ≡ at + 0 = omega arith in same) ∙ are 0 in
    let more = others_are all (at + 1) names view (λ k. ap (slice_get all) (let same : (at + 1) + k ≡ at + suc k = omega arith in same)
    ∙ are (suc k)) in
    by_test (is_among c.name names) (λ is. rw is more) (λ is. rw (is, here, more))

named_front : (view more : View) (id : ℕ) {c : StreamColumn} → named view id ≡ Some c → named (view ++ more) id ≡ Some c
named_front [] _ _ e = cc e
named_front (x ∷ view) more id e = by_cond (nat_eq x.name id) e (λ is k. rw is k) (λ is k. rw is (named_front view more id k))

named_after : (view more : View) (id : ℕ) → named view id ≡ None → named (view ++ more) id ≡ named more id
named_after [] _ _ e = refl
named_after (x ∷ view) more id e = by_cond (nat_eq x.name id) e (λ _ k. cc k) (λ is k. rw is (named_after view more id k))

none_among : (view : View) (id : ℕ) → named view id ≡ None → is_among id (column_names view) ≡ false
none_among [] _ e = refl
none_among (x ∷ view) id e = by_cond (nat_eq x.name id) e (λ _ k. cc k) (λ is k. rw is (none_among view id k))

-- a column of another name than these is kept
named_kept : (names : List ℕ) (view : View) (id : ℕ) → is_among id names ≡ false → named (kept names view) id ≡ named view id
named_kept _ [] _ h = refl
named_kept names (c ∷ view) id h =
    let more = named_kept names view id h in
    by_test (is_among c.name names) (λ is. by_test (nat_eq c.name id) (λ same.
    let there : is_among id names ≡ true = ap (λ n. is_among n names) (sym (nat_same same)) ∙ is in cc (there, h)) (λ other.
    rw (is, other) more)) (λ is. by_test (nat_eq c.name id) (λ same. rw (is, same)) (λ other. rw (is, other) more))

zip_after : (first second : View) (id : ℕ) → named first id ≡ None
    → named (first ++ columns_at second (others_from 0 (column_names first) second)) id ≡ named second id
zip_after first second id e = named_after first (columns_at second (others_from 0 (column_names first) second)) id e
    ∙ ap (λ l. named l id) (others_are second 0 (column_names first) second
    (λ k. ap (slice_get second) (let same : 0 + k ≡ k = omega arith in same)))
    ∙ named_kept (column_names first) second id (none_among first id e)

-- ---- the laws, over columns

agree : (V : Values) (packet : ℕ) (first second : View) (id : ℕ) {a b : ℕ} → clash first second ≡ false
    → value_of V packet (named first id) ≡ Some a → value_of V packet (named second id) ≡ Some b → a ≡ b
agree V packet first second id apart l r = by_option (named first id) (λ is. cc (rw is at l)) (λ c is.
    by_option (named second id) (λ other. cc (rw other at r)) (λ d other.
    sym (same_Some _ _ (rw is at l)) ∙ values_same V first second id apart is other ∙ same_Some _ _ (rw other at r)))

keeps_first : (V : Values) (packet : ℕ) (first more : View) (id : ℕ) {v : ℕ} → value_of V packet (named first id) ≡ Some v
    → value_of V packet (named (first ++ more) id) ≡ Some v
keeps_first V packet first more id e = by_option (named first id) (λ is. cc (rw is at e))
    (λ c is. rw (named_front first more id is) (rw is at e))

keeps_second : (V : Values) (packet : ℕ) (first second : View) (id : ℕ) {v : ℕ} → clash first second ≡ false
    → value_of V packet (named second id) ≡ Some v
    → value_of V packet (named (first ++ columns_at second (others_from 0 (column_names first) second)) id) ≡ Some v
keeps_second V packet first second id apart e = by_option (named second id) (λ none. cc (rw none at e)) (λ d other.
    by_option (named first id) (λ is. rw (zip_after first second id is, other) (rw other at e)) (λ c is.
    rw (named_front first (columns_at second (others_from 0 (column_names first) second)) id is)
    (ap (λ n. Some n) (values_same V first second id apart is other) ∙ rw other at e)))

-- ---- and over streams

module _ (q : TypedQuery) (packets : List (List ℕ)) (r : HasRows q packets) where
  abbrev all : List View
  all = field_view q.names ∷ r.views

  -- what a tuple has under a name
  under : (number : ℕ) {view : View} {t : Tuple} (id : ℕ) → slice_get all number ≡ Some view → Contains (stream q number packets) t
      → value_under id (columns_of q number) t.row ≡ value_of r.values t.packet (named view id)
  under number {view} {t} id e c = ap (λ names. value_under id names t.row) (names_are q r.views r.made number e)
      ∙ ap (value_under id (column_names view))
      (row_in r.values view (stream q number packets) (have_at (length all) r.values all (all_streams q packets) number r.have e).1 c)
      ∙ value_named r.values t.packet id view

  zip_at : {number left right : ℕ} (z : IsZip q number left right) → ZipAt all number left right z.slots
  zip_at {number} {left} {right} z = go number z.is
    where
      go : (n : ℕ) → operator_of q n ≡ Some (Zip left right z.slots) → ZipAt all n left right z.slots
      go zero e = cc e
      go (suc i) e = subst (λ n. ZipAt all n left right z.slots) (let same : 1 + i ≡ suc i = omega arith in same)
          (zip_made _ _ _ r.made i e)

  pub columns_agree : (number left right : ℕ) → IsZip q number left right → ColumnsAgree q packets left right
  columns_agree _ left right z t u id a b in_left in_right same l m =
      let made = (zip_at z).made in
      agree r.values u.packet made.first made.second id made.apart
      (ap (λ packet. value_of r.values packet (named made.first id)) (sym same) ∙ sym (under left id made.one in_left) ∙ l)
      (sym (under right id made.other in_right) ∙ m)

  pub first_kept : (number left right : ℕ) → IsZip q number left right → ColumnsAreKept q packets left number
  first_kept number left _ z t u id v in_left in_zip same e =
      let at = zip_at z in
      let made = at.made in
      under number id at.stands in_zip ∙ ap (λ view. value_of r.values u.packet (named view id)) made.is
      ∙ keeps_first r.values u.packet made.first _ id
      (ap (λ packet. value_of r.values packet (named made.first id)) (sym same) ∙ sym (under left id made.one in_left) ∙ e)

  pub second_kept : (number left right : ℕ) → IsZip q number left right → ColumnsAreKept q packets right number
  second_kept number _ right z t u id v in_right in_zip same e =
      let at = zip_at z in
      let made = at.made in
      under number id at.stands in_zip ∙ ap (λ view. value_of r.values u.packet (named view id)) made.is
      ∙ ap (λ slots. value_of r.values u.packet (named (made.first ++ columns_at made.second slots) id)) made.picked
      ∙ keeps_second r.values u.packet made.first made.second id made.apart
      (ap (λ packet. value_of r.values packet (named made.second id)) (sym same) ∙ sym (under right id made.other in_right) ∙ e)
