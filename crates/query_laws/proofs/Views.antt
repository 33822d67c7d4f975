-- The columns of streams and where their values come from, as the operators make them.
use Rattle.std.proofs.Common.{◌≡◌, ℕ, zero, suc, ◌+◌, ◌<◌, false, List, [], ◌∷◌, ◌++◌, length, map, Some, refl, sym, ap, subst, ◌∙◌}
use Rattle.std.proofs.{Common.{append_assoc, append-nil, arith}, lemmas.{List.length_push, Option.same_Some}}
use Rattle.std.specs.Prelude.{slice_get, option_map}
use Rattle.query_lang.specs.declared.typed.TypedOp.TheVariants as typed
use Rattle.query_lang.specs.declared.typing.Origin.TheVariants as origin
use Rattle.query_laws.proofs.Terms.{TypedExpr, TypedOp, TypedStream, StreamColumn, is_among, column_names, others_from, columns_at, clash}
use Rattle.query_laws.proofs.Steps.{by_test}

abbrev pub View : Type 0
View = List StreamColumn

abbrev pub AreDistinct : List ℕ → Type 0
AreDistinct [] = Unit {0}
AreDistinct (id ∷ ids) = (is_among id ids ≡ false) × AreDistinct ids

-- these slots are below this bound
abbrev pub AreBelow : ℕ → List ℕ → Type 0
AreBelow n [] = Unit {0}
AreBelow n (slot ∷ slots) = (slot < n) × AreBelow n slots

-- the columns of these names that the `map` with this number makes
abbrev pub mapped_columns : ℕ → List ℕ → View
mapped_columns number names = map (λ name. record { name = name; origin = origin.Map number }) names

pub record OfMap (views : List View) (number input : ℕ) (values : List TypedExpr) (view : View) : Type 0 where
  pub source : View
  pub names : List ℕ
  pub stream : slice_get views input ≡ Some source
  pub distinct : AreDistinct names
  pub long : length names ≡ length values
  pub is : view ≡ source ++ mapped_columns number names

pub record OfZip (views : List View) (left right : ℕ) (slots : List ℕ) (view : View) : Type 0 where
  pub first : View
  pub second : View
  pub one : slice_get views left ≡ Some first
  pub other : slice_get views right ≡ Some second
  pub apart : clash first second ≡ false
  pub picked : slots ≡ others_from 0 (column_names first) second
  pub is : view ≡ first ++ columns_at second slots

pub record OfGroup (views : List View) (input : ℕ) (keys : List ℕ) (view : View) : Type 0 where
  pub source : View
  pub stream : slice_get views input ≡ Some source
  pub below : AreBelow (length source) keys
  pub is : view ≡ columns_at source keys

-- the operator of the stream with this number makes these columns of those of other streams
abbrev pub Makes : List View → ℕ → TypedOp → View → Type 0
Makes views _ (typed.Filter input _) view = slice_get views input ≡ Some view
Makes views number (typed.Map input values) view = OfMap views number input values view
Makes views _ (typed.Zip left right slots) view = OfZip views left right slots view
Makes views _ (typed.Group input keys f _) view = OfGroup views input keys view

-- streams, each made of those before it
abbrev pub AreMade : List View → List TypedStream → List View → Type 0
AreMade _ [] [] = Unit {0}
AreMade _ [] (_ ∷ _) = ⊥
AreMade _ (_ ∷ _) [] = ⊥
AreMade before (one ∷ streams) (view ∷ views) =
    Makes before (length before) one.op view × (one.columns ≡ column_names view) × AreMade (before ++ view ∷ []) streams views

pub made_long : (before : List View) (streams : List TypedStream) (views : List View) → AreMade before streams views
    → length views ≡ length streams
made_long _ [] [] h = refl
made_long before (_ ∷ streams) (view ∷ views) h = ap suc (made_long (before ++ view ∷ []) streams views h.2)
made_long _ _ _ h = absurd h

pub made_last : (before : List View) (streams : List TypedStream) (views : List View) (one : TypedStream) (view : View)
    → AreMade before streams views → Makes (before ++ views) (length (before ++ views)) one.op view → one.columns ≡ column_names view
    → AreMade before (streams ++ one ∷ []) (views ++ view ∷ [])
made_last before [] [] one view h k e = (subst (λ l. Makes l (length l) one.op view) (append-nil before) k, e, tt)
made_last before (s ∷ streams) (v ∷ views) one view h k e = (
  h.0,
  h.1,
  made_last (before ++ v ∷ []) streams views one view h.2
      (subst (λ l. Makes l (length l) one.op view) (sym (append_assoc before (v ∷ []) views)) k) e,
)
made_last _ _ _ _ _ h _ _ = absurd h

-- ---- places in lists

pub get_front : {A : Type 0} (xs ys : List A) (n : ℕ) {x : A} → slice_get xs n ≡ Some x → slice_get (xs ++ ys) n ≡ Some x
get_front [] _ n e = cc e
get_front (z ∷ _) _ zero e = e
get_front (z ∷ xs) ys (suc n) e = get_front xs ys n e

pub get_after : {A : Type 0} (xs : List A) {y : A} (ys : List A) (n : ℕ) → n ≡ length xs → slice_get (xs ++ y ∷ ys) n ≡ Some y
get_after [] {y} ys n e = ap (λ k. slice_get (y ∷ ys) k) e
get_after (x ∷ _) _ zero e = absurd (omega (arith, e))
get_after (x ∷ xs) ys (suc n) e = get_after xs ys n (omega (arith, e))

-- ---- the slots that a zip takes

others_from_below : (at : ℕ) (names : List ℕ) (view : View) → AreBelow (at + length view) (others_from at names view)
others_from_below _ _ [] = tt
others_from_below at names (c ∷ view) =
    let more : AreBelow (at + length (c ∷ view)) (others_from (at + 1) names view) =
    subst (λ n. AreBelow n (others_from (at + 1) names view)) (omega arith) (others_from_below (at + 1) names view) in
    by_test (is_among c.name names) (λ is. rw is more) (λ is. rw is (omega arith, more))

pub others_below : (names : List ℕ) (view : View) → AreBelow (length view) (others_from 0 names view)
others_below names view = subst (λ n. AreBelow n (others_from 0 names view)) (omega arith) (others_from_below 0 names view)

-- ---- what was made of the stream at a place

-- the columns of the stream at a place
pub columns_made : (before : List View) (streams : List TypedStream) (views : List View) → AreMade before streams views
    → (i : ℕ) {view : View} → slice_get views i ≡ Some view → option_map (λ one. one.columns) (slice_get streams i) ≡ Some
    (column_names view)
columns_made _ [] [] h i e = cc e
columns_made _ (s ∷ _) (v ∷ _) h zero {view} e = ap Some (h.1 ∙ ap column_names (same_Some v view e))
columns_made before (s ∷ streams) (v ∷ views) h (suc i) e = columns_made (before ++ v ∷ []) streams views h.2 i e
columns_made _ _ _ h _ _ = absurd h

zip_front : {before : List View} (more : List View) {left right : ℕ} {slots : List ℕ} {view : View} → OfZip before left right slots view
    → OfZip (before ++ more) left right slots view
zip_front {before} more {left} {right} h = record {
  first = h.first;
  second = h.second;
  one = get_front before more left h.one;
  other = get_front before more right h.other;
  apart = h.apart;
  picked = h.picked;
  is = h.is;
}

-- the columns of the zip at a place
pub record ZipAt (views : List View) (number left right : ℕ) (slots : List ℕ) : Type 0 where
  pub view : View
  pub stands : slice_get views number ≡ Some view
  pub made : OfZip views left right slots view

pub zip_made : (before : List View) (streams : List TypedStream) (views : List View) → AreMade before streams views
    → (i : ℕ) {left right : ℕ} {slots : List ℕ} → option_map (λ one. one.op) (slice_get streams i) ≡ Some (typed.Zip left right slots)
    → ZipAt (before ++ views) (length before + i) left right slots
zip_made _ [] [] h i e = cc e
zip_made before (s ∷ _) (v ∷ views) h zero {left} {right} {slots} e = record {
  view = v;
  stands = get_after before views (length before + 0) (omega arith);
  made = zip_front (v ∷ views) (subst (λ op. Makes before (length before) op v) (same_Some s.op (typed.Zip left right slots) e) h.0);
}
zip_made before (s ∷ streams) (v ∷ views) h (suc i) {left} {right} {slots} e =
    let more = zip_made (before ++ v ∷ []) streams views h.2 i e in
    let same : length (before ++ v ∷ []) + i ≡ length before + suc i = omega (arith, length_push before v) in
    subst (λ l. ZipAt l (length before + suc i) left right slots) (append_assoc before (v ∷ []) views)
    (subst (λ n. ZipAt ((before ++ v ∷ []) ++ views) n left right slots) same more)
zip_made _ _ _ h _ _ = absurd h
