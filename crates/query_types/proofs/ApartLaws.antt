-- Lists of names that are all different.
use Rattle.std.proofs.Common.{◌≡◌, ℕ, zero, suc, ◌+◌, ◌<◌, ◌≤◌, Bool, true, false, ◌||◌, cond, List, [], ◌∷◌, ◌++◌, length, drop, Some}
use Rattle.std.proofs.Common.{nat_eq, refl, sym, ap, subst, ◌∙◌, arith}
use Rattle.std.proofs.lemmas.{Bool.{eqb-true, or_from, or_parts}, List.Folds.list_any-append}
use Rattle.std.proofs.lemmas.Map.Steps.{length-le_from_distinct_below}
use Rattle.std.{proofs.lemmas.List.Elements.{All-nil, All-cons, All-push, All-append, All-head, All-tail}, specs.Prelude.slice_get}
use Rattle.std.specs.List.{AllByRecursion, IsDistinct, list_any}
use Rattle.query_lang.specs.{declared.typing.StreamColumn.StreamColumn, Checks.is_among, TypedQueries.AreNames}
use Rattle.query_lang.specs.TypedStreams.{column_names, others_from, columns_at}
use Rattle.query_types.specs.Fitting.{AreDifferent, AreApart}

abbrev pub IsFew : ℕ → Type 0
IsFew id = id < 65536

swapped : (a b : ℕ) → nat_eq a b ≡ false → nat_eq b a ≡ false
swapped a b h = go (nat_eq b a) refl
  where
    go : (t : Bool) → nat_eq b a ≡ t → t ≡ false
    go true e =
        let same : b ≡ a = eqb-true b a e in
        let B : ℕ → Type 0 = λ k. nat_eq b k ≡ true in
        let A : ℕ → Type 0 = λ k. nat_eq k b ≡ false in
        let yes : nat_eq b b ≡ true = subst B (sym same) e in
        let no : nat_eq b b ≡ false = subst A (sym same) h in
        sym yes ∙ no
    go false e = refl

-- ---- how many there are

all_others : (x : ℕ) (xs : List ℕ) → is_among x xs ≡ false → AllByRecursion (λ y. nat_eq x y ≡ false) xs
all_others x [] h = tt
all_others x (y ∷ ys) h = let one = or_parts (nat_eq y x) (is_among x ys) h in (swapped y x one.0, all_others x ys one.1)

distinct : (xs : List ℕ) → AreDifferent xs → IsDistinct nat_eq xs
unfolding IsDistinct
distinct [] h = tt
distinct (x ∷ xs) h = (all_others x xs h.0, distinct xs h.1)

member_below : (ids : List ℕ) → AreNames 65536 ids → (q : ℕ) → list_any (nat_eq q) ids ≡ true → q < 65536
member_below [] h q e = cc e
member_below (x ∷ xs) h q e = go (nat_eq q x) refl (λ k. member_below xs (All-tail IsFew x xs h) q k) e
  where
    go : (t : Bool) → nat_eq q x ≡ t → (list_any (nat_eq q) xs ≡ true → q < 65536) → (t || list_any (nat_eq q) xs) ≡ true → q < 65536
    go true is more e =
        let same : q ≡ x = eqb-true q x is in
        let here : x < 65536 = All-head IsFew x xs h in
        omega arith
    go false is more e = more e

pub apart_within : (ids : List ℕ) → AreApart ids → length ids ≤ 65536
apart_within ids h = length-le_from_distinct_below ids 65536 (distinct ids h.once) (member_below ids h.below)

-- ---- one list after another

pub among_both : (x : ℕ) (xs ys : List ℕ) → is_among x xs ≡ false → is_among x ys ≡ false → is_among x (xs ++ ys) ≡ false
among_both x xs ys h k = list_any-append (λ name. nat_eq name x) xs ys ∙ or_from (is_among x xs) (is_among x ys) h k

without_first : (x : ℕ) (xs ys : List ℕ) → list_any (λ y. is_among y (x ∷ xs)) ys ≡ false → (is_among x ys ≡ false)
    × (list_any (λ y. is_among y xs) ys ≡ false)
without_first x xs [] h = (refl, refl)
without_first x xs (y ∷ ys) h =
    let both = or_parts (is_among y (x ∷ xs)) (list_any (λ y. is_among y (x ∷ xs)) ys) h in
    let one = or_parts (nat_eq x y) (is_among y xs) both.0 in
    let more = without_first x xs ys both.1 in (
      or_from (nat_eq y x) (is_among x ys) (swapped x y one.0) more.0,
      or_from (is_among y xs) (list_any (λ y. is_among y xs) ys) one.1
          more.1,
    )

different_append : (xs ys : List ℕ) → AreDifferent xs → AreDifferent ys → list_any (λ y. is_among y xs) ys ≡ false → AreDifferent (xs ++ ys)
different_append [] ys h k apart = k
different_append (x ∷ xs) ys h k apart =
    let more = without_first x xs ys apart in
    (among_both x xs ys h.0 more.0, different_append xs ys h.1 k more.1)

pub apart_append : (xs ys : List ℕ) → AreApart xs → AreApart ys → list_any (λ y. is_among y xs) ys ≡ false → AreApart (xs ++ ys)
apart_append xs ys h k apart = record { below = All-append IsFew xs ys h.below k.below; once = different_append xs ys h.once k.once apart }

pub different_push : (xs : List ℕ) (y : ℕ) → AreDifferent xs → is_among y xs ≡ false → AreDifferent (xs ++ y ∷ [])
different_push xs y h new = different_append xs (y ∷ []) h (refl, tt) (or_from (is_among y xs) false new refl)

pub apart_push : (xs : List ℕ) (y : ℕ) → AreApart xs → y < 65536 → is_among y xs ≡ false → AreApart (xs ++ y ∷ [])
apart_push xs y h below new = record { below = All-push IsFew xs y h.below below; once = different_push xs y h.once new }

pub apart_none : AreApart []
apart_none = record { below = All-nil IsFew; once = tt }

pub apart_drop : (n : ℕ) (xs : List ℕ) → AreApart xs → AreApart (drop n xs)
apart_drop zero xs h = h
apart_drop (suc n) [] h = h
apart_drop (suc n) (x ∷ xs) h = apart_drop n xs (record { below = All-tail IsFew x xs h.below; once = h.once.1 })

-- ---- the columns that a `zip` takes from the right

-- those that aren't among these names
abbrev others : List ℕ → List ℕ → List ℕ
others ids [] = []
others ids (x ∷ xs) = cond (is_among x ids) (others ids xs) (x ∷ others ids xs)

others_not : (ids xs : List ℕ) → list_any (λ y. is_among y ids) (others ids xs) ≡ false
others_not ids [] = refl
others_not ids (x ∷ xs) = go (is_among x ids) refl (others_not ids xs)
  where
    go : (t : Bool) → is_among x ids ≡ t → list_any (λ y. is_among y ids) (others ids xs) ≡ false
        → list_any (λ y. is_among y ids) (cond t (others ids xs) (x ∷ others ids xs)) ≡ false
    go true e h = h
    go false e h = or_from (is_among x ids) (list_any (λ y. is_among y ids) (others ids xs)) e h

others_without : (ids : List ℕ) (z : ℕ) (xs : List ℕ) → is_among z xs ≡ false → is_among z (others ids xs) ≡ false
others_without ids z [] h = refl
others_without ids z (x ∷ xs) h = let one = or_parts (nat_eq x z) (is_among z xs) h in go (is_among x ids) one.0
    (others_without ids z xs one.1)
  where
    go : (t : Bool) → nat_eq x z ≡ false → is_among z (others ids xs) ≡ false
        → is_among z (cond t (others ids xs) (x ∷ others ids xs)) ≡ false
    go true e h = h
    go false e h = or_from (nat_eq x z) (is_among z (others ids xs)) e h

others_apart : (ids xs : List ℕ) → AreApart xs → AreApart (others ids xs)
others_apart ids [] h = h
others_apart ids (x ∷ xs) h = go (is_among x ids) (others_apart ids xs (record { below = All-tail IsFew x xs h.below; once = h.once.1 }))
  where
    go : (t : Bool) → AreApart (others ids xs) → AreApart (cond t (others ids xs) (x ∷ others ids xs))
    go true k = k
    go false k = record {
      below = All-cons IsFew x (others ids xs) (All-head IsFew x xs h.below) k.below;
      once =
          (others_without ids x xs h.once.0, k.once);
    }

-- what is at a place, and what comes after it
get_drop : {A : Type 0} (xs : List A) (n : ℕ) (x : A) (rest : List A) → drop n xs ≡ x ∷ rest → (slice_get xs n ≡ Some x)
    × (drop (n + 1) xs ≡ rest)
get_drop [] zero x rest e = cc e
get_drop [] (suc n) x rest e = cc e
get_drop (y ∷ ys) zero x rest e = (cc, cc)
get_drop (y ∷ ys) (suc n) x rest e =
    let more = get_drop ys n x rest e in
    let next : suc n + 1 ≡ suc (n + 1) = omega arith in
    (more.0, ap (λ k. drop k (y ∷ ys)) next ∙ more.1)

others_named : (ids : List ℕ) (whole : List StreamColumn) (slot : ℕ) (rest : List StreamColumn) → drop slot whole ≡ rest
    → column_names (columns_at whole (others_from slot ids rest)) ≡ others ids (column_names rest)
others_named ids whole slot [] e = refl
others_named ids whole slot (column ∷ rest) e =
    let here = get_drop whole slot column rest e in
    go (is_among column.name ids) here.0 (others_named ids whole (slot + 1) rest here.1)
  where
    go : (t : Bool) → slice_get whole slot ≡ Some column → column_names (columns_at whole (others_from (slot + 1) ids rest)) ≡ others ids
        (column_names rest)
        → column_names (columns_at whole (cond t (others_from (slot + 1) ids rest) (slot ∷ others_from (slot + 1) ids rest))) ≡ cond t
        (others ids (column_names rest)) (column.name ∷ others ids (column_names rest))
    go true is h = h
    go false is h = rw is (ap (λ l. column.name ∷ l) h)

-- what a `zip` takes: other names than those of the left, all different
pub others_taken : (ids : List ℕ) (right : List StreamColumn) → AreApart (column_names right)
    → AreApart (column_names (columns_at right (others_from 0 ids right)))
    × (list_any (λ y. is_among y ids) (column_names (columns_at right (others_from 0 ids right))) ≡ false)
others_taken ids right h =
    let same = others_named ids right 0 right refl in (
      rw same (others_apart ids (column_names right) h),
      ap (λ l. list_any (λ y. is_among y ids) l) same
          ∙ others_not ids (column_names right),
    )
