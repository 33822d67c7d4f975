-- `top` of all rows is `top` of the parts' top rows.
use Rattle.part_laws.proofs.Words.{◌≡◌, ℕ, ◌+◌, ◌<◌, Bool, true, false, cond, ◌||◌, ◌&&◌, ◌==◌, List, [], ◌∷◌, map, filter, flat_map, ◌⊎◌}
use Rattle.part_laws.proofs.Words.{inl, inr, refl, sym, ap, ◌∙◌, arith, sum_by, count_by, Less, true≢false, false≢true, nat_tests}
use Rattle.part_laws.proofs.Words.{nat_list_cmp_total, filter_agree, sum_by-cons, Row, Key, key_eq, key_cmp, has, ascending, IsAscending}
use Rattle.part_laws.proofs.Words.{by_test, key_eq-true, key_eq-refl, ascending-ascends, has-ascending, is_of_key, column_at}
use Rattle.part_laws.proofs.{FinalRows.{bare, picked_keeps}, Words.{goes_before, top_rows}, Sums.{zeros_sum, sum_joined}, Tables.map_joined}
use Rattle.part_laws.proofs.{Ordered.{keys_of, key_cmp-itself, absent_above, made_by_key}, Tops.{rank_in, top_of, tops_of_tops}}
use Rattle.part_laws.specs.FinalParts.{by_key, TopsAreOfTops}
use Rattle.std.{proofs.Common.nat_lt, specs.{declared.cmp.Ordering.Ordering, Ordering.is_lt}}

-- ---- the order of rows

key_cmp-less : (a b c : Key) → key_cmp a b ≡ Less → key_cmp b c ≡ Less → key_cmp a c ≡ Less
unfolding key_cmp
key_cmp-less a b c = nat_list_cmp_total.trans a b c

less_is : (o : Ordering) → is_lt o ≡ true → o ≡ Less
less_is Less e = refl
less_is _ e = absurd (false≢true e)

nothing_less : (column : ℕ) (row : Row) → goes_before column row row ≡ false
nothing_less column row =
    let c = column_at column row in
    let none : nat_lt c c ≡ false = grind (arith, nat_tests) in
    rw none (rw (key_cmp-itself _) (and_false _))
  where
    and_false : (b : Bool) → (b && false) ≡ false
    and_false true = refl
    and_false false = refl

apart_by : (a b : ℕ) (o : Bool) → (nat_lt b a || ((b == a) && o)) ≡ true → (b < a) ⊎ ((b ≡ a) × (o ≡ true))
apart_by a b o e = by_test (nat_lt b a) (λ t. inl (grind (arith, nat_tests)))
    (λ t. by_test (b == a) (λ u. inr (grind (arith, nat_tests), rw t at (rw u at e))) (λ u. absurd (false≢true (rw t at (rw u at e)))))

before_by : (a b : ℕ) (o : Bool) → (b < a) ⊎ ((b ≡ a) × (o ≡ true)) → (nat_lt b a || ((b == a) && o)) ≡ true
before_by a b o (inl lt) = let t : nat_lt b a ≡ true = grind (arith, nat_tests) in rw t refl
before_by a b o (inr e) =
    let t : nat_lt b a ≡ false = grind (arith, nat_tests, e.0) in
    let u : (b == a) ≡ true = grind (arith, nat_tests, e.0) in
    rw t (rw u e.1)

before_after : (column : ℕ) (x y z : Row) → goes_before column x y ≡ true → goes_before column y z ≡ true → goes_before column x z ≡ true
before_after column x y z e k = before_by _ _ _ (go (apart_by _ _ _ e) (apart_by _ _ _ k))
  where
    go : (column_at column y < column_at column x) ⊎ ((column_at column y ≡ column_at column x) × (is_lt (key_cmp x.key y.key) ≡ true))
        → (column_at column z < column_at column y) ⊎ ((column_at column z ≡ column_at column y) × (is_lt (key_cmp y.key z.key) ≡ true))
        → (column_at column z < column_at column x) ⊎ ((column_at column z ≡ column_at column x) × (is_lt (key_cmp x.key z.key) ≡ true))
    go (inl a) (inl b) = inl (omega (arith, a, b))
    go (inl a) (inr b) = inl (omega (arith, a, b.0))
    go (inr a) (inl b) = inl (omega (arith, a.0, b))
    go (inr a) (inr b) = inr (
      b.0 ∙ a.0,
      ap is_lt (key_cmp-less x.key y.key z.key (less_is (key_cmp x.key y.key) a.1) (less_is (key_cmp y.key z.key) b.1)),
    )

-- ---- counts of rows in the order of keys

count_one : (p : Row → Bool) (x : Row) (xs : List Row) → count_by p (x ∷ xs) ≡ cond (p x) 1 0 + count_by p xs
count_one p x xs = sum_by-cons _ x xs

-- u is t, but for more at one key
module _ (k : Key) (more : ℕ) (t u : Key → ℕ) (here : (key : Key) → key_eq k key ≡ true → u key ≡ more + t key)
    (elsewhere : (key : Key) → key_eq k key ≡ false → u key ≡ t key) where
  turned : (key : Key) → key_eq key k ≡ false → key_eq k key ≡ false
  turned key e = by_test _ (λ s. absurd (true≢false (sym (key_eq-refl _) ∙ (ap (λ x. key_eq key x) (sym (key_eq-true k _ s)) ∙ e))))
      (λ s. s)

  untouched : (keys : List Key) → has k keys ≡ false → sum_by u keys ≡ sum_by t keys
  untouched [] none = refl
  untouched (key ∷ keys) none = by_test _ (λ e. absurd (true≢false (rw e at none))) (λ e. let rest = untouched keys (rw e at none) in
      let same = elsewhere key (turned key e) in
      omega (arith, sum_by-cons u key keys, sum_by-cons t key keys))

  touched : (keys : List Key) → IsAscending keys → has k keys ≡ true → sum_by u keys ≡ more + sum_by t keys
  touched [] s some = absurd (false≢true some)
  touched (key ∷ keys) s some = by_test _ (λ e. let same : key ≡ k = key_eq-true _ k e in
      let none : has k keys ≡ false = ap (λ x. has x keys) (sym same) ∙ absent_above _ keys s.0 in
      let rest = untouched keys none in
      let one = here key (ap (λ x. key_eq x key) (sym same) ∙ key_eq-refl key) in
      omega (arith, rest, one, sum_by-cons u key keys, sum_by-cons t key keys))
      (λ e. let rest = touched keys s.1 (rw e at some) in
      let one = elsewhere key (turned key e) in
      omega (arith, sum_by-cons u key keys, sum_by-cons t key keys))

or_true : (b : Bool) → (b || true) ≡ true
or_true true = refl
or_true false = refl

counts_by_key : (p : Row → Bool) (keys : List Key) → IsAscending keys → (rows : List Row)
    → ((k : Key) → has k (keys_of rows) ≡ true → has k keys ≡ true)
    → sum_by (λ key. count_by p (filter (is_of_key key) rows)) keys ≡ count_by p rows
counts_by_key p keys s [] in_keys = zeros_sum keys
counts_by_key p keys s (row ∷ rows) in_keys =
    touched row.key (cond (p row) 1 0) (λ key. count_by p (filter (is_of_key key) rows))
    (λ key. count_by p (filter (is_of_key key) (row ∷ rows)))
    (λ key e. rw e (count_one p row (filter (is_of_key key) rows)))
    (λ key e. rw e refl)
    keys s (in_keys row.key (ap (λ b. b || has row.key (keys_of rows)) (key_eq-refl row.key)))
    ∙ (ap (λ n. cond (p row) 1 0 + n) (counts_by_key p keys s rows (λ k e. in_keys k
    (ap (λ b. key_eq row.key k || b) e ∙ or_true (key_eq row.key k))))
    ∙ sym (count_one p row rows))

-- the order of keys changes no count
count_in_order : (p : Row → Bool) (rows : List Row) → count_by p (by_key rows) ≡ count_by p rows
count_in_order p rows =
    sum_joined (λ row. cond (p row) 1 0) (λ key. filter (is_of_key key) rows) (ascending (keys_of rows))
    ∙ counts_by_key p (ascending (keys_of rows)) (ascending-ascends (keys_of rows)) rows (λ k e. has-ascending k (keys_of _) ∙ e)

-- ---- top rows

picked_each : (t : Row → Bool) (rows : List Row) → map bare (filter t rows) ≡ flat_map (λ row. cond (t row) (bare row ∷ []) []) rows
picked_each t [] = refl
picked_each t (row ∷ rows) = by_test (t row) (λ e. rw e (ap (λ xs. bare row ∷ xs) (picked_each t rows))) (λ e. rw e (picked_each t rows))

module _ (column kept : ℕ) where
  abbrev before : Row → Row → Bool
  before = goes_before column

  abbrev top_in : List Row → Row → Bool
  top_in rows row = nat_lt (rank_in before rows row) kept

  -- `top` of rows in the order of keys gives what it gives of the rows, in this order
  top_in_order : (rows : List Row) → top_rows column kept (by_key rows) ≡ by_key (top_rows column kept rows)
  top_in_order rows =
      ap (map bare) (filter_agree (top_in (by_key rows)) (top_in rows)
      (λ row. ap (λ n. nat_lt n kept) (count_in_order (λ other. before other row) rows)) (by_key rows))
      ∙ (picked_each (top_in rows) (by_key rows)
      ∙ (made_by_key (λ row. cond (top_in rows row) (bare row ∷ []) []) (picked_keeps (top_in rows)) rows
      ∙ ap by_key (sym (picked_each (top_in rows) rows))))

  bare_rank : (row : Row) (rows : List Row) → rank_in before (map bare rows) row ≡ rank_in before rows row
  bare_rank row [] = refl
  bare_rank row (first ∷ rows) =
      count_one (λ other. before other row) (bare first) (map bare rows)
      ∙ (ap (λ n. cond (before first row) 1 0 + n) (bare_rank row rows) ∙ sym (count_one (λ other. before other row) first rows))

  bare_tops : (all rows : List Row) → map bare (filter (top_in (map bare all)) (map bare rows)) ≡ map bare (filter (top_in all) rows)
  bare_tops all [] = refl
  bare_tops all (row ∷ rows) =
      let same : nat_lt (rank_in before (map bare all) row) kept ≡ nat_lt (rank_in before all row) kept =
      ap (λ n. nat_lt n kept) (bare_rank row all) in
      by_test (nat_lt (rank_in before all row) kept)
      (λ e. rw (same ∙ e) (rw e (ap (λ xs. bare row ∷ xs) (bare_tops all rows))))
      (λ e. rw (same ∙ e) (rw e (bare_tops all rows)))

pub tops_are_of_tops : TopsAreOfTops
tops_are_of_tops column kept rows parts =
    let before : Row → Row → Bool = goes_before column in
    let tops : ℕ → List Row = λ n. top_of (goes_before column) kept (rows n) in
    top_in_order _ kept (flat_map rows parts)
    ∙ ap by_key (ap (map bare) (sym (tops_of_tops _ (nothing_less _) (before_after _) kept rows parts))
    ∙ sym (bare_tops column kept (flat_map tops parts) (flat_map tops parts)))
    ∙ sym (top_in_order _ kept (flat_map (λ n. top_rows column kept (rows n)) parts)
    ∙ ap (λ all. by_key (top_rows column kept all)) (sym (map_joined bare tops parts)))
