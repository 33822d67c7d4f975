-- The parts of one bucket, lent by their bounds and written over.
use Rattle.std.proofs.Common.{◌≡◌, ℕ, ◌+◌, ◌-◌, ◌*◌, ◌<◌, ◌≤◌, List, ◌++◌, length, take, drop, get_or, set, sym, ap, ap₂, ◌∙◌, subst}
use Rattle.std.proofs.{Common.{subst₂, arith}, lemmas.List.set-get_or, Math.Nat.mul-le-mul_left}
use Rattle.epoch_model.specs.Keys.{Key}
use Rattle.bucket_cache.specs.{Slices.rows_of, Buckets.{Pair, IsBucket, pairs_at}, FlatBuckets.{lists_in, list_in, AreBuckets}}
use Rattle.bucket_cache.{specs.{declared.bucket.Touch.Touch, Touches.Touches}, proofs.FlatRows.{place-word, row_fits}}
use Rattle.bucket_cache.proofs.FlatBuckets.{flat_row, with_row, list-is, order-long, words-long, bucket-is, all-used, written-buckets}
use Rattle.bucket_cache.proofs.FlatBuckets.{written-lists, written-list}

-- how many items there are between a row's bounds
abbrev between : ℕ → ℕ → ℕ
between width b = b * width + width - b * width

-- the row between its bounds, and the part with another row there
abbrev pub lent_row : ℕ → ℕ → List ℕ → List ℕ
lent_row width b xs = take (between width b) (drop (b * width) xs)

abbrev pub with_lent : ℕ → ℕ → List ℕ → List ℕ → List ℕ
with_lent width b row xs = take (b * width) xs ++ (row ++ drop (between width b) (drop (b * width) xs))

wide : (width b : ℕ) → between width b ≡ width
wide width b = omega arith

lent-is : (width b : ℕ) (xs : List ℕ) → lent_row width b xs ≡ flat_row width b xs
lent-is width b xs = rw (wide width b)

with-is : (width b : ℕ) (row xs : List ℕ) → with_row width b row xs ≡ with_lent width b row xs
with-is width b row xs = rw (wide width b)

pub record IsBounded (ways kw b : ℕ) (order words : List ℕ) : Type 0 where
  pub first : b * ways + ways ≤ 65536
  pub width : ways * kw ≤ 524288
  pub start : b * (ways * kw) + ways * kw ≤ 524288
  pub order_within : b * ways + ways ≤ length order
  pub words_within : b * (ways * kw) + ways * kw ≤ length words

row-lies : (width b count : ℕ) (xs : List ℕ) → b < count → length xs ≡ count * width → b * width + width ≤ length xs
row-lies width b count xs h e = let f = row_fits b count width h in omega arith

module _ {ways kw : ℕ} {used order words : List ℕ} (b : ℕ) (are : AreBuckets ways kw used order words) (h : b < length used) where
  pub long : length (lent_row ways b order) ≡ ways
  long = rw (lent-is ways b order, order-long b are h)

  pub lent-flat : length (lent_row (ways * kw) b words) ≡ length (lent_row ways b order) * kw
  lent-flat = ap length (lent-is (ways * kw) b words) ∙ (words-long b are h ∙ ap (λ n. n * kw) (sym long))

  -- the bounds of the rows lie within the parts, which are small
  pub bounded : IsBounded ways kw b order words
  bounded =
      let is = bucket-is b are h in
      let own = order-long b are h in
      let room = is.places in
      let few : b * ways + ways ≤ 65536 = omega arith in
      let short = mul-le-mul_left (b * ways + ways) is.short in
      let width = mul-le-mul_left ways is.short in
      let start = place-word b ways ways kw in
      record {
        first = few;
        width = omega arith;
        start = omega arith;
        order_within = row-lies ways b (length used) order h are.orders;
        words_within = row-lies (ways * kw) b (length used) words h are.flat;
      }

  abbrev lent_keys : List ℕ → List Key
  lent_keys words = rows_of kw (length (lent_row ways b order)) words

  pub lent-bucket : IsBucket (b * ways) kw (get_or used b 0) (lent_row ways b order) (lent_keys (lent_row (ways * kw) b words))
  lent-bucket = rw long (subst₂ (λ o w. IsBucket (b * ways) kw (get_or used b 0) o (rows_of kw ways w)) (sym (lent-is ways b order))
      (sym (lent-is (ways * kw) b words)) (bucket-is b are h))

  pub lent-list : list_in ways kw used order words b
      ≡ pairs_at (b * ways) (lent_keys (lent_row (ways * kw) b words)) (take (get_or used b 0) (lent_row ways b order))
  lent-list =
      list-is ways kw used order words b h
      ∙ (ap₂ (λ o w. pairs_at (b * ways) (rows_of kw ways w) (take (get_or used b 0) o)) (sym (lent-is ways b order))
      (sym (lent-is (ways * kw) b words))
      ∙ ap (λ n. pairs_at (b * ways) (rows_of kw n (lent_row (ways * kw) b words)) (take (get_or used b 0) (lent_row ways b order)))
      (sym long))

  -- other rows come back
  module _ (u' : ℕ) (o' w' : List ℕ) (so : length o' ≡ length (lent_row ways b order))
      (sw : length w' ≡ length (lent_row (ways * kw) b words)) where
    lo : length o' ≡ ways
    lo = so ∙ long

    lw : length w' ≡ ways * kw
    lw = rw (sw, lent-is (ways * kw) b words, words-long b are h)

    abbrev new_list : List ℕ → List ℕ → List Pair
    new_list order words = list_in ways kw (set used b u') order words b

    new-list : pairs_at (b * ways) (lent_keys w') (take u' o') ≡ new_list (with_lent ways b o' order) (with_lent (ways * kw) b w' words)
    new-list = ap (λ n. pairs_at (b * ways) (rows_of kw n w') (take u' o')) long
        ∙ (sym (written-list b are h u' o' w' lo lw) ∙ ap₂ new_list (with-is ways b o' order) (with-is (ways * kw) b w' words))

    pub lent-buckets : IsBucket (b * ways) kw u' o' (lent_keys w')
        → AreBuckets ways kw (set used b u') (with_lent ways b o' order) (with_lent (ways * kw) b w' words)
    lent-buckets is = subst₂ (AreBuckets ways kw (set used b u')) (with-is ways b o' order) (with-is (ways * kw) b w' words)
        (written-buckets b are h u' o' w' lo lw (subst (λ n. IsBucket (b * ways) kw u' o' (rows_of kw n w')) long is))

    pub lent-lists : lists_in ways kw (set used b u') (with_lent ways b o' order) (with_lent (ways * kw) b w' words)
        ≡ set (lists_in ways kw used order words) b (pairs_at (b * ways) (lent_keys w') (take u' o'))
    lent-lists = sym (ap₂ (lists_in ways kw (set used b u')) (with-is ways b o' order) (with-is (ways * kw) b w' words))
        ∙ (written-lists b are h u' o' w' lo lw
        ∙ ap (λ n. set (lists_in ways kw used order words) b (pairs_at (b * ways) (rows_of kw n w') (take u' o'))) (sym long))

    pub lent-rest : lists_in ways kw (set used b u') (with_lent ways b o' order) (with_lent (ways * kw) b w' words)
        ≡ set (lists_in ways kw used order words) b (new_list (with_lent ways b o' order) (with_lent (ways * kw) b w' words))
    lent-rest = lent-lists ∙ ap (set (lists_in ways kw used order words) b) new-list

    pub lent-touched : (key : Key) (touch : Touch) → Touches (length (lent_row ways b order)) key
        (pairs_at (b * ways) (lent_keys (lent_row (ways * kw) b words)) (take (get_or used b 0) (lent_row ways b order))) touch
        (pairs_at (b * ways) (lent_keys w') (take u' o'))
        → Touches ways key (list_in ways kw used order words b) touch
        (new_list (with_lent ways b o' order) (with_lent (ways * kw) b w' words))
    lent-touched key touch t = subst (λ n. Touches n key (list_in ways kw used order words b) touch
        (new_list (with_lent ways b o' order) (with_lent (ways * kw) b w' words))) long
        (subst₂ (λ old new. Touches (length (lent_row ways b order)) key old touch new) (sym lent-list) new-list t)

  -- a full bucket has all of its ways in use
  module _ (full : length (list_in ways kw used order words b) ≡ ways) where
    full-used : get_or used b 0 ≡ length (lent_row ways b order)
    full-used = sym (all-used b are h) ∙ (full ∙ sym long)

    pub full-bucket : IsBucket (b * ways) kw (length (lent_row ways b order)) (lent_row ways b order)
        (lent_keys (lent_row (ways * kw) b words))
    full-bucket = subst (λ u. IsBucket (b * ways) kw u (lent_row ways b order) (lent_keys (lent_row (ways * kw) b words))) full-used
        lent-bucket

    pub full-list : list_in ways kw used order words b
        ≡ pairs_at (b * ways) (lent_keys (lent_row (ways * kw) b words)) (take (length (lent_row ways b order)) (lent_row ways b order))
    full-list = rw (lent-list, full-used)

    module _ (o' w' : List ℕ) (so : length o' ≡ length (lent_row ways b order))
        (sw : length w' ≡ length (lent_row (ways * kw) b words)) where
      pub full-buckets : IsBucket (b * ways) kw (length (lent_row ways b order)) o' (lent_keys w')
          → AreBuckets ways kw used (with_lent ways b o' order) (with_lent (ways * kw) b w' words)
      full-buckets is = rw (← set-get_or used b 0) (lent-buckets (get_or used b 0) o' w' so sw
          (subst (λ u. IsBucket (b * ways) kw u o' (lent_keys w')) (sym full-used) is))

      pub full-lists : (change : List Pair → List Pair) → pairs_at (b * ways) (lent_keys w') (take (length (lent_row ways b order)) o')
          ≡ change (pairs_at (b * ways) (lent_keys (lent_row (ways * kw) b words))
          (take (length (lent_row ways b order)) (lent_row ways b order)))
          → lists_in ways kw used (with_lent ways b o' order) (with_lent (ways * kw) b w' words)
          ≡ set (lists_in ways kw used order words) b (change (list_in ways kw used order words b))
      full-lists change e =
          ap (λ us. lists_in ways kw us (with_lent ways b o' order) (with_lent (ways * kw) b w' words)) (sym (set-get_or used b 0))
          ∙ (lent-lists (get_or used b 0) o' w' so sw
          ∙ ap (set (lists_in ways kw used order words) b)
          (ap (λ u. pairs_at (b * ways) (lent_keys w') (take u o')) full-used ∙ (e ∙ ap change (sym full-list))))
