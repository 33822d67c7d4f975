-- Buckets whose parts are stored one after another.
use Rattle.std.proofs.Common.{◌≡◌, ℕ, zero, suc, ◌+◌, ◌*◌, ◌<◌, List, [], ◌∷◌, ◌++◌, length, take, drop, get_or, set, refl, sym, ap, ap₂}
use Rattle.std.proofs.Common.{◌∙◌, subst, subst₂, arith, ⊎_elim, length-set, length-drop, get_or-set_same, get_or-set_other}
use Rattle.std.proofs.lemmas.{Bool.cases_eq, List.{length-take-le, length-append, length-map, map-set, get_or-map}}
use Rattle.bucket_cache.specs.{Slices.rows_of, Buckets.{Recency, IsBucket, pairs_at}}
use Rattle.bucket_cache.specs.FlatBuckets.{bucket_of, buckets_from, orders_of, words_of, buckets_of, lists_in, list_in, AreBuckets}
use Rattle.bucket_cache.proofs.{BucketLists.few-pairs, FlatRows.{row_fits, length-rows_of, get-rows_of, set-rows_of}}
use Rattle.epoch_model.specs.Keys.{Key}

-- a row of a flat part, the keys of a row of words, and the part with another row
abbrev pub flat_row : ℕ → ℕ → List ℕ → List ℕ
flat_row width b xs = take width (drop (b * width) xs)

abbrev pub flat_keys : ℕ → ℕ → ℕ → List ℕ → List Key
flat_keys ways kw b words = rows_of kw ways (flat_row (ways * kw) b words)

abbrev pub with_row : ℕ → ℕ → List ℕ → List ℕ → List ℕ
with_row width b row xs = take (b * width) xs ++ (row ++ drop width (drop (b * width) xs))

module _ (ways kw : ℕ) where
  length-buckets_from : (first : ℕ) (used : List ℕ) (orders rows : List (List ℕ)) → length orders ≡ length used
      → length rows ≡ length used → length (buckets_from ways kw first used orders rows) ≡ length used
  length-buckets_from _ [] _ _ e f = refl
  length-buckets_from first (u ∷ used) [] rows e f = absurd (omega arith)
  length-buckets_from first (u ∷ used) (o ∷ orders) [] e f = absurd (omega arith)
  length-buckets_from first (u ∷ used) (o ∷ orders) (w ∷ rows) e f =
      rw (length-buckets_from (first + ways) used orders rows (omega arith) (omega arith))

  get-buckets_from : (first b : ℕ) (used : List ℕ) (orders rows : List (List ℕ)) (d : Recency) → length orders ≡ length used
      → length rows ≡ length used → b < length used → get_or (buckets_from ways kw first used orders rows) b d
      ≡ bucket_of ways kw (first + b * ways) (get_or used b 0) (get_or orders b []) (get_or rows b [])
  get-buckets_from first b [] orders rows d e f h = absurd (omega arith)
  get-buckets_from first b (u ∷ used) [] rows d e f h = absurd (omega arith)
  get-buckets_from first b (u ∷ used) (o ∷ orders) [] d e f h = absurd (omega arith)
  get-buckets_from first zero (u ∷ used) (o ∷ orders) (w ∷ rows) d e f h =
      let here : first ≡ first + 0 * ways = omega arith in
      ap (λ n. bucket_of ways kw n u o w) here
  get-buckets_from first (suc b) (u ∷ used) (o ∷ orders) (w ∷ rows) d e f h =
      let there : first + ways + b * ways ≡ first + suc b * ways = omega arith in
      rw (get-buckets_from (first + ways) b used orders rows d (omega arith) (omega arith) (omega arith), there)

  set-buckets_from : (first b u' : ℕ) (o' w' used : List ℕ) (orders rows : List (List ℕ)) → length orders ≡ length used
      → length rows ≡ length used → b < length used → buckets_from ways kw first (set used b u') (set orders b o') (set rows b w')
      ≡ set (buckets_from ways kw first used orders rows) b (bucket_of ways kw (first + b * ways) u' o' w')
  set-buckets_from first b u' o' w' [] orders rows e f h = absurd (omega arith)
  set-buckets_from first b u' o' w' (u ∷ used) [] rows e f h = absurd (omega arith)
  set-buckets_from first b u' o' w' (u ∷ used) (o ∷ orders) [] e f h = absurd (omega arith)
  set-buckets_from first zero u' o' w' (u ∷ used) (o ∷ orders) (w ∷ rows) e f h =
      let here : first ≡ first + 0 * ways = omega arith in
      ap (λ n. bucket_of ways kw n u' o' w' ∷ buckets_from ways kw (first + ways) used orders rows) here
  set-buckets_from first (suc b) u' o' w' (u ∷ used) (o ∷ orders) (w ∷ rows) e f h =
      let there : first + ways + b * ways ≡ first + suc b * ways = omega arith in
      rw (set-buckets_from (first + ways) b u' o' w' used orders rows (omega arith) (omega arith) (omega arith), there)

  module _ (used order words : List ℕ) where
    many_orders : length (orders_of ways used order) ≡ length used
    many_orders = length-rows_of ways (length used) order

    many_rows : length (words_of ways kw used words) ≡ length used
    many_rows = length-rows_of (ways * kw) (length used) words

    pub length-buckets_of : length (buckets_of ways kw used order words) ≡ length used
    length-buckets_of = length-buckets_from 0 used (orders_of ways used order) (words_of ways kw used words) many_orders many_rows

    pub length-lists_in : length (lists_in ways kw used order words) ≡ length used
    length-lists_in = length-map (buckets_of ways kw used order words) (λ (r : Recency). r.pairs) ∙ length-buckets_of

    pub get-buckets_of : (b : ℕ) (d : Recency) → b < length used → get_or (buckets_of ways kw used order words) b d
        ≡ bucket_of ways kw (b * ways) (get_or used b 0) (get_or (orders_of ways used order) b [])
        (get_or (words_of ways kw used words) b [])
    get-buckets_of b d h =
        let none : 0 + b * ways ≡ b * ways = omega arith in
        let orders = orders_of ways used order in
        let rows = words_of ways kw used words in
        rw (get-buckets_from 0 b used orders rows d many_orders many_rows h, none)

    -- the pairs of a bucket, by its row of the order and its row of the words
    pub list-is : (b : ℕ) → b < length used
        → list_in ways kw used order words b
        ≡ pairs_at (b * ways) (flat_keys ways kw b words) (take (get_or used b 0) (flat_row ways b order))
    list-is b h =
        let d = bucket_of 0 0 0 0 [] [] in
        let long = length-buckets_of in
        get_or-map (λ (r : Recency). r.pairs) (buckets_of ways kw used order words) b d [] (omega arith)
        ∙ (ap (λ (r : Recency). r.pairs) (get-buckets_of b d h)
        ∙ ap₂ (λ o w. pairs_at (b * ways) (rows_of kw ways w) (take (get_or used b 0) o)) (get-rows_of ways (length used) order b [] h)
        (get-rows_of (ways * kw) (length used) words b [] h))

pub row-long : (width b count : ℕ) (xs : List ℕ) → b < count → length xs ≡ count * width → length (flat_row width b xs) ≡ width
row-long width b count xs h e =
    let f = row_fits b count width h in
    let rest = length-drop (b * width) xs in
    length-take-le width (drop (b * width) xs) (omega arith)

length-with_row : (width b count : ℕ) (row xs : List ℕ) → b < count → length xs ≡ count * width → length row ≡ width
    → length (with_row width b row xs) ≡ length xs
length-with_row width b count row xs h e w =
    let f = row_fits b count width h in
    let front = length-take-le (b * width) xs (omega arith) in
    let rest = length-drop (b * width) xs in
    let back = length-drop width (drop (b * width) xs) in
    let whole = length-append (take (b * width) xs) (row ++ drop width (drop (b * width) xs)) in
    let end = length-append row (drop width (drop (b * width) xs)) in
    omega arith

-- a fact about the parts of each bucket, after those of one were written over
each-set : (P : ℕ → ℕ → List ℕ → List ℕ → Type 0) (b u' : ℕ) (o' w' : List ℕ) (used : List ℕ) (orders rows : List (List ℕ))
    → length orders ≡ length used → length rows ≡ length used → b < length used
    → ((k : ℕ) → k < length used → P k (get_or used k 0) (get_or orders k []) (get_or rows k [])) → P b u' o' w'
    → (k : ℕ) → k < length used → P k (get_or (set used b u') k 0) (get_or (set orders b o') k []) (get_or (set rows b w') k [])
each-set P b u' o' w' used orders rows e f h each this k l = ⊎_elim
    (λ (s : k ≡ b). subst (λ n. P n (get_or (set used b u') n 0) (get_or (set orders b o') n []) (get_or (set rows b w') n [])) (sym s)
    (subst (λ x. P b x (get_or (set orders b o') b []) (get_or (set rows b w') b [])) (sym (get_or-set_same used b u' 0 h))
    (subst (λ x. P b u' x (get_or (set rows b w') b [])) (sym (get_or-set_same orders b o' [] (omega arith)))
    (subst (λ x. P b u' o' x) (sym (get_or-set_same rows b w' [] (omega arith))) this))))
    (λ (n : k ≡ b → ⊥).
    subst (λ x. P k x (get_or (set orders b o') k []) (get_or (set rows b w') k [])) (sym (get_or-set_other used b k u' 0 n))
    (subst (λ x. P k (get_or used k 0) x (get_or (set rows b w') k [])) (sym (get_or-set_other orders b k o' [] n))
    (subst (λ x. P k (get_or used k 0) (get_or orders k []) x) (sym (get_or-set_other rows b k w' [] n)) (each k l))))
    (cases_eq k b)

-- the rows after one was written over
rows-with_row : (width b : ℕ) (row xs used : List ℕ) (u' : ℕ) → b < length used → length xs ≡ length used * width → length row ≡ width
    → rows_of width (length (set used b u')) (with_row width b row xs) ≡ set (rows_of width (length used) xs) b row
rows-with_row width b row xs used u' h e w = rw (length-set used b u', set-rows_of width (length used) xs b row h e w)

-- One bucket of those that are stored.
module _ {ways kw : ℕ} {used order words : List ℕ} (b : ℕ) (are : AreBuckets ways kw used order words) (h : b < length used) where
  pub order-long : length (flat_row ways b order) ≡ ways
  order-long = row-long ways b (length used) order h are.orders

  pub words-long : length (flat_row (ways * kw) b words) ≡ ways * kw
  words-long = row-long (ways * kw) b (length used) words h are.flat

  pub bucket-is : IsBucket (b * ways) kw (get_or used b 0) (flat_row ways b order) (flat_keys ways kw b words)
  bucket-is = subst₂ (λ o w. IsBucket (b * ways) kw (get_or used b 0) o (rows_of kw ways w)) (get-rows_of ways (length used) order b [] h)
      (get-rows_of (ways * kw) (length used) words b [] h) (are.each b h)

  pub all-used : length (list_in ways kw used order words b) ≡ get_or used b 0
  all-used = rw (
    list-is ways kw used order words b h,
    few-pairs (b * ways) (get_or used b 0) (flat_row ways b order)
        (flat_keys ways kw b words) bucket-is.within,
  )

  -- other rows take the place of the bucket's
  module _ (u' : ℕ) (o' w' : List ℕ) (lo : length o' ≡ ways) (lw : length w' ≡ ways * kw) where
    pub written-buckets : IsBucket (b * ways) kw u' o' (rows_of kw ways w')
        → AreBuckets ways kw (set used b u') (with_row ways b o' order) (with_row (ways * kw) b w' words)
    written-buckets this =
        let same = length-set used b u' in
        let orders = orders_of ways used order in
        let rows = words_of ways kw used words in
        let P : ℕ → ℕ → List ℕ → List ℕ → Type 0 = λ n u o w. IsBucket (n * ways) kw u o (rows_of kw ways w) in
        record {
          orders = rw (length-with_row ways b (length used) o' order h are.orders lo, are.orders, same);
          flat = rw (length-with_row (ways * kw) b (length used) w' words h are.flat lw, are.flat, same);
          each = λ k l. subst₂ (λ os ws. P k (get_or (set used b u') k 0) (get_or os k []) (get_or ws k []))
              (sym (rows-with_row ways b o' order used u' h are.orders lo))
              (sym (rows-with_row (ways * kw) b w' words used u' h are.flat lw))
              (each-set P b u' o' w' used orders rows (many_orders ways kw used order words) (many_rows ways kw used order words) h are.each
              this k (rw (← same) l));
        }

    pub written-lists : lists_in ways kw (set used b u') (with_row ways b o' order) (with_row (ways * kw) b w' words)
        ≡ set (lists_in ways kw used order words) b (pairs_at (b * ways) (rows_of kw ways w') (take u' o'))
    written-lists =
        let none : 0 + b * ways ≡ b * ways = omega arith in
        rw (
          rows-with_row ways b o' order used u' h are.orders lo,
          rows-with_row (ways * kw) b w' words used u' h are.flat lw,
          set-buckets_from ways kw 0 b u' o' w' used (orders_of ways used order) (words_of ways kw used words)
              (many_orders ways kw used order words) (many_rows ways kw used order words) h,
          none,
          map-set (λ (r : Recency). r.pairs)
              (buckets_of ways kw used order words) b (bucket_of ways kw (b * ways) u' o' w'),
        )

    -- the list of the bucket that was written over
    pub written-list : list_in ways kw (set used b u') (with_row ways b o' order) (with_row (ways * kw) b w' words) b
        ≡ pairs_at (b * ways) (rows_of kw ways w') (take u' o')
    written-list =
        let long = length-lists_in ways kw used order words in
        ap (λ ls. get_or ls b []) written-lists
        ∙ get_or-set_same (lists_in ways kw used order words) b (pairs_at (b * ways) (rows_of kw ways w') (take u' o')) [] (omega arith)
