-- What is read from buckets that are stored one after another.
use Rattle.std.proofs.Common.{◌≡◌, ℕ, ◌+◌, ◌-◌, ◌*◌, ◌<◌, ◌≤◌, List, [], Some, None, length, take, drop, get_or, set, replicate, sym, ap}
use Rattle.std.proofs.Common.{ap₂, ◌∙◌, subst, subst₂, arith, take-append-drop, drop-drop, get_or-drop, get_or-take, take-take}
use Rattle.std.proofs.lemmas.{List.{drop-take, get_or-replicate, length-replicate, get_or_default, get_or-map}, Nat.mod-mul-add}
use Rattle.std.{proofs.Math.Nat.mul_assoc, specs.Prelude.{slice_get, sum_by, ◌/◌, ◌%◌}}
use Rattle.bucket_cache.specs.{Slices.rows_of, Buckets.{Pair, Recency, IsBucket, pairs_at, places_of}, Touches.least_place}
use Rattle.bucket_cache.specs.FlatBuckets.{no_bucket, buckets_of, lists_in, list_in, orders_of, words_of, AreBuckets, IsFlatCache}
use Rattle.bucket_cache.proofs.FlatRows.{place-word, row_fits, row_width, get-rows_of}
use Rattle.bucket_cache.proofs.{BucketLists.{place-pair, no-place, key-pair, fewer-pairs, fewer-bucket, empty-bucket}, FlatBuckets.flat_row}
use Rattle.bucket_cache.proofs.FlatBuckets.{flat_keys, with_row, length-buckets_of, get-buckets_of, list-is, bucket-is, all-used, row-long}
use Rattle.bucket_cache.proofs.FlatBuckets.{order-long, words-long, written-buckets, written-lists}
use Rattle.bucket_cache.proofs.{CacheLists.{pair_home, place_in, bucket_in_range, empty_lists, held_more}, FlatCaches.shaped}

-- a number within a bucket's row is in the flat order, and names a way
pub record Stands (ways b i : ℕ) (order : List ℕ) : Type 0 where
  pub room : b * ways + ways ≤ 65536
  pub below : i < ways
  pub within : b * ways + i < length order
  pub way : get_or order (b * ways + i) 0 < ways

read-order : (ways b i : ℕ) (order : List ℕ) → i < ways → get_or (flat_row ways b order) i 0 ≡ get_or order (b * ways + i) 0
read-order ways b i order h = get_or-take ways (drop (b * ways) order) i 0 h ∙ get_or-drop (b * ways) order i 0

-- a row written over with itself
same-row : (width b : ℕ) (xs : List ℕ) → with_row width b (flat_row width b xs) xs ≡ xs
same-row width b xs = rw (take-append-drop width (drop (b * width) xs), take-append-drop (b * width) xs)

module _ {ways kw : ℕ} {used order words : List ℕ} (b : ℕ) (are : AreBuckets ways kw used order words) (h : b < length used) where
  pub stands : (i : ℕ) → i < get_or used b 0 → Stands ways b i order
  stands i l =
      let is = bucket-is b are h in
      let long = order-long b are h in
      let within = is.within in
      let places = is.places in
      let below : i < ways = omega arith in
      let fits = row_fits b (length used) ways h in
      let whole = are.orders in
      let way = is.ways i 0 (omega arith) in
      let e = read-order ways b i order below in
      record { room = omega arith; below = below; within = omega arith; way = omega arith }

  pub flat-place : (i : ℕ) → i < get_or used b 0
      → slice_get (places_of (list_in ways kw used order words b)) i ≡ Some (b * ways + get_or order (b * ways + i) 0)
  flat-place i l =
      rw (
        list-is ways kw used order words b h,
        place-pair (b * ways) (get_or used b 0) i (flat_row ways b order)
            (flat_keys ways kw b words) (bucket-is b are h).within l,
        read-order ways b i order (stands i l).below,
      )

  pub flat-no-place : (i : ℕ) → get_or used b 0 ≤ i → slice_get (places_of (list_in ways kw used order words b)) i ≡ None
  flat-no-place i l =
      rw (
        list-is ways kw used order words b h,
        no-place (b * ways) (get_or used b 0) i (flat_row ways b order) (flat_keys ways kw b words)
            (bucket-is b are h).within l,
      )

  pub flat-least : slice_get (places_of (list_in ways kw used order words b)) (get_or used b 0 - 1)
      ≡ least_place (list_in ways kw used order words b)
  flat-least = rw (all-used b are h)

  pub flat-no-least : get_or used b 0 ≡ 0 → least_place (list_in ways kw used order words b) ≡ None
  flat-no-least none = sym flat-least ∙ flat-no-place (get_or used b 0 - 1) (omega arith)

  pub fewer-buckets : AreBuckets ways kw (set used b (get_or used b 0 - 1)) order words
  fewer-buckets =
      let o = flat_row ways b order in
      let row = flat_row (ways * kw) b words in
      subst₂ (AreBuckets ways kw (set used b (get_or used b 0 - 1))) (same-row ways b order) (same-row (ways * kw) b words)
      (written-buckets b are h (get_or used b 0 - 1) o row (order-long b are h) (words-long b are h)
      (fewer-bucket (bucket-is b are h)))

  pub fewer-lists : lists_in ways kw (set used b (get_or used b 0 - 1)) order words ≡ set (lists_in ways kw used order words) b
      (take (length (list_in ways kw used order words b) - 1) (list_in ways kw used order words b))
  fewer-lists =
      let o = flat_row ways b order in
      let row = flat_row (ways * kw) b words in
      ap₂ (lists_in ways kw (set used b (get_or used b 0 - 1))) (sym (same-row ways b order)) (sym (same-row (ways * kw) b words))
      ∙ (written-lists b are h (get_or used b 0 - 1) o row (order-long b are h) (words-long b are h)
      ∙ ap (set (lists_in ways kw used order words) b)
      (fewer-pairs (b * ways) (get_or used b 0) o (rows_of kw ways row) (bucket-is b are h).within
      ∙ ap (λ ps. take (length ps - 1) ps) (sym (list-is ways kw used order words b h))))

row-key : (b ways way kw : ℕ) (words : List ℕ) → way < ways
    → take kw (drop ((b * ways + way) * kw) words) ≡ take kw (drop (way * kw) (flat_row (ways * kw) b words))
row-key b ways way kw words h =
    let f = row_fits way ways kw h in
    let rest = ways * kw - way * kw in
    let split : way * kw + rest ≡ ways * kw = omega arith in
    let xs = drop (b * (ways * kw)) words in
    let here : drop (way * kw) xs ≡ drop ((b * ways + way) * kw) words = drop-drop (way * kw) (b * (ways * kw)) words
    ∙ ap (λ n. drop n words) (place-word b ways way kw) in
    let cut : drop (way * kw) (take (ways * kw) xs) ≡ take rest (drop (way * kw) xs) = ap (λ n. drop (way * kw) (take n xs)) (sym split)
    ∙ drop-take (way * kw) rest xs in
    sym (ap (take kw) cut ∙ (take-take kw rest (drop (way * kw) xs) (omega arith) ∙ ap (take kw) here))

-- the words of the key at a place
module _ {ways kw ew : ℕ} {used order words : List ℕ} {entries : List (List ℕ)} (s : IsFlatCache ways kw ew used order words entries)
    (at : ℕ) (h : at < length entries) where
  in_places : at < length used * ways
  in_places = rw (← s.places) h

  pub key-fits : at * kw + kw ≤ length words
  key-fits =
      let f = row_fits at (length used * ways) kw in_places in
      let a = mul_assoc (length used) ways kw in
      let flat = s.buckets.flat in
      omega arith

  pub key-long : (row : List ℕ) → row ≡ take kw (drop (at * kw) words) → length row ≡ kw
  key-long row e = row_width (length used * ways) at kw words row in_places (rw (s.buckets.flat, mul_assoc (length used) ways kw)) e

  pub flat-key : (bucket i : ℕ) (pair : Pair) → slice_get (list_in ways kw used order words bucket) i ≡ Some pair → pair.place ≡ at
      → take kw (drop (at * kw) words) ≡ pair.key
  flat-key bucket i pair e p =
      let b = at / ways in
      let way = at % ways in
      let split = place_in ways at s.some in
      let place : b * ways + way ≡ at = split.0 in
      let below : way < ways = split.1 in
      let range : b < length used = bucket_in_range ways at (length used) s.some in_places in
      let same : bucket ≡ b = pair_home ways kw ew (buckets_of ways kw used order words) entries bucket i at pair (shaped s) e p in
      let o = flat_row ways b order in
      let keys = flat_keys ways kw b words in
      let here : slice_get (pairs_at (b * ways) keys (take (get_or used b 0) o)) i ≡ Some pair =
      ap (λ ps. slice_get ps i) (sym (list-is ways kw used order words b range))
      ∙ (ap (λ n. slice_get (list_in ways kw used order words n) i) (sym same) ∙ e) in
      ap (λ n. take kw (drop (n * kw) words)) (sym place)
      ∙ (row-key b ways way kw words below
      ∙ (sym (get-rows_of kw ways (flat_row (ways * kw) b words) way [] below)
      ∙ key-pair (b * ways) kw (get_or used b 0) o keys (bucket-is b s.buckets range) way i pair here (p ∙ sym place)))

-- buckets of which no way is in use
pub no-lists : (ways kw count : ℕ) (order words : List ℕ) → lists_in ways kw (replicate count 0) order words ≡ replicate count []
no-lists ways kw count order words =
    let used : List ℕ = replicate count 0 in
    let many : length used ≡ count = length-replicate count 0 in
    let long = length-buckets_of ways kw used order words in
    empty_lists (buckets_of ways kw used order words) (λ k d h.
    let l : k < length used = subst (λ n. k < n) long h in
    let o = get_or (orders_of ways used order) k [] in
    let keys = rows_of kw ways (get_or (words_of ways kw used words) k []) in
    ap (λ (r : Recency). r.pairs) (get-buckets_of ways kw used order words k d l)
    ∙ ap (λ n. pairs_at (k * ways) keys (take n o)) (get_or-replicate count k 0 0 (subst (λ n. k < n) many l)))
    ∙ ap (λ n. replicate n []) (long ∙ many)

pub new-buckets : (ways kw count : ℕ) (order words : List ℕ) → 0 < ways → kw ≤ 8 → count * ways ≤ 65536 → length order ≡ count * ways
    → length words ≡ count * ways * kw
    → ((k : ℕ) → k < count * ways → get_or order k 0 ≡ k % ways) → AreBuckets ways kw (replicate count 0) order words
new-buckets ways kw count order words some short room eo ew each =
    let used : List ℕ = replicate count 0 in
    let many : length used ≡ count = length-replicate count 0 in
    let orders : length order ≡ length used * ways = eo ∙ ap (λ n. n * ways) (sym many) in
    let flat : length words ≡ length used * (ways * kw) = ew ∙ (mul_assoc count ways kw ∙ ap (λ n. n * (ways * kw)) (sym many)) in
    record {
      orders = orders;
      flat = flat;
      each = λ b h.
          let o = flat_row ways b order in
          let row = flat_row (ways * kw) b words in
          let long : length o ≡ ways = row-long ways b (length used) order h orders in
          let wide : length row ≡ ways * kw = row-long (ways * kw) b (length used) words h flat in
          let below_count : b < count = subst (λ n. b < n) many h in
          let fits : b * ways + ways ≤ count * ways = row_fits b count ways below_count in
          let is : IsBucket (b * ways) kw 0 o (rows_of kw (length o) row) =
          empty-bucket (b * ways) kw o row (omega arith) short (omega arith)
          (λ k l. let below : k < ways = omega arith in
          read-order ways b k order below ∙ (each (b * ways + k) (omega arith) ∙ mod-mul-add b ways k below))
          (wide ∙ ap (λ n. n * kw) (sym long)) in
          subst (λ u. IsBucket (b * ways) kw u (get_or (orders_of ways used order) b [])
          (rows_of kw ways (get_or (words_of ways kw used words) b []))) (sym (get_or-replicate count b 0 0 below_count))
          (subst₂ (λ x y. IsBucket (b * ways) kw 0 x (rows_of kw ways y)) (sym (get-rows_of ways (length used) order b [] h))
          (sym (get-rows_of (ways * kw) (length used) words b [] h))
          (subst (λ n. IsBucket (b * ways) kw 0 o (rows_of kw n row)) long is));
    }

-- the pairs of one bucket more are counted
pub flat-more : {ways kw ew : ℕ} {used order words : List ℕ} {entries : List (List ℕ)} → IsFlatCache ways kw ew used order words entries
    → (held i : ℕ) → i < length used
    → held ≡ sum_by (λ ps. length ps) (take i (lists_in ways kw used order words)) → held ≤ i * ways
    → (held + get_or used i 0 ≡ sum_by (λ ps. length ps) (take (i + 1) (lists_in ways kw used order words)))
    × (held + get_or used i 0 ≤ (i + 1) * ways)
flat-more {ways} {kw} {ew} {used} {order} {words} {entries} s held i h e b =
    let buckets = buckets_of ways kw used order words in
    let inside = subst (λ n. i < n) (sym (length-buckets_of ways kw used order words)) h in
    let r = get_or buckets i no_bucket in
    let more = held_more ways kw ew held buckets entries i r (shaped s) inside (get_or_default buckets i no_bucket r inside) e b in
    let pairs = sym (ap length (get_or-map (λ (x : Recency). x.pairs) buckets i no_bucket [] inside))
    ∙ all-used i s.buckets h in
    rw (← pairs) more
