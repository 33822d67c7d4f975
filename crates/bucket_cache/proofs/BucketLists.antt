-- A bucket's pairs after a key moves to the front, or a new one comes.
use Rattle.std.proofs.Common.{◌≡◌, ◌≢◌, length-set, ℕ, zero, suc, ◌+◌, ◌-◌, ◌*◌, ◌<◌, ◌≤◌, Bool, true, false, List, [], ◌∷◌, Some, None}
use Rattle.std.proofs.Common.{length, take, get_or, set, refl, sym, ap, ap₂, ◌∙◌, subst, arith, All, AllPairs, get_or-take}
use Rattle.std.proofs.Common.{get_or-set_other, get_or-set_same, take-take}
use Rattle.std.proofs.lemmas.List.{get_or_default, length-map, take-map, get_or-map, length-take-le, Elements.{All-set, recursion_from_All}}
use Rattle.std.{proofs.lemmas.Option.{slice_get-get_or, slice_get_past, get_or_from_slice_get}, specs.List.AllByRecursion}
use Rattle.std.specs.Prelude.{slice_get}
use Rattle.epoch_model.specs.Keys.{Key, key_eq}
use Rattle.bucket_cache.specs.{Slices.{at_front, rows_of}, Touches.IsLeast, Buckets.{Pair, has_key, place_of_key, places_of, without_key}}
use Rattle.bucket_cache.{specs.Buckets.{AreKeysOnce, pair_at, pairs_at, IsBucket, IsSound}, proofs.FlatRows.{length-rows_of, rows_of-words}}
use Rattle.bucket_cache.proofs.Fronts.{length-at_front, take-at_front, map-at_front, take_more-at_front, All-at_front, AllPairs-at_front}
use Rattle.bucket_cache.proofs.PairLists.{absent_head, has-at, place-at, front-pair, once-front, has-front, once-take}

-- what `find_key` says about a way
abbrev pub Matches : List Key → List ℕ → ℕ → Key → Bool → Type 0
Matches keys ways at key answer = key_eq (get_or keys (get_or ways at 0) []) key ≡ answer

-- the ways in use are the first ones
matches-front : (used at : ℕ) (order : List ℕ) (keys : List Key) (key : Key) (answer : Bool) → at < used
    → Matches keys order at key answer → Matches keys (take used order) at key answer
matches-front used at order keys key _ l h = ap (λ way. key_eq (get_or keys way []) key) (get_or-take used order at 0 l) ∙ h

in-front : (used at : ℕ) (order : List ℕ) → used ≤ length order → at < used → at < length (take used order)
in-front used at order w l = rw (length-take-le used order w) l

matching : (first at : ℕ) (ways : List ℕ) (keys : List Key) (key : Key) → at < length ways → Matches keys ways at key true
    → key_eq (get_or (pairs_at first keys ways) at (pair_at first keys 0)).key key ≡ true
matching first at ways keys key h e = ap (λ (p : Pair). key_eq p.key key)
    (get_or-map (pair_at first keys) ways at 0 (pair_at first keys 0) h) ∙ e

long_pairs : (first : ℕ) (ways : List ℕ) (keys : List Key) → length (pairs_at first keys ways) ≡ length ways
long_pairs first ways keys = length-map ways (pair_at first keys)

place_is : (first used at : ℕ) (order : List ℕ) (keys : List Key) → at < length (take used order) → at < used
    → (get_or (pairs_at first keys (take used order)) at (pair_at first keys 0)).place ≡ first + get_or order at 0
place_is first used at order keys h l =
    ap (λ (p : Pair). p.place) (get_or-map (pair_at first keys) (take used order) at 0 (pair_at first keys 0) h)
    ∙ ap (λ n. first + n) (get_or-take used order at 0 l)

module _ {first kw used : ℕ} {order : List ℕ} {keys : List Key} (b : IsBucket first kw used order keys) (at : ℕ) (key : Key) (l : at < used)
    (same : Matches keys order at key true) where
  here : at < length (take used order)
  here = in-front used at order b.within l

  is_key : key_eq (get_or (pairs_at first keys (take used order)) at (pair_at first keys 0)).key key ≡ true
  is_key = matching first at (take used order) keys key here (matches-front used at order keys key true l same)

  among : at < length (pairs_at first keys (take used order))
  among = let long = long_pairs first (take used order) keys in let h = here in omega arith

  pub hit-has : has_key key (pairs_at first keys (take used order)) ≡ true
  hit-has = has-at at (pair_at first keys 0) key (pairs_at first keys (take used order)) among is_key

  pub hit-place : place_of_key key (pairs_at first keys (take used order)) ≡ Some (first + get_or order at 0)
  hit-place = place-at at (pair_at first keys 0) key (pairs_at first keys (take used order)) among b.once is_key
      ∙ ap (λ n. Some n) (place_is first used at order keys here l)

  pub hit-pairs : pairs_at first keys (take used (at_front at order)) ≡ record { key = key; place = first + get_or order at 0 }
      ∷ without_key key (pairs_at first keys (take used order))
  hit-pairs =
      let ps = pairs_at first keys (take used order) in
      ap (pairs_at first keys) (take-at_front used at order l b.within)
      ∙ (map-at_front (pair_at first keys) at (take used order)
      ∙ (front-pair at (pair_at first keys 0) key ps among b.once is_key
      ∙ ap (λ n. record { key = key; place = n } ∷ without_key key ps) (place_is first used at order keys here l)))

  pub hit-bucket : IsBucket first kw used (at_front at order) keys
  hit-bucket =
      let w = b.within in
      let low : at < length order = omega arith in
      let long = length-at_front at order low in
      let s = b.some in
      let room = b.places in
      record {
        some = omega arith;
        same = let m = b.same in omega arith;
        within = omega arith;
        words = b.words;
        short = b.short;
        places = omega arith;
        ways = subst (λ n. All (λ way. way < n) (at_front at order)) (sym long)
            (All-at_front (λ way. way < length order) at order b.ways);
        apart = AllPairs-at_front at order low b.apart;
        once = rw hit-pairs (once-front key (first + get_or order at 0) (pairs_at first keys (take used order)) b.once);
      }

-- where the first pair has another key, so has the first way in use
pub other-first : (first used : ℕ) (order : List ℕ) (keys : List Key) (key : Key) → 0 < used → used ≤ length order
    → has_key key (take 1 (pairs_at first keys (take used order))) ≡ false → Matches keys order 0 key false
other-first first zero order keys key some within h = absurd (omega arith)
other-first first (suc used) [] keys key some within h = absurd (omega arith)
other-first first (suc _) (way ∷ _) keys key _ _ h = (absent_head key (pair_at first keys way) [] h).0

pub none-has : (first : ℕ) (ways : List ℕ) (keys : List Key) (key : Key) → ((at : ℕ) → at < length ways → Matches keys ways at key false)
    → has_key key (pairs_at first keys ways) ≡ false
none-has _ [] _ _ h = refl
none-has first (way ∷ ways) keys key h =
    let this = h 0 (omega arith) in
    rw this (none-has first ways keys key (λ at l. h (suc at) (omega arith)))

pub none-in-front : (first used : ℕ) (order : List ℕ) (keys : List Key) (key : Key) → used ≤ length order
    → ((at : ℕ) → at < used → Matches keys order at key false) → has_key key (pairs_at first keys (take used order)) ≡ false
none-in-front first used order keys key w h = none-has first (take used order) keys key (λ at l.
    let l' = subst (λ n. at < n) (length-take-le used order w) l in
    matches-front used at order keys key false l' (h at l'))

-- a key at a way that isn't among these changes no pair of these
pairs-set : (first way : ℕ) (key : Key) (keys : List Key) (ways : List ℕ) → AllByRecursion (λ other. other ≢ way) ways
    → pairs_at first (set keys way key) ways ≡ pairs_at first keys ways
pairs-set _ _ _ _ [] a = refl
pairs-set first way key keys (other ∷ ways) a =
    ap₂ (λ k ps. record { key = k; place = first + other } ∷ ps) (get_or-set_other keys way other key [] a.0)
    (pairs-set first way key keys ways a.1)

not_among : (used : ℕ) (order : List ℕ) → used < length order → AllPairs (λ way other. way ≢ other) order
    → AllByRecursion (λ other. other ≢ get_or order used 0) (take used order)
not_among used order h a = recursion_from_All (λ other. other ≢ get_or order used 0) (take used order) (λ k d l.
    let long = length-take-le used order (omega arith) in
    let below : k < used = omega arith in
    λ e. a k used 0 below h (sym (get_or-take used order k 0 below) ∙ (get_or_default (take used order) k 0 d l ∙ e)))

module _ {first kw used : ℕ} {order : List ℕ} {keys : List Key} (b : IsBucket first kw used order keys) (h : used < length order)
    {keys' : List Key} (key : Key) (s : keys' ≡ set keys (get_or order used 0) key) where
  pub free-pairs : pairs_at first keys' (take (used + 1) (at_front used order))
      ≡ record { key = key; place = first + get_or order used 0 } ∷ pairs_at first keys (take used order)
  free-pairs =
      let way = get_or order used 0 in
      let m = b.same in
      let in_keys : way < length keys = let w = b.ways used 0 h in omega arith in
      ap (pairs_at first keys') (take_more-at_front used 0 order h)
      ∙ ap₂ (λ k ps. record { key = k; place = first + way } ∷ ps)
      (ap (λ ks. get_or ks way []) s ∙ get_or-set_same keys way key [] in_keys)
      (ap (λ ks. pairs_at first ks (take used order)) s ∙ pairs-set first way key keys (take used order) (not_among used order h b.apart))

  pub free-bucket : has_key key (pairs_at first keys (take used order)) ≡ false → length key ≡ kw
      → IsBucket first kw (used + 1) (at_front used order) keys'
  free-bucket none w =
      let long = length-at_front used order h in
      let same : length keys' ≡ length keys = ap length s ∙ length-set keys (get_or order used 0) key in
      let room = b.places in
      record {
        some = omega arith;
        same = let m = b.same in omega arith;
        within = omega arith;
        words = subst (λ ks. All (λ k. length k ≡ kw) ks) (sym s)
            (All-set (λ k. length k ≡ kw) keys (get_or order used 0) key w b.words);
        short = b.short;
        places = omega arith;
        ways = subst (λ n. All (λ way. way < n) (at_front used order)) (sym long)
            (All-at_front (λ way. way < length order) used order b.ways);
        apart = AllPairs-at_front used order h b.apart;
        once = subst AreKeysOnce (sym free-pairs) (none, b.once);
      }

pub some-get : {X : Type 0} (xs : List X) (i : ℕ) (x : X) → slice_get xs i ≡ Some x → i < length xs
some-get [] i x e = cc
some-get (y ∷ xs) zero x e = omega arith
some-get (y ∷ xs) (suc i) x e = let rest = some-get xs i x e in omega arith

-- the place of a way in use
pub place-pair : (first used i : ℕ) (order : List ℕ) (keys : List Key) → used ≤ length order → i < used
    → slice_get (places_of (pairs_at first keys (take used order))) i ≡ Some (first + get_or order i 0)
place-pair first used i order keys l h =
    let ways = take used order in
    let ps = pairs_at first keys ways in
    let in_ways = in-front used i order l h in
    let in_pairs = subst (λ n. i < n) (sym (long_pairs first ways keys)) in_ways in
    rw (
      slice_get-get_or (places_of ps) i 0 (subst (λ n. i < n) (sym (length-map ps (λ (p : Pair). p.place))) in_pairs),
      get_or-map
          (λ (p : Pair). p.place) ps i (pair_at first keys 0) 0 in_pairs,
      place_is first used i order keys in_ways h,
    )

pub no-place : (first used i : ℕ) (order : List ℕ) (keys : List Key) → used ≤ length order → used ≤ i
    → slice_get (places_of (pairs_at first keys (take used order))) i ≡ None
no-place first used i order keys l h =
    let ps = pairs_at first keys (take used order) in
    let all = length-map ps (λ (p : Pair). p.place) in
    let long = long_pairs first (take used order) keys in
    let few = length-take-le used order l in
    slice_get_past (places_of ps) i (omega arith)

-- the pair of the last way in use is the least recent one
pub least-pair : (first used : ℕ) (order : List ℕ) (keys : List Key) → 0 < used → used ≤ length order
    → IsLeast (pairs_at first keys (take used order)) (first + get_or order (used - 1) 0)
least-pair first used order keys h l =
    let ps = pairs_at first keys (take used order) in
    rw (long_pairs first (take used order) keys, length-take-le used order l, place-pair first used (used - 1) order keys l (omega arith))

pub few-pairs : (first used : ℕ) (order : List ℕ) (keys : List Key) → used ≤ length order
    → length (pairs_at first keys (take used order)) ≡ used
few-pairs first used order keys l = long_pairs first (take used order) keys ∙ length-take-le used order l

-- the pairs of one way fewer
pub fewer-pairs : (first used : ℕ) (order : List ℕ) (keys : List Key) → used ≤ length order
    → pairs_at first keys (take (used - 1) order) ≡ take (length (pairs_at first keys (take used order)) - 1)
    (pairs_at first keys (take used order))
fewer-pairs first used order keys l =
    let ps = pairs_at first keys (take used order) in
    ap (pairs_at first keys) (sym (take-take (used - 1) used order (omega arith)))
    ∙ (sym (take-map (pair_at first keys) (used - 1) (take used order))
    ∙ ap (λ n. take (n - 1) ps) (sym (few-pairs first used order keys l)))

pub fewer-bucket : {first kw used : ℕ} {order : List ℕ} {keys : List Key} → IsBucket first kw used order keys
    → IsBucket first kw (used - 1) order keys
fewer-bucket {first} {kw} {used} {order} {keys} b =
    let w = b.within in
    record {
      some = b.some;
      same = b.same;
      within = omega arith;
      words = b.words;
      short = b.short;
      places = b.places;
      ways = b.ways;
      apart = b.apart;
      once = rw (fewer-pairs first used order keys b.within) (once-take (length (pairs_at first keys (take used order)) - 1)
          (pairs_at first keys (take used order)) b.once);
    }

module _ {first kw used : ℕ} {order : List ℕ} {keys : List Key} (b : IsBucket first kw used order keys) (full : used ≡ length order) where
  one_less : used - 1 < length order
  one_less = let some = b.some in omega arith

  one_more : used - 1 + 1 ≡ used
  one_more = let some = b.some in omega arith

module _ {first kw used : ℕ} {order : List ℕ} {keys : List Key} (b : IsBucket first kw used order keys) (full : used ≡ length order)
    {keys' : List Key} (key : Key) (s : keys' ≡ set keys (get_or order (used - 1) 0) key) where
  pub replaced-bucket : has_key key (pairs_at first keys (take used order)) ≡ false → length key ≡ kw
      → IsBucket first kw used (at_front (used - 1) order) keys'
  replaced-bucket none w =
      let ps = pairs_at first keys (take used order) in
      subst (λ n. IsBucket first kw n (at_front (used - 1) order) keys') (one_more b full)
      (free-bucket (fewer-bucket b) (one_less b full) key s
      (ap (has_key key) (fewer-pairs first used order keys b.within) ∙ has-front key (length ps - 1) ps none) w)

  pub replaced-pairs : pairs_at first keys' (take used (at_front (used - 1) order))
      ≡ record { key = key; place = first + get_or order (used - 1) 0 }
      ∷ take (length (pairs_at first keys (take used order)) - 1) (pairs_at first keys (take used order))
  replaced-pairs =
      ap (λ n. pairs_at first keys' (take n (at_front (used - 1) order))) (sym (one_more b full))
      ∙ (free-pairs (fewer-bucket b) (one_less b full) key s
      ∙ ap (λ ps. record { key = key; place = first + get_or order (used - 1) 0 } ∷ ps) (fewer-pairs first used order keys b.within))

-- the pair at a number, by the way there
pub pair-is : (first used i : ℕ) (order : List ℕ) (keys : List Key) (d : Pair) → used ≤ length order → i < used
    → get_or (pairs_at first keys (take used order)) i d ≡ pair_at first keys (get_or order i 0)
pair-is first used i order keys d w l =
    let ways = take used order in
    let long_ways : length ways ≡ used = length-take-le used order w in
    let in_ways : i < length ways = subst (λ n. i < n) (sym long_ways) l in
    let in_pairs : i < length (pairs_at first keys ways) = subst (λ n. i < n) (sym (long_pairs first ways keys)) in_ways in
    get_or_default (pairs_at first keys ways) i d (pair_at first keys 0) in_pairs
    ∙ (get_or-map (pair_at first keys) ways i 0 (pair_at first keys 0) in_ways ∙ ap (pair_at first keys) (get_or-take used order i 0 l))

pub bucket_sound : (first kw used : ℕ) (order : List ℕ) (keys : List Key) → IsBucket first kw used order keys
    → IsSound (record { first = first; ways = length order; key_words = kw; pairs = pairs_at first keys (take used order) })
bucket_sound first kw used order keys b =
    let ps = pairs_at first keys (take used order) in
    let long = few-pairs first used order keys b.within in
    let within = b.within in
    let same = b.same in
    let is : (k : ℕ) (d : Pair) → k < length ps → get_or ps k d ≡ pair_at first keys (get_or order k 0) =
    λ k d l. pair-is first used k order keys d b.within (rw (← long) l) in
    record {
      few = omega arith;
      once = b.once;
      words = λ k d l.
          let h : get_or order k 0 < length keys = let w = b.ways k 0 (omega arith) in omega arith in
          ap (λ (p : Pair). length p.key) (is k d l) ∙ b.words (get_or order k 0) [] h;
      places = λ k d l.
          let h = b.ways k 0 (omega arith) in
          let e = ap (λ (p : Pair). p.place) (is k d l) in
          (omega arith, omega arith);
      apart = λ i j d l m.
          let i_in : i < length ps = omega arith in
          let n = b.apart i j 0 l (omega arith) in
          let e = ap (λ (p : Pair). p.place) (is i d i_in) in
          let f = ap (λ (p : Pair). p.place) (is j d m) in
          λ p. n (let q : get_or order i 0 ≡ get_or order j 0 = omega arith in q);
    }

-- the key of the pair at a place
pub key-pair : (first kw used : ℕ) (order : List ℕ) (keys : List Key) → IsBucket first kw used order keys → (way i : ℕ) (pair : Pair)
    → slice_get (pairs_at first keys (take used order)) i ≡ Some pair → pair.place ≡ first + way
    → get_or keys way [] ≡ pair.key
key-pair first kw used order keys b way i pair e p =
    let ps = pairs_at first keys (take used order) in
    let below : i < used = subst (λ n. i < n) (few-pairs first used order keys b.within) (some-get ps i pair e) in
    let is : pair_at first keys (get_or order i 0) ≡ pair = sym (pair-is first used i order keys pair b.within below)
    ∙ get_or_from_slice_get ps i pair pair e in
    let place = ap (λ (x : Pair). x.place) is in
    let same : way ≡ get_or order i 0 = omega arith in
    ap (λ w. get_or keys w []) same ∙ ap (λ (x : Pair). x.key) is

-- a bucket with no way in use, whose order is that of the ways
pub empty-bucket : (first kw : ℕ) (order words : List ℕ) → 0 < length order → kw ≤ 8 → first + length order ≤ 65536
    → ((k : ℕ) → k < length order → get_or order k 0 ≡ k) → length words ≡ length order * kw
    → IsBucket first kw 0 order (rows_of kw (length order) words)
empty-bucket first kw order words some short places each flat = record {
  some = some;
  same = length-rows_of kw (length order) words;
  within = omega arith;
  words = rows_of-words kw (length order) words flat;
  short = short;
  places = places;
  ways = λ k d h. let e = get_or_default order k d 0 h ∙ each k h in omega arith;
  apart = λ i j d l m.
      let i_in : i < length order = omega arith in
      let e = get_or_default order i d 0 i_in ∙ each i i_in in
      let f = get_or_default order j d 0 m ∙ each j m in
      λ p. omega arith;
  once = tt;
}
