-- The lists of a cache, by its buckets.
use Rattle.std.proofs.Common.{◌≡◌, ◌≢◌, ◌⊎◌, ℕ, suc, ◌∷◌, ◌+◌, ◌*◌, ◌<◌, ◌≤◌, List, [], Some, length, map, get_or, take, replicate, All}
use Rattle.std.proofs.Common.{AllPairs, mul_comm, refl, sym, ap, ◌∙◌, subst, ⊎_elim, arith}
use Rattle.std.proofs.{Math.Nat.{div-add-mod, mod-lt, div-lt_iff_lt-mul}, lemmas.Bool.{cases_order, ltb-true, ltb-false}}
use Rattle.std.proofs.lemmas.{List.{get_or-map, length-map, get_or_past, Elements.All-nil, Sums.sum_by_more}, Option.get_or_from_slice_get}
use Rattle.std.specs.Prelude.{nat_lt, slice_get, sum_by, ◌/◌, ◌%◌}
use Rattle.bucket_cache.{specs.{Buckets.{Pair, Recency, AreKeysOnce}, Caches.IsSoundCache}, proofs.Shapes.{IsHome, IsShaped}}
use Rattle.bucket_cache.proofs.{FlatRows.row_fits, BucketLists.some-get, Fronts.by_test}

abbrev pub lists_of : List Recency → List (List Pair)
lists_of buckets = map (λ r. r.pairs) buckets

pub list_old : (buckets : List Recency) (i : ℕ) (r : Recency) → i < length buckets → r ≡ get_or buckets i r
    → get_or (lists_of buckets) i [] ≡ r.pairs
list_old buckets i r h e = get_or-map (λ (r : Recency). r.pairs) buckets i r [] h ∙ ap (λ (x : Recency). x.pairs) (sym e)

pub home_at : (ways kw ew : ℕ) (buckets : List Recency) (entries : List (List ℕ)) (i : ℕ) (r : Recency)
    → IsShaped ways kw ew buckets entries → i < length buckets → r ≡ get_or buckets i r → IsHome ways kw (i * ways) r
home_at ways kw _ _ _ i r s h e = rw e (s.each i r h)

-- two rows that share a place are one row
pub same_row : (one two width place : ℕ) → one * width ≤ place → place < one * width + width → two * width ≤ place → place < two * width
    + width → one ≡ two
same_row one two width place a b c d = ⊎_elim
    (λ (e : one ≡ two). e)
    (λ (o : (one < two) ⊎ (two < one)). ⊎_elim
    (λ (l : one < two). let f = row_fits one two width l in absurd (omega arith))
    (λ (l : two < one). let f = row_fits two one width l in absurd (omega arith))
    o)
    (cases_order one two)

nothing : Recency
nothing = record { first = 0; ways = 0; key_words = 0; pairs = [] }

-- a fact about each bucket's list, also past the last bucket
on_lists : (buckets : List Recency) (P : ℕ → List Pair → Type 0) → ((b : ℕ) → P b [])
    → ((b : ℕ) → b < length buckets → P b (get_or buckets b nothing).pairs) → (b : ℕ) → P b (get_or (lists_of buckets) b [])
on_lists buckets P none some b = by_test (nat_lt b (length buckets))
    (λ t. let l = ltb-true b (length buckets) t in subst (P b) (sym (get_or-map (λ (r : Recency). r.pairs) buckets b nothing [] l))
    (some b l))
    (λ t. let past = ltb-false b (length buckets) t in let long = length-map buckets (λ (r : Recency). r.pairs) in subst (P b)
    (sym (get_or_past (lists_of buckets) b [] (omega arith))) (none b))

abbrev IsIn : ℕ → ℕ → Pair → Type 0
IsIn first ways pair = (first ≤ pair.place) × (pair.place < first + ways)

in_lists : (ways kw ew : ℕ) (buckets : List Recency) (entries : List (List ℕ)) → IsShaped ways kw ew buckets entries → (b : ℕ)
    → All (IsIn (b * ways) ways) (get_or (lists_of buckets) b [])
in_lists ways _ _ buckets _ s = on_lists buckets (λ b ps. All (IsIn (b * ways) ways) ps) (λ b. All-nil (IsIn (b * ways) ways))
    (λ b l. let h = s.each b nothing l in let r = get_or buckets b nothing in
    subst (λ n. All (IsIn (b * ways) n) r.pairs) h.of_ways (subst (λ n. All (IsIn n r.ways) r.pairs) h.of_first h.sound.places))

-- the fact about a pair, by its number in the list
at_pair : (P : Pair → Type 0) (pairs : List Pair) (i : ℕ) (p : Pair) → All P pairs → slice_get pairs i ≡ Some p → P p
at_pair P pairs i p a e = rw (← get_or_from_slice_get pairs i p p e) (a i p (some-get pairs i p e))

-- in one list a place is that of one pair
one_list : (pairs : List Pair) (i j : ℕ) (p q : Pair) → AllPairs (λ pair other. pair.place ≢ other.place) pairs → slice_get pairs i ≡ Some p
    → slice_get pairs j ≡ Some q → p.place ≡ q.place → i ≡ j
one_list pairs i j p q a e f s =
    let same =
    ap (λ (x : Pair). x.place) (get_or_from_slice_get pairs i p p e) ∙ (s
    ∙ ap (λ (x : Pair). x.place) (sym (get_or_from_slice_get pairs j q p f))) in
    ⊎_elim
    (λ (h : i ≡ j). h)
    (λ (o : (i < j) ⊎ (j < i)). ⊎_elim
    (λ (l : i < j). absurd (a i j p l (some-get pairs j q f) same))
    (λ (l : j < i). absurd (a j i p l (some-get pairs i p e) (sym same)))
    o)
    (cases_order i j)

pub cache_sound : (ways kw ew : ℕ) (buckets : List Recency) (entries : List (List ℕ)) → IsShaped ways kw ew buckets entries
    → IsSoundCache ways (record { key_words = kw; entry_words = ew; lists = lists_of buckets; entries = entries })
cache_sound ways kw ew buckets entries s =
    let inside = in_lists ways kw ew buckets entries s in
    let apart =
    on_lists buckets (λ b ps. AllPairs (λ pair other. pair.place ≢ other.place) ps) (λ b i j d l m. absurd (omega arith))
    (λ b l. (s.each b nothing l).sound.apart) in
    let long = length-map buckets (λ (r : Recency). r.pairs) in
    record {
      few = on_lists buckets (λ b ps. length ps ≤ ways) (λ b. omega arith)
          (λ b l. let h = s.each b nothing l in rw (← h.of_ways) h.sound.few);
      once = on_lists buckets (λ b ps. AreKeysOnce ps) (λ b. tt) (λ b l. (s.each b nothing l).sound.once);
      words = on_lists buckets (λ b ps. All (λ pair. length pair.key ≡ kw) ps) (λ b. All-nil (λ pair. length pair.key ≡ kw))
          (λ b l. let h = s.each b nothing l in rw (← h.of_key_words) h.sound.words);
      places = inside;
      within = λ b k d l.
          let home = inside b k d l in
          let in_range = by_test (nat_lt b (length buckets)) (λ t. ltb-true b (length buckets) t)
          (λ t. let past = ltb-false b (length buckets) t in let none =
          ap length (get_or_past (lists_of buckets) b [] (omega arith)) in absurd (omega arith)) in
          let f = row_fits b (length buckets) ways in_range in
          let e = s.places in
          let h = home.1 in
          omega arith;
      apart = λ one two i j p q e f same.
          let a = at_pair (IsIn (one * ways) ways) (get_or (lists_of buckets) one []) i p (inside one) e in
          let b = at_pair (IsIn (two * ways) ways) (get_or (lists_of buckets) two []) j q (inside two) f in
          let bucket = same_row one two ways p.place a.0 a.1 (rw same b.0)
          (rw same b.1) in (
            bucket,
            one_list (get_or (lists_of buckets) two []) i j p q (apart two)
                (rw (← bucket) e) f same,
          );
      entries = rw (s.places, long);
      entry_words = s.words;
    }

-- the bucket of a place, and the way in it
pub place_in : (ways place : ℕ) → 0 < ways → (place / ways * ways + place % ways ≡ place) × (place % ways < ways)
place_in ways place h = (let e = div-add-mod place ways in let c = mul_comm ways (place / ways) in omega arith, mod-lt place h)

pub bucket_in_range : (ways place count : ℕ) → 0 < ways → place < count * ways → place / ways < count
bucket_in_range _ _ _ h l = (div-lt_iff_lt-mul h).1 l

-- the pair at a place is in the place's bucket
pub pair_home : (ways kw ew : ℕ) (buckets : List Recency) (entries : List (List ℕ)) (bucket i place : ℕ) (pair : Pair)
    → IsShaped ways kw ew buckets entries
    → slice_get (get_or (lists_of buckets) bucket []) i ≡ Some pair → pair.place ≡ place → bucket ≡ place / ways
pair_home ways kw ew buckets entries bucket i place pair s e p =
    let home = at_pair (IsIn (bucket * ways) ways) (get_or (lists_of buckets) bucket []) i pair
    (in_lists ways kw ew buckets entries s bucket) e in
    let split = place_in ways place s.some in
    let a = home.0 in
    let b = home.1 in
    let c = split.0 in
    let d = split.1 in
    same_row bucket (place / ways) ways place (omega arith) (omega arith) (omega arith) (omega arith)

pub empty_lists : (buckets : List Recency) → ((k : ℕ) (d : Recency) → k < length buckets → (get_or buckets k d).pairs ≡ [])
    → lists_of buckets ≡ replicate (length buckets) []
empty_lists [] h = refl
empty_lists (r ∷ buckets) h = rw (h 0 r (omega arith), empty_lists buckets (λ k d l. h (suc k) d (omega arith)))

-- one bucket more is counted
pub held_more : (ways kw ew held : ℕ) (buckets : List Recency) (entries : List (List ℕ)) (i : ℕ) (r : Recency)
    → IsShaped ways kw ew buckets entries → i < length buckets → r ≡ get_or buckets i r
    → held ≡ sum_by (λ ps. length ps) (take i (lists_of buckets)) → held ≤ i * ways
    → (held + length r.pairs ≡ sum_by (λ ps. length ps) (take (i + 1) (lists_of buckets))) × (held + length r.pairs ≤ (i + 1) * ways)
held_more ways kw ew held buckets entries i r s h e n b =
    let long = length-map buckets (λ (r : Recency). r.pairs) in
    let home = home_at ways kw ew buckets entries i r s h e in
    let few = subst (λ w. length r.pairs ≤ w) home.of_ways home.sound.few in
    let more = sum_by_more (λ (ps : List Pair). length ps) (lists_of buckets) i [] (omega arith) in
    let this = ap length (list_old buckets i r h e) in
    (omega arith, omega arith)
