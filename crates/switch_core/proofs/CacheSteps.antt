-- A cache that represents a machine still represents it after one of its buckets changed at the front.
use Rattle.std.proofs.Common.{◌≡◌, ℕ, zero, suc, ◌-◌, ◌<◌, true, false, List, [], ◌∷◌, ◌++◌, Some, None, length, take, get_or, set, All}
use Rattle.std.proofs.Common.{refl, sym, ap, ◌∙◌, subst, ⊎_elim, arith, length-set, get_or-set_same, get_or-set_other}
use Rattle.std.{proofs.lemmas.{Bool.{cases_eq, lt-ltb, le-ltb}, List.{set-get_or, length-map}}, specs.Prelude.{slice_get, nat_lt}}
use Rattle.epoch_model.specs.{Keys.{Key, ArgRow, bucket_of}, Machine.{Epoch, Machine, open_in, set_open, evict, packet, is_open}}
use Rattle.epoch_model.specs.Machine.{rows_in_epochs, without, with_row, with_new, all_but_last}
use Rattle.bucket_cache.specs.{Buckets.{Pair, places_of, without_key}, Caches.{Cache, list_at, entry_at, with_list, IsSoundCache}}
use Rattle.bucket_cache.specs.Touches.{Touches, with_pair_first, IsLeast, least_place}
use Rattle.bucket_cache.specs.declared.bucket.Touch.TheVariants.{Hit, Free, Full}
use Rattle.switch_core.specs.{Places.with_words, Lanes.{Standing, PairStands, PairsStand, CacheStands, geometry}}
use Rattle.switch_core.proofs.Standing.{by_test, pairs_long, pairs_map, pairs_take, has_open, pairs_without, place_stands}

-- the front pair's entry is written, and all others are unchanged
pub front_written : (stands : Standing) (ways : ℕ) (old touched : Cache) (bucket place : ℕ) (words : List ℕ) (key : Key) (tail : List Pair)
    (m n : Machine) (rows : List ArgRow) (epochs : List Epoch)
    → CacheStands stands old m → bucket < length old.lists → place < length old.entries
    → touched ≡ with_list old bucket (with_pair_first key place tail) → IsSoundCache ways touched
    → length n.recent ≡ length m.recent → ((other : ℕ) → (other ≡ bucket → ⊥) → open_in n other ≡ open_in m other)
    → stands words rows → PairsStand (PairStands stands old) tail epochs
    → CacheStands stands (with_words touched place words) (set_open n bucket (record { key = key; rows = rows } ∷ epochs))
front_written stands ways old touched bucket place words key tail m n rows epochs s h l t sound shape others w pairs =
    let new = with_words touched _ _ in
    let lists : (b : ℕ) → list_at new b ≡ get_or (set old.lists bucket (with_pair_first key place tail)) b [] =
    λ b. ap (λ c. get_or c.lists b []) t in
    let entries = ap (λ c. c.entries) t in
    let here = lists bucket
    ∙ get_or-set_same old.lists bucket (with_pair_first key place tail) [] h in
    let there : (b : ℕ) → (b ≡ bucket → ⊥) → list_at touched b ≡ list_at old b = λ b d. lists b
    ∙ get_or-set_other old.lists bucket b (with_pair_first key place tail) [] d in
    let first = ap (λ ps. slice_get ps 0) here in
    let kept : (at : ℕ) → (at ≡ place → ⊥) → entry_at new at ≡ entry_at old at =
    λ at d. get_or-set_other touched.entries place at words [] d ∙ ap (λ es. get_or es at []) entries in
    let written = get_or-set_same touched.entries place words []
    (rw entries l) in
    let other_place : (b i : ℕ) (q : Pair) → slice_get (list_at touched b) i ≡ Some q → ((b ≡ bucket) × (i ≡ 0) → ⊥) → q.place ≡ place → ⊥ =
    λ b i q e d p. d (sound.apart b bucket i 0 q (record { key = key; place = place }) e first p) in
    let moved : (b i : ℕ) (q : Pair) (x : Epoch) → slice_get (list_at touched b) i ≡ Some q → ((b ≡ bucket) × (i ≡ 0) → ⊥)
    → PairStands stands old q x → PairStands stands new q x =
    λ b i q x e d r. (r.0, rw (kept q.place (other_place b i q e d)) r.1) in
    record {
      buckets = ap length (ap (λ c. c.lists) t) ∙ (length-set old.lists bucket (with_pair_first key place tail)
          ∙ (s.buckets ∙ (sym shape ∙ sym (length-set n.recent bucket (record { key = key; rows = rows } ∷ epochs)))));
      each = λ b. ⊎_elim
          (λ e.
          rw e (subst (λ ps. PairsStand (PairStands stands new) ps (open_in (set_open n bucket (record { key = key; rows = rows } ∷ epochs))
          bucket)) (sym here)
          (subst (λ es. PairsStand (PairStands stands new) (with_pair_first key place tail) es)
          (sym (get_or-set_same n.recent bucket (record { key = key; rows = rows } ∷ epochs) [] (let a = s.buckets in omega arith))) (
            (refl, subst (λ ws. stands ws rows) (sym written) w),
            pairs_map (PairStands stands old) (PairStands stands new) tail epochs
                (λ i q x g r. moved bucket (suc i) q x (ap (λ ps. slice_get ps (suc i)) here ∙ g) (λ z. let y = z.1 in omega arith) r)
                pairs,
          ))))
          (λ d.
          rw (there b d) (subst (λ es. PairsStand (PairStands stands new) (list_at old b) es)
          (sym (get_or-set_other n.recent bucket b (record { key = key; rows = rows } ∷ epochs) [] d ∙ others b d))
          (pairs_map (PairStands stands old) (PairStands stands new) (list_at old b) (open_in m b)
          (λ i q x g r. moved b i q x (ap (λ ps. slice_get ps i) (there b d) ∙ g) (λ z. d z.0) r) (s.each b))))
          (cases_eq b bucket);
    }

packet_hit : (ways : ℕ) (old : Cache) (m : Machine) (key : Key) (row : ArgRow) (bucket : ℕ) → bucket ≡ bucket_of (length old.lists) key
    → is_open key (open_in m bucket) ≡ true
    → packet (geometry ways old) m key row ≡ set_open m bucket (with_row key row (open_in m bucket))
packet_hit ways old m key row bucket own o =
    let o' : is_open key (open_in m (bucket_of (length old.lists) key)) ≡ true = rw own at o in
    rw o' (ap (λ b. set_open m b (with_row key row (open_in m b))) (sym own))

packet_free : (ways : ℕ) (old : Cache) (m : Machine) (key : Key) (row : ArgRow) (bucket : ℕ) → bucket ≡ bucket_of (length old.lists) key
    → is_open key (open_in m bucket) ≡ false → nat_lt (length (open_in m bucket)) ways ≡ true
    → packet (geometry ways old) m key row ≡ set_open m bucket (with_new key row (open_in m bucket))
packet_free ways old m key row bucket own o r =
    let o' : is_open key (open_in m (bucket_of (length old.lists) key)) ≡ false = rw own at o in
    let r' : nat_lt (length (open_in m (bucket_of (length old.lists) key))) ways ≡ true =
    rw own at r in
    rw (o', r') (ap (λ b. set_open m b (with_new key row (open_in m b))) (sym own))

packet_full : (ways : ℕ) (old : Cache) (m : Machine) (key : Key) (row : ArgRow) (bucket : ℕ) → bucket ≡ bucket_of (length old.lists) key
    → is_open key (open_in m bucket) ≡ false → nat_lt (length (open_in m bucket)) ways ≡ false
    → packet (geometry ways old) m key row ≡ set_open (evict m bucket) bucket (with_new key row (open_in (evict m bucket) bucket))
packet_full ways old m key row bucket own o r =
    let o' : is_open key (open_in m (bucket_of (length old.lists) key)) ≡ false = rw own at o in
    let r' : nat_lt (length (open_in m (bucket_of (length old.lists) key))) ways ≡ false =
    rw own at r in
    rw (o', r') (ap (λ b. set_open (evict m b) b (with_new key row (open_in (evict m b) b))) (sym own))

pub hit_machine : (stands : Standing) (ways : ℕ) (old : Cache) (new : List Pair) (bucket place : ℕ) (key : Key) (row : ArgRow)
    → bucket ≡ bucket_of (length old.lists) key → Touches ways key (list_at old bucket) (Hit place) new
    → (m : Machine) → CacheStands stands old m → packet (geometry ways old) m key row ≡ set_open m bucket
    (with_row key row (open_in m bucket))
hit_machine stands ways old new bucket place key row own t m s =
    packet_hit ways old m key _ _ own (sym (has_open stands old _ _ _ (s.each bucket)) ∙ t.0)

pub free_machine : (stands : Standing) (ways : ℕ) (old : Cache) (new : List Pair) (bucket place : ℕ) (key : Key) (row : ArgRow)
    → bucket ≡ bucket_of (length old.lists) key → Touches ways key (list_at old bucket) (Free place) new
    → (m : Machine) → CacheStands stands old m → packet (geometry ways old) m key row ≡ set_open m bucket
    (with_new key row (open_in m bucket))
free_machine stands ways old new bucket place key row own t m s =
    let long = pairs_long _ _ _ (s.each bucket) in
    let few = t.1 in
    packet_free ways old m key row bucket own (sym (has_open stands old _ _ _ (s.each bucket)) ∙ t.0)
    (lt-ltb (length (open_in m bucket)) ways (omega arith))

pub full_machine : (stands : Standing) (ways : ℕ) (old : Cache) (new : List Pair) (bucket place : ℕ) (key : Key) (row : ArgRow)
    → bucket ≡ bucket_of (length old.lists) key → Touches ways key (list_at old bucket) (Full place) new
    → (m : Machine) → CacheStands stands old m → packet (geometry ways old) m key row ≡ set_open (evict m bucket) bucket
    (with_new key row (open_in (evict m bucket) bucket))
full_machine stands ways old new bucket place key row own t m s =
    let long = pairs_long _ _ _ (s.each bucket) in
    let many = t.1 in
    packet_full ways old m key row bucket own (sym (has_open stands old _ _ _ (s.each bucket)) ∙ t.0)
    (le-ltb (length (open_in m bucket)) ways (omega arith))

pub hit_stands : (stands : Standing) (ways : ℕ) (old touched new : Cache) (bucket place : ℕ) (key : Key) (row : ArgRow)
    → bucket ≡ bucket_of (length old.lists) key → bucket < length old.lists → place < length old.entries
    → Touches ways key (list_at old bucket) (Hit place) (list_at touched bucket) → touched ≡ with_list old bucket (list_at touched bucket)
    → IsSoundCache ways touched
    → new ≡ with_words touched place (entry_at new place) → ((rows : List ArgRow) → stands (entry_at touched place) rows
    → stands (entry_at new place) (rows ++ row ∷ []))
    → (m : Machine) → CacheStands stands old m → CacheStands stands new (packet (geometry ways old) m key row)
hit_stands stands ways old touched new bucket place key row own h l t rest sound w absorbed m s =
    let pairs = s.each bucket in
    let was : stands (entry_at old place) (rows_in_epochs key (open_in m bucket)) =
    place_stands stands old key place (list_at old bucket) (open_in m bucket) pairs t.1 in
    let same : entry_at touched place ≡ entry_at old place = ap (λ c. get_or c.entries place []) rest in
    let front : touched ≡ with_list old bucket (with_pair_first key place (without_key key (list_at old bucket))) = rest
    ∙ ap (with_list old bucket) t.2 in
    let after = front_written stands ways old touched bucket place (entry_at new place) key (without_key key (list_at old bucket)) m m
    (rows_in_epochs key (open_in m bucket) ++ row ∷ []) (without key (open_in m bucket))
    s h l front sound refl (λ b d. refl)
    (absorbed (rows_in_epochs key (open_in m bucket)) (subst (λ ws. stands ws (rows_in_epochs key (open_in m bucket))) (sym same) was))
    (pairs_without stands old key (list_at old bucket) (open_in m bucket) pairs) in
    let steps : packet (geometry ways old) m key row ≡ set_open m bucket (with_row key row (open_in m bucket)) =
    hit_machine stands ways old (list_at touched bucket) bucket place key row own t m s in
    subst (CacheStands stands new) (sym steps) (subst (λ c. CacheStands stands c (set_open m bucket (with_row key row (open_in m bucket))))
    (sym w) after)

pub free_stands : (stands : Standing) (ways : ℕ) (old touched new : Cache) (bucket place : ℕ) (key : Key) (row : ArgRow)
    → bucket ≡ bucket_of (length old.lists) key → bucket < length old.lists → place < length old.entries
    → Touches ways key (list_at old bucket) (Free place) (list_at touched bucket) → touched ≡ with_list old bucket (list_at touched bucket)
    → IsSoundCache ways touched
    → new ≡ with_words touched place (entry_at new place) → stands (entry_at new place) (row ∷ [])
    → (m : Machine) → CacheStands stands old m → CacheStands stands new (packet (geometry ways old) m key row)
free_stands stands ways old touched new bucket place key row own h l t rest sound w begun m s =
    let pairs = s.each bucket in
    let front : touched ≡ with_list old bucket (with_pair_first key place (list_at old bucket)) = rest ∙ ap (with_list old bucket) t.2 in
    let after = front_written stands ways old touched bucket place (entry_at new place) key (list_at old bucket) m m (row ∷ [])
    (open_in m bucket) s h l front sound refl (λ b d. refl) begun pairs in
    let steps : packet (geometry ways old) m key row ≡ set_open m bucket (with_new key row (open_in m bucket)) =
    free_machine stands ways old (list_at touched bucket) bucket place key row own t m s in
    subst (CacheStands stands new) (sym steps) (subst (λ c. CacheStands stands c (set_open m bucket (with_new key row (open_in m bucket))))
    (sym w) after)

-- closing the least recently used epoch of a bucket

pub evict_same : (m : Machine) (bucket : ℕ) → 0 < length (open_in m bucket) → bucket < length m.recent
    → open_in (evict m bucket) bucket ≡ all_but_last (open_in m bucket)
evict_same m bucket h l =
    let some = lt-ltb 0 (length (open_in m bucket)) h in
    rw some (get_or-set_same m.recent bucket (all_but_last (open_in m bucket)) [] l)

pub evict_other : (m : Machine) (bucket other : ℕ) → (other ≡ bucket → ⊥) → open_in (evict m bucket) other ≡ open_in m other
evict_other m bucket other d = by_test (nat_lt 0 (length (open_in m bucket)))
    (λ t. rw t (get_or-set_other m.recent bucket other (all_but_last (open_in m bucket)) [] d))
    (λ t. rw t)

pub evict_shape : (m : Machine) (bucket : ℕ) → length (evict m bucket).recent ≡ length m.recent
evict_shape m bucket = by_test (nat_lt 0 (length (open_in m bucket)))
    (λ t. rw t (length-set m.recent bucket (all_but_last (open_in m bucket))))
    (λ t. rw t)

pub as_it_was : (ways : ℕ) (old touched : Cache) (key : Key) (bucket place : ℕ)
    → Touches ways key (list_at old bucket) (Full place) (list_at touched bucket) → touched ≡ with_list old bucket (list_at touched bucket)
    → touched ≡ old
as_it_was ways old touched key bucket place t rest = rest ∙ (ap (with_list old bucket) t.3
    ∙ ap (λ ls. record old { lists = ls }) (set-get_or old.lists bucket []))

pub full_stands : (stands : Standing) (ways : ℕ) (old touched replaced new : Cache) (bucket seen place : ℕ) (key : Key) (row : ArgRow)
    → 0 < ways → bucket ≡ bucket_of (length old.lists) key → bucket < length old.lists → place < length old.entries
    → Touches ways key (list_at old bucket) (Full seen) (list_at touched bucket) → touched ≡ with_list old bucket (list_at touched bucket)
    → replaced ≡ with_list touched bucket (with_pair_first key place (take (length (list_at touched bucket) - 1) (list_at touched bucket)))
    → IsSoundCache ways replaced
    → new ≡ with_words replaced place (entry_at new place) → stands (entry_at new place) (row ∷ [])
    → (m : Machine) → CacheStands stands old m → CacheStands stands new (packet (geometry ways old) m key row)
full_stands stands ways old touched replaced new bucket seen place key row some own h l t rest more sound w begun m s =
    let pairs = s.each bucket in
    let list = list_at old bucket in
    let long = pairs_long (PairStands stands old) list (open_in m bucket) pairs in
    let many = t.1 in
    let untouched = as_it_was ways old touched key bucket seen t rest in
    let front : replaced ≡ with_list old bucket (with_pair_first key place (take (length list - 1) list)) =
    more ∙ ap (λ c. with_list c bucket (with_pair_first key place (take (length (list_at c bucket) - 1) (list_at c bucket)))) untouched in
    let left : PairsStand (PairStands stands old) (take (length list - 1) list) (open_in (evict m bucket) bucket) =
    subst (PairsStand (PairStands stands old) (take (length list - 1) list))
    (ap (λ n. take (n - 1) (open_in m bucket)) long ∙ sym (evict_same m bucket (omega arith) (let a = s.buckets in omega arith)))
    (pairs_take (PairStands stands old) (length list - 1) list (open_in m bucket) pairs) in
    let after = front_written stands ways old replaced bucket place (entry_at new place) key (take (length list - 1) list) m
    (evict m bucket) (row ∷ []) (open_in (evict m bucket) bucket)
    s h l front sound (evict_shape m bucket) (evict_other m bucket) begun left in
    let steps : packet (geometry ways old) m key row ≡ set_open (evict m bucket) bucket
    (with_new key row (open_in (evict m bucket) bucket)) = full_machine stands ways old (list_at touched bucket) bucket seen key row own
    t m s in
    subst (CacheStands stands new) (sym steps) (subst (λ c. CacheStands stands c
    (set_open (evict m bucket) bucket (with_new key row (open_in (evict m bucket) bucket)))) (sym w) after)

-- the places that a touch and a replacement name have entries

pub front_within : (ways : ℕ) (cache : Cache) (bucket place : ℕ) (key : Key) (tail : List Pair) → IsSoundCache ways cache
    → list_at cache bucket ≡ with_pair_first key place tail → place < length cache.entries
front_within ways cache bucket place key tail sound e =
    let head : Pair = record { key = key; place = place } in
    let long = ap length e in
    rw e at (sound.within bucket 0 head (omega arith))

places_within : (n : ℕ) (pairs : List Pair) (i place : ℕ) → All (λ p. p.place < n) pairs → slice_get (places_of pairs) i ≡ Some place
    → place < n
places_within n [] i place a e = cc
places_within n (p ∷ pairs) zero place a e = subst (λ x. x < n) (same p.place place e) (a 0 p (omega arith))
  where
    same : (x y : ℕ) → Some x ≡ Some y → x ≡ y
    same x y e = cc
places_within n (p ∷ pairs) (suc i) place a e = places_within n pairs i place (λ k d h. a (suc k) d (omega arith)) e

pub least_within : (ways : ℕ) (cache : Cache) (bucket place : ℕ) → IsSoundCache ways cache → IsLeast (list_at cache bucket) place
    → place < length cache.entries
least_within ways cache bucket place sound e = places_within _ _
    _ _ (sound.within bucket) e

pub list_set : (cache set_cache : Cache) (bucket : ℕ) (pairs : List Pair) → bucket < length cache.lists
    → set_cache ≡ with_list cache bucket pairs → list_at set_cache bucket ≡ pairs
list_set cache set_cache bucket pairs h e = ap (λ c. get_or c.lists bucket []) e ∙ get_or-set_same cache.lists bucket pairs [] h

-- a bucket whose last pair goes represents one whose last epoch goes
pub drop_stands : (stands : Standing) (old new : Cache) (bucket : ℕ) → bucket < length old.lists → 0 < length (list_at old bucket)
    → new ≡ with_list old bucket (take (length (list_at old bucket) - 1) (list_at old bucket))
    → (m : Machine) → CacheStands stands old m → CacheStands stands new (evict m bucket)
drop_stands stands old new bucket h some t m s =
    let list = list_at old bucket in
    let left = take _ _ in
    let long = pairs_long _ _ _ (s.each bucket) in
    let range = s.buckets in
    let entries : (at : ℕ) → entry_at old at ≡ entry_at new at = λ at. ap (λ c. get_or c.entries at []) (sym t) in
    let kept : (pairs : List Pair) (epochs : List Epoch) → PairsStand (PairStands stands old) pairs epochs
    → PairsStand (PairStands stands new) pairs epochs =
    λ pairs epochs. pairs_map _ _ _ _
    (λ i q x g r. (r.0, rw (entries q.place) at r.1)) in
    record {
      buckets = ap length (ap (λ c. c.lists) t) ∙ (length-set old.lists bucket left ∙ (s.buckets ∙ sym (evict_shape m bucket)));
      each = λ b. ⊎_elim
          (λ e.
          rw e (subst (λ ps. PairsStand (PairStands stands new) ps (open_in (evict m bucket) bucket))
          (sym (list_set old new bucket left h t))
          (subst (PairsStand (PairStands stands new) left) (ap (λ n. take (n - 1) (open_in m bucket)) long
          ∙ sym (evict_same m bucket (omega arith) (omega arith)))
          (kept left (take (length list - 1) (open_in m bucket)) (pairs_take (PairStands stands old) (length list - 1) list
          (open_in m bucket) (s.each bucket))))))
          (λ d.
          rw (ap (λ c. get_or c.lists b []) t ∙ get_or-set_other old.lists bucket b left [] d)
          (subst (PairsStand (PairStands stands new) (list_at old b)) (sym (evict_other m bucket b d))
          (kept (list_at old b) (open_in m b) (s.each b))))
          (cases_eq b bucket);
    }

-- whether a bucket has a least recently used pair

pub some_least : (pairs : List Pair) (place : ℕ) → Some place ≡ least_place pairs → 0 < length pairs
some_least [] place e = cc
some_least (p ∷ pairs) place e = omega arith

-- the least recently used pair has the place that is found
pub least_pair : (pairs : List Pair) (place : ℕ) → Some place ≡ least_place pairs
    → (pair : Pair) × (slice_get pairs (length pairs - 1) ≡ Some pair) × (pair.place ≡ place)
least_pair pairs place e = at pairs (length pairs - 1) place (sym e)
  where
    at : (pairs : List Pair) (i place : ℕ) → slice_get (places_of pairs) i ≡ Some place
        → (pair : Pair) × (slice_get pairs i ≡ Some pair) × (pair.place ≡ place)
    at [] i place e = absurd (cc)
    at (p ∷ pairs) zero place e = (p, refl, let same : p.place ≡ place = cc in same)
    at (p ∷ pairs) (suc i) place e = at pairs i place e

pub none_least : (pairs : List Pair) → None ≡ least_place pairs → length pairs ≡ 0
none_least [] e = refl
none_least (p ∷ pairs) e = absurd (never (places_of (p ∷ pairs)) (length (p ∷ pairs) - 1)
    (let l = length-map (p ∷ pairs) (λ x. x.place) in omega arith) e)
  where
    never : (xs : List ℕ) (i : ℕ) → i < length xs → None ≡ slice_get xs i → ⊥
    never [] i h e = absurd (omega arith)
    never (x ∷ xs) zero h e = cc
    never (x ∷ xs) (suc i) h e = never xs i (omega arith) e

pub evict_none : (stands : Standing) (cache : Cache) (bucket : ℕ) → length (list_at cache bucket) ≡ 0 → (m : Machine)
    → CacheStands stands cache m → evict m bucket ≡ m
evict_none stands cache bucket none m s =
    let long = pairs_long _ _ _ (s.each bucket) in
    let shut = le-ltb 0 (length (open_in m bucket)) (omega arith) in
    rw shut
