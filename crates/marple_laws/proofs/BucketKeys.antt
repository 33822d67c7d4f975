-- The keys of a bucket are those of the open epochs that it represents.
use Rattle.marple_laws.proofs.Words
use Words.{◌≡◌, ℕ, ◌<◌, ◌≤◌, ◌||◌, List, [], ◌∷◌, length, map, get_or, sym, refl, ap, subst, ◌∙◌, arith, All, length-map, get_or-map}
use Words.{IsWellFormed, Epoch, Machine, open_in, IsDistinct, distinct-distinct}
use Rattle.marple_laws.specs.LaneLaws.{HasKeysInBuckets}
use Rattle.epoch_model.specs.Keys.{Key, key_eq, bucket_of, has}
use Rattle.bucket_cache.specs.{Buckets.{Pair, has_key, AreKeysOnce}, Caches.{Cache, list_at}}
use Rattle.switch_core.specs.Lanes.{Standing, PairStands, PairsStand, CacheStands, geometry}

module _ (stands : Standing) (cache : Cache) where
  abbrev Stand : List Pair → List Epoch → Type 0
  Stand pairs epochs = PairsStand (PairStands stands cache) pairs epochs

  keys_same : (pairs : List Pair) (epochs : List Epoch) → Stand pairs epochs
      → map (λ pair. pair.key) pairs ≡ map (λ epoch. epoch.key) epochs
  keys_same [] [] s = refl
  keys_same (p ∷ pairs) (e ∷ epochs) s = λ k. s.0.0 k ∷ keys_same pairs epochs s.1 k
  keys_same _ _ s = absurd s

has_same : (key : Key) (pairs : List Pair) → has_key key pairs ≡ has key (map (λ pair. pair.key) pairs)
has_same key [] = refl
has_same key (p ∷ pairs) = ap (λ b. key_eq p.key key || b) (has_same key pairs)

distinct_once : (pairs : List Pair) → IsDistinct (map (λ pair. pair.key) pairs) → AreKeysOnce pairs
distinct_once [] d = tt
distinct_once (p ∷ pairs) d = (has_same p.key pairs ∙ d.0, distinct_once pairs d.1)

same_long : (pairs : List Pair) (epochs : List Epoch) → map (λ pair. pair.key) pairs ≡ map (λ epoch. epoch.key) epochs
    → length pairs ≡ length epochs
same_long pairs epochs e = sym (length-map _ _) ∙ ap length e ∙ length-map _ _

all_keys : (Q : Key → Type 0) (pairs : List Pair) (epochs : List Epoch) → map (λ pair. pair.key) pairs ≡ map (λ epoch. epoch.key) epochs
    → All (λ epoch. Q epoch.key) epochs → All (λ pair. Q pair.key) pairs
all_keys Q pairs epochs e all = λ k d lt.
    let pairs_at : get_or (map (λ pair. pair.key) pairs) k [] ≡ (get_or pairs k d).key = get_or-map _ _ k d [] lt in
    let within : k < length epochs = omega (arith, lt, same_long _ _ e) in
    let other : Epoch = record { key = d.key; rows = [] } in
    let epochs_at : get_or (map (λ epoch. epoch.key) epochs) k [] ≡ (get_or epochs k other).key =
    get_or-map _ _ k _ [] within in
    subst Q (sym epochs_at ∙ ap (λ keys. get_or keys k []) (sym e) ∙ pairs_at) (all k other within)

-- a cache that represents a machine has the keys of the machine's buckets
pub keys_in_buckets : (stands : Standing) (ways : ℕ) (cache : Cache) (m : Machine) → CacheStands stands cache m
    → IsWellFormed (geometry ways cache) m → HasKeysInBuckets ways cache
keys_in_buckets stands ways cache m s w = record {
  few = λ bucket. subst (λ n. n ≤ ways) (sym (same_long (list_at cache bucket) (open_in m bucket) (same bucket))) (w.few bucket);
  once = λ bucket. distinct_once (list_at cache bucket)
      (subst IsDistinct (w.once bucket ∙ sym (same bucket)) (distinct-distinct (map (λ epoch. epoch.key) (open_in m bucket))));
  home = λ bucket. all_keys (λ key. bucket_of (length cache.lists) key ≡ bucket) (list_at cache bucket) (open_in m bucket) (same bucket)
      (w.home bucket);
}
  where
    same : (bucket : ℕ) → map (λ pair. pair.key) (list_at cache bucket) ≡ map (λ epoch. epoch.key) (open_in m bucket)
    same bucket = keys_same stands cache (list_at cache bucket) (open_in m bucket) (s.each bucket)
