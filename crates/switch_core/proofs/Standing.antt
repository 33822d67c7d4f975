-- Pairs of a bucket that represent its open epochs.
use Rattle.std.proofs.Common.{◌≡◌, ℕ, zero, suc, ◌-◌, ◌<◌, true, false, ◌||◌, List, [], ◌∷◌, Some, length, take, drop, refl, sym, ap, ◌∙◌}
use Rattle.std.{proofs.Common.arith, specs.Prelude.{Bool, slice_get}}
use Rattle.epoch_model.specs.{Keys.{Key, key_eq}, Machine.{Epoch, is_open, rows_in_epochs, without}}
use Rattle.bucket_cache.specs.{Buckets.{Pair, has_key, place_of_key, without_key}, Caches.{Cache, entry_at}}
use Rattle.switch_core.specs.Lanes.{Standing, PairStands, PairsStand}

pub by_test : {P : Type 0} (t : Bool) → (t ≡ true → P) → (t ≡ false → P) → P
by_test true so not_so = so refl
by_test false so not_so = not_so refl

pub pairs_long : (R : Pair → Epoch → Type 0) (pairs : List Pair) (epochs : List Epoch) → PairsStand R pairs epochs
    → length pairs ≡ length epochs
pairs_long R [] [] s = refl
pairs_long R [] (e ∷ es) s = absurd s
pairs_long R (p ∷ ps) [] s = absurd s
pairs_long R (p ∷ ps) (e ∷ es) s = ap (λ n. suc n) (pairs_long R ps es s.1)

-- what each pair represents can be said in another way
pub pairs_map : (R S : Pair → Epoch → Type 0) (pairs : List Pair) (epochs : List Epoch)
    → ((i : ℕ) (p : Pair) (e : Epoch) → slice_get pairs i ≡ Some p → R p e → S p e) → PairsStand R pairs epochs → PairsStand S pairs epochs
pairs_map R S [] [] h s = tt
pairs_map R S [] (e ∷ es) h s = absurd s
pairs_map R S (p ∷ ps) [] h s = absurd s
pairs_map R S (p ∷ ps) (e ∷ es) h s = (h 0 p e refl s.0, pairs_map R S ps es (λ i q x. h (suc i) q x) s.1)

pub pairs_take : (R : Pair → Epoch → Type 0) (n : ℕ) (pairs : List Pair) (epochs : List Epoch) → PairsStand R pairs epochs
    → PairsStand R (take n pairs) (take n epochs)
pairs_take R zero pairs epochs s = tt
pairs_take R (suc n) [] [] s = tt
pairs_take R (suc n) [] (e ∷ es) s = absurd s
pairs_take R (suc n) (p ∷ ps) [] s = absurd s
pairs_take R (suc n) (p ∷ ps) (e ∷ es) s = (s.0, pairs_take R n _ _ s.1)

pub has_open : (stands : Standing) (cache : Cache) (key : Key) (pairs : List Pair) (epochs : List Epoch)
    → PairsStand (PairStands stands cache) pairs epochs → has_key key pairs ≡ is_open key epochs
has_open stands cache key [] [] s = refl
has_open stands cache key [] (e ∷ es) s = absurd s
has_open stands cache key (p ∷ ps) [] s = absurd s
has_open stands cache key (p ∷ ps) (e ∷ es) s = ap (λ k. key_eq k key || has_key key ps) s.0.0
    ∙ ap (λ t. key_eq e.key key || t) (has_open stands cache key ps es s.1)

-- the key's epoch goes, and its pair
pub pairs_without : (stands : Standing) (cache : Cache) (key : Key) (pairs : List Pair) (epochs : List Epoch)
    → PairsStand (PairStands stands cache) pairs epochs → PairsStand (PairStands stands cache) (without_key key pairs) (without key epochs)
pairs_without stands cache key [] [] s = tt
pairs_without stands cache key [] (e ∷ es) s = absurd s
pairs_without stands cache key (p ∷ ps) [] s = absurd s
pairs_without stands cache key (p ∷ ps) (e ∷ es) s =
    let rest = pairs_without stands cache key ps es s.1 in
    by_test (key_eq p.key key)
    (λ t. let u : key_eq e.key key ≡ true = ap (λ k. key_eq k key) (sym s.0.0) ∙ t in rw (t, u) rest)
    (λ t. let u : key_eq e.key key ≡ false = ap (λ k. key_eq k key) (sym s.0.0) ∙ t in rw (t, u) (s.0, rest))

-- the entry at the key's place represents the rows of the key's epoch
pub place_stands : (stands : Standing) (cache : Cache) (key : Key) (place : ℕ) (pairs : List Pair) (epochs : List Epoch)
    → PairsStand (PairStands stands cache) pairs epochs → place_of_key key pairs ≡ Some place
    → stands (entry_at cache place) (rows_in_epochs key epochs)
place_stands stands cache key place [] epochs s h = cc
place_stands stands cache key place (p ∷ ps) [] s h = absurd s
place_stands stands cache key place (p ∷ ps) (e ∷ es) s h = by_test (key_eq p.key key)
    (λ t. let u = ap (λ k. key_eq k key) (sym s.0.0) ∙ t in
    let here : Some p.place ≡ Some place = rw t at h in
    rw u (rw (same p.place place here) at s.0.1))
    (λ t. let u = ap (λ k. key_eq k key) (sym s.0.0) ∙ t in
    let there : place_of_key key ps ≡ Some place = rw t at h in
    rw u (place_stands stands cache _ place ps es s.1 there))
  where
    same : (x y : ℕ) → Some x ≡ Some y → x ≡ y
    same x y e = cc

-- the last pair represents the last epoch
pub last_pair : (R : Pair → Epoch → Type 0) (pairs : List Pair) (epochs : List Epoch) → PairsStand R pairs epochs → 0 < length pairs
    → (p : Pair) × (e : Epoch) × (slice_get pairs (length pairs - 1) ≡ Some p) × (drop (length epochs - 1) epochs ≡ e ∷ []) × R p e
last_pair R [] epochs s h = absurd (omega arith)
last_pair R (p ∷ ps) [] s h = absurd s
last_pair R (p ∷ []) (e ∷ []) s h = (p, e, refl, refl, s.0)
last_pair R (p ∷ []) (e ∷ x ∷ es) s h = absurd s.1
last_pair R (p ∷ q ∷ ps) (e ∷ []) s h = absurd s.1
last_pair R (p ∷ q ∷ ps) (e ∷ x ∷ es) s h =
    let rest = last_pair R (q ∷ ps) (x ∷ es) s.1 (omega arith) in
    let n : suc (length (q ∷ ps)) - 1 ≡ suc (length (q ∷ ps) - 1) = omega arith in
    let m : suc (length (x ∷ es)) - 1 ≡ suc (length (x ∷ es) - 1) = omega arith in
    (rest.0, rest.1, ap (slice_get (p ∷ q ∷ ps)) n ∙ rest.2, ap (λ k. drop k (e ∷ x ∷ es)) m ∙ rest.3, rest.4)
