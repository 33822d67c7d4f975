-- Lists of pairs with distinct keys.
use Rattle.std.proofs.Common.{◌≡◌, ℕ, zero, suc, ◌+◌, ◌<◌, true, false, ◌||◌, List, [], ◌∷◌, ◌++◌, Some, length, take, drop, get_or, find}
use Rattle.std.{proofs.{Common.{option_map, refl, sym, ap, ap₂, ◌∙◌, subst, arith, All}, lemmas.Bool.true≢false}, specs.Prelude.slice_get}
use Rattle.epoch_model.{specs.Keys.{Key, key_eq}, proofs.KeyLists.{key_eq-refl, key_eq-true}}
use Rattle.bucket_cache.specs.{Slices.at_front, Buckets.{Pair, is_pair_of, has_key, place_of_key, places_of, without_key, AreKeysOnce}}
use Rattle.bucket_cache.proofs.Fronts.{by_test, front-cons}

pub absent_head : (key : Key) (pair : Pair) (pairs : List Pair) → has_key key (pair ∷ pairs) ≡ false → (key_eq pair.key key ≡ false)
    × (has_key key pairs ≡ false)
absent_head key pair pairs h = by_test (key_eq pair.key key)
    (λ e. absurd (true≢false (sym (ap (λ t. t || has_key key pairs) e) ∙ h)))
    (λ e. (e, sym (ap (λ t. t || has_key key pairs) e) ∙ h))

pub without_absent : (key : Key) (pairs : List Pair) → has_key key pairs ≡ false → without_key key pairs ≡ pairs
without_absent _ [] h = refl
without_absent key (pair ∷ pairs) h = let a = absent_head key pair pairs h in rw a.0 (rw (without_absent key pairs a.1))

pub has-without : (key other : Key) (pairs : List Pair) → has_key other pairs ≡ false → has_key other (without_key key pairs) ≡ false
has-without _ _ [] h = refl
has-without key other (pair ∷ pairs) h = let a = absent_head other pair pairs h in by_test (key_eq pair.key key)
    (λ e. rw e (has-without key other pairs a.1))
    (λ e. rw (e, a.0) (has-without key other pairs a.1))

pub has-without_same : (key : Key) (pairs : List Pair) → has_key key (without_key key pairs) ≡ false
has-without_same _ [] = refl
has-without_same key (pair ∷ pairs) = by_test (key_eq pair.key key)
    (λ e. rw e (has-without_same key pairs))
    (λ e. rw (e, e) (has-without_same key pairs))

pub once-without : (key : Key) (pairs : List Pair) → AreKeysOnce pairs → AreKeysOnce (without_key key pairs)
once-without _ [] o = tt
once-without key (pair ∷ pairs) o = by_test (key_eq pair.key key)
    (λ e. rw e (once-without key pairs o.1))
    (λ e. rw e (has-without key pair.key pairs o.0, once-without key pairs o.1))

pub once-front : (key : Key) (place : ℕ) (pairs : List Pair) → AreKeysOnce pairs
    → AreKeysOnce (record { key = key; place = place } ∷ without_key key pairs)
once-front key _ pairs o = (has-without_same key pairs, once-without key pairs o)

pub has-at : (at : ℕ) (d : Pair) (key : Key) (pairs : List Pair) → at < length pairs → key_eq (get_or pairs at d).key key ≡ true
    → has_key key pairs ≡ true
has-at at d key [] h e = absurd (omega arith)
has-at zero d _ (_ ∷ _) h e = rw e
has-at (suc at) d key (pair ∷ pairs) h e = by_test (key_eq pair.key key) (λ t. rw t)
    (λ t. rw t (has-at at d key pairs (omega arith) e))

pub find-at : (at : ℕ) (d : Pair) (key : Key) (pairs : List Pair) → at < length pairs → AreKeysOnce pairs
    → key_eq (get_or pairs at d).key key ≡ true → find (is_pair_of key) pairs ≡ Some (get_or pairs at d)
find-at at d key [] h o e = absurd (omega arith)
find-at zero d _ (_ ∷ _) h o e = rw e
find-at (suc at) d key (pair ∷ pairs) h o e = by_test (key_eq pair.key key)
    (λ t. absurd (true≢false (sym (has-at at d key pairs (omega arith) e)
    ∙ subst (λ k. has_key k pairs ≡ false) (key_eq-true pair.key key t) o.0)))
    (λ t. rw t (find-at at d key pairs (omega arith) o.1 e))

pub place-at : (at : ℕ) (d : Pair) (key : Key) (pairs : List Pair) → at < length pairs → AreKeysOnce pairs
    → key_eq (get_or pairs at d).key key ≡ true → place_of_key key pairs ≡ Some (get_or pairs at d).place
place-at at d key pairs h o e = ap (option_map (λ pair. pair.place)) (find-at at d key pairs h o e)

-- of distinct keys the one at this place goes, and no other
pub without-at : (at : ℕ) (d : Pair) (key : Key) (pairs : List Pair) → at < length pairs → AreKeysOnce pairs
    → key_eq (get_or pairs at d).key key ≡ true → take at pairs ++ drop (suc at) pairs ≡ without_key key pairs
without-at at d key [] h o e = absurd (omega arith)
without-at zero d key (pair ∷ pairs) h o e = rw e (sym (without_absent key pairs
    (rw (← key_eq-true pair.key key e) o.0)))
without-at (suc at) d key (pair ∷ pairs) h o e = by_test (key_eq pair.key key)
    (λ t. absurd (true≢false (sym (has-at at d key pairs (omega arith) e)
    ∙ subst (λ k. has_key k pairs ≡ false) (key_eq-true pair.key key t) o.0)))
    (λ t. rw t (ap (λ ps. pair ∷ ps) (without-at at d key pairs (omega arith) o.1 e)))

pub front-pair : (at : ℕ) (d : Pair) (key : Key) (pairs : List Pair) → at < length pairs → AreKeysOnce pairs
    → key_eq (get_or pairs at d).key key ≡ true
    → at_front at pairs ≡ record { key = key; place = (get_or pairs at d).place } ∷ without_key key pairs
front-pair at d key pairs h o e =
    front-cons at d pairs h
    ∙ ap₂ (λ k ps. record { key = k; place = (get_or pairs at d).place } ∷ ps) (key_eq-true (get_or pairs at d).key key e)
    (ap (λ n. take at pairs ++ drop n pairs) (let e : at + 1 ≡ suc at = omega arith in e) ∙ without-at at d key pairs h o e)

pub has-front : (key : Key) (n : ℕ) (pairs : List Pair) → has_key key pairs ≡ false → has_key key (take n pairs) ≡ false
has-front _ zero _ h = refl
has-front _ (suc n) [] h = refl
has-front key (suc n) (pair ∷ pairs) h = let a = absent_head key pair pairs h in rw a.0 (has-front key n pairs a.1)

pub once-take : (n : ℕ) (pairs : List Pair) → AreKeysOnce pairs → AreKeysOnce (take n pairs)
once-take zero _ o = tt
once-take (suc n) [] o = tt
once-take (suc n) (pair ∷ pairs) o = (has-front pair.key n pairs o.0, once-take n pairs o.1)

-- the pair that comes first, by its place
pub first-pair : (pairs : List Pair) (place : ℕ) → Some place ≡ slice_get (places_of pairs) 0 → (pair : Pair)
    × (slice_get pairs 0 ≡ Some pair) × (pair.place ≡ place)
first-pair [] place e = cc
first-pair (pair ∷ pairs) place e = (pair, refl, cc)

pub first-within : (pairs : List Pair) (place n : ℕ) → All (λ pair. pair.place < n) pairs → Some place ≡ slice_get (places_of pairs) 0
    → place < n
first-within [] place n a e = cc
first-within (pair ∷ pairs) place n a e =
    let same : place ≡ pair.place = cc in
    let below = a 0 pair (omega arith) in
    omega arith

-- a pair of another key comes first
pub other-key : (pairs : List Pair) (pair : Pair) (key : Key) → slice_get pairs 0 ≡ Some pair → key_eq pair.key key ≡ false
    → has_key key (take 1 pairs) ≡ false
other-key [] _ _ at e = refl
other-key (first ∷ pairs) pair key at e = rw (ap (λ (p : Pair). key_eq p.key key) (let same : first ≡ pair = cc in same) ∙ e)

-- a key that comes first stays there
pub first-stays : (key : Key) (place : ℕ) (pairs : List Pair) → AreKeysOnce pairs
    → slice_get pairs 0 ≡ Some (record { key = key; place = place })
    → (has_key key pairs ≡ true) × (place_of_key key pairs ≡ Some place)
    × (pairs ≡ record { key = key; place = place } ∷ without_key key pairs)
first-stays key place [] o e = cc
first-stays key place (pair ∷ pairs) o e =
    let same : pair ≡ record { key = key; place = place } = cc in
    let is : pair.key ≡ key = ap (λ (p : Pair). p.key) same in
    let first : key_eq pair.key key ≡ true = ap (λ k. key_eq k key) is ∙ key_eq-refl key in
    let absent : has_key key pairs ≡ false = subst (λ k. has_key k pairs ≡ false) is o.0 in (
      rw first,
      rw first (ap (λ (p : Pair). Some p.place) same),
      rw first
          (ap₂ (λ p ps. p ∷ ps) same (sym (without_absent key pairs absent))),
    )
