-- Lists after one of their elements moved to the front.
use Rattle.std.proofs.Common.{◌≡◌, ◌≢◌, ◌⊎◌, ℕ, zero, suc, ◌+◌, ◌-◌, ◌<◌, ◌≤◌, Bool, true, false, cond, List, ◌∷◌, ◌++◌, length, take, drop}
use Rattle.std.proofs.Common.{get_or, map, refl, sym, ap, ap₂, ◌∙◌, ⊎_elim, arith, All, AllPairs, get_or-take, get_or-drop, length-take}
use Rattle.std.proofs.{Common.{length-drop, length-append, take-append-drop, append_assoc, ltb}, lemmas.List.{drop-append-le, drop_more}}
use Rattle.std.proofs.lemmas.List.{map-append, take-map, drop-map, get_or_append_left, get_or-append_right, take-append-le, take_at}
use Rattle.std.proofs.lemmas.{List.{length-take-le, Elements.{All-append, All-take, All-drop}}, Bool.{cases_order, ltb-true, ltb-false}}
use Rattle.bucket_cache.specs.Slices.{at_front}

pub by_test : {P : Type 0} (t : Bool) → (t ≡ true → P) → (t ≡ false → P) → P
by_test true so _ = so refl
by_test false _ not_so = not_so refl

-- the element that comes to the front, and the others
pub front-cons : {X : Type 0} (at : ℕ) (d : X) (xs : List X) → at < length xs → at_front at xs ≡ get_or xs at d
    ∷ (take at xs ++ drop (at + 1) xs)
front-cons at d xs h = ap (λ ys. take 1 ys ++ (take at xs ++ drop (at + 1) xs)) (drop_more xs at d h)

pub length-at_front : {X : Type 0} (at : ℕ) (xs : List X) → at < length xs → length (at_front at xs) ≡ length xs
length-at_front at xs h =
    let a = length-append (take 1 (drop at xs)) (take at xs ++ drop (at + 1) xs) in
    let b = length-append (take at xs) (drop (at + 1) xs) in
    let c = length-take 1 (drop at xs) in
    let d = length-drop at xs in
    let e = length-take at xs in
    let f = length-drop (at + 1) xs in
    omega arith

pub front-append : {X : Type 0} (at : ℕ) (p q : List X) → at < length p → at_front at (p ++ q) ≡ at_front at p ++ q
front-append {X} at p q h =
    let one =
    ap (take 1) (drop-append-le at p q (omega arith)) ∙ take-append-le 1 (drop at p) q (omega (arith, length-drop at p)) in
    let before = take-append-le at p q (omega arith) in
    let after = drop-append-le (at + 1) p q (omega arith) in
    ap₂ (λ xs ys. xs ++ ys) one (ap₂ (λ xs ys. xs ++ ys) before after)
    ∙ simp append_assoc

-- a move among the first n elements
pub take-at_front : {X : Type 0} (n at : ℕ) (xs : List X) → at < n → n ≤ length xs → take n (at_front at xs) ≡ at_front at (take n xs)
take-at_front {X} n at xs h l =
    let long = length-take-le n xs l in
    ap (λ ys. take n (at_front at ys)) (sym (take-append-drop n xs))
    ∙ (ap (take n) (front-append at (take n xs) (drop n xs) (omega arith))
    ∙ take_at (at_front at (take n xs)) (drop n xs) n (length-at_front at (take n xs) (omega arith) ∙ long))

pub map-at_front : {X Y : Type 0} (f : X → Y) (at : ℕ) (xs : List X) → map f (at_front at xs) ≡ at_front at (map f xs)
map-at_front f at xs =
    map-append f (take 1 (drop at xs)) (take at xs ++ drop (at + 1) xs)
    ∙ ap₂ (λ ys zs. ys ++ zs) (sym (take-map f 1 (drop at xs)) ∙ ap (take 1) (sym (drop-map f at xs)))
    (map-append f (take at xs) (drop (at + 1) xs) ∙ ap₂ (λ ys zs. ys ++ zs) (sym (take-map f at xs)) (sym (drop-map f (at + 1) xs)))

-- the element just after the first n comes to their front
pub take_more-at_front : {X : Type 0} (n : ℕ) (d : X) (xs : List X) → n < length xs → take (n + 1) (at_front n xs) ≡ get_or xs n d
    ∷ take n xs
take_more-at_front n d xs h =
    ap (λ k. take k (at_front n xs)) (let e : n + 1 ≡ suc n = omega arith in e)
    ∙ (rw (front-cons n d xs h, take_at (take n xs) (drop (n + 1) xs) n (length-take-le n xs (omega arith))))

pub All-at_front : {X : Type 0} (P : X → Type 0) (at : ℕ) (xs : List X) → All P xs → All P (at_front at xs)
All-at_front P at xs a = All-append P (take 1 (drop at xs)) (take at xs ++ drop (at + 1) xs)
    (All-take P 1 (drop at xs) (All-drop P at xs a)) (All-append P (take at xs) (drop (at + 1) xs) (All-take P at xs a)
    (All-drop P (at + 1) xs a))

-- where the element at a place was before
abbrev pub source : ℕ → ℕ → ℕ
source at zero = at
source at (suc k) = cond (ltb k at) k (suc k)

source-apart : (at i j : ℕ) → i < j → source at i ≡ source at j → ⊥
source-apart at i zero h e = omega arith
source-apart at zero (suc j) h e = by_test (ltb j at)
    (λ t. let l = ltb-true j at t in let f : at ≡ j = rw t at e in omega arith)
    (λ t. let l = ltb-false j at t in let f : at ≡ suc j = rw t at e in omega arith)
source-apart at (suc i) (suc j) h e = by_test (ltb i at)
    (λ s. let k = ltb-true i at s in by_test (ltb j at)
    (λ t. let l = ltb-true j at t in let f : i ≡ j = rw (s, t) at e in omega arith)
    (λ t. let l = ltb-false j at t in let f : i ≡ suc j = rw (s, t) at e in omega arith))
    (λ s. let k = ltb-false i at s in by_test (ltb j at)
    (λ t. let l = ltb-true j at t in omega arith)
    (λ t. let l = ltb-false j at t in let f : suc i ≡ suc j = rw (s, t) at e in omega arith))

source-lt : (at k n : ℕ) → at < n → k < n → source at k < n
source-lt at zero n h l = h
source-lt at (suc k) n h l = by_test (ltb k at) (λ t. rw t (omega arith)) (λ t. rw t l)

pub at_front-get : {X : Type 0} (at k : ℕ) (d : X) (xs : List X) → at < length xs → k < length xs
    → get_or (at_front at xs) k d ≡ get_or xs (source at k) d
at_front-get at zero d xs h l = ap (λ ys. get_or ys 0 d) (front-cons at d xs h)
at_front-get at (suc k) d xs h l =
    let long = length-take-le at xs (omega arith) in
    ap (λ ys. get_or ys (suc k) d) (front-cons at d xs h)
    ∙ by_test (ltb k at)
    (λ t. let below = ltb-true k at t in rw t (get_or_append_left (take at xs) (drop (at + 1) xs) d k (omega arith)
    ∙ get_or-take at xs k d below))
    (λ t. let above = ltb-false k at t in rw t (get_or-append_right (take at xs) (drop (at + 1) xs) at k d long above
    ∙ (get_or-drop (at + 1) xs (k - at) d ∙ ap (λ n. get_or xs n d) (let e : at + 1 + (k - at) ≡ suc k = omega arith in e))))

pub AllPairs-at_front : (at : ℕ) (xs : List ℕ) → at < length xs → AllPairs (λ a b. a ≢ b) xs → AllPairs (λ a b. a ≢ b) (at_front at xs)
AllPairs-at_front at xs h a i j d l m =
    let long = length-at_front at xs h in
    let i_in : i < length xs = omega arith in
    let j_in : j < length xs = omega arith in
    λ e.
    let same = sym (at_front-get at i d xs h i_in)
    ∙ (e ∙ at_front-get at j d xs h j_in) in
    ⊎_elim (λ (p : source at i ≡ source at j). source-apart at i j l p)
    (λ (p : (source at i < source at j) ⊎ (source at j < source at i)). ⊎_elim
    (λ (q : source at i < source at j). a (source at i) (source at j) d q (source-lt at j (length xs) h j_in) same)
    (λ (q : source at j < source at i). a (source at j) (source at i) d q (source-lt at i (length xs) h i_in) (sym same))
    p)
    (cases_order (source at i) (source at j))
