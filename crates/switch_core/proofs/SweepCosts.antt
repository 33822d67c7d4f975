-- What the evictions and the merges of a sweep take.
use Rattle.std.proofs.Common.{◌≡◌, ℕ, zero, suc, ◌+◌, ◌-◌, ◌*◌, ◌<◌, ◌≤◌, List, [], ◌∷◌, length, take, set, get_or, refl, ap, ◌∙◌, arith}
use Rattle.std.{proofs.{Common.length-take-le, lemmas.List.Sums.sum_by-cons, Math.Nat.mul-le-mul_right}, specs.List.sum_by}
use Rattle.bucket_cache.specs.{Buckets.Pair, Caches.{Cache, list_at, with_list}}
use Rattle.switch_core.specs.{Closing.held_in, Costs.{evict_cost, merge_cost}, FrontEvents.KeepsSizes, FrontParts.LaneOf}

abbrev held : List (List Pair) → ℕ
held lists = sum_by length lists

-- the lists with the last pair of one of them gone
abbrev shorter : List (List Pair) → ℕ → List (List Pair)
shorter lists bucket = set lists bucket (take (length (get_or lists bucket []) - 1) (get_or lists bucket []))

one_fewer : (lists : List (List Pair)) (bucket : ℕ) → bucket < length lists → 0 < length (get_or lists bucket [])
    → suc (held (shorter lists bucket)) ≡ held lists
one_fewer [] bucket within some = absurd (omega arith)
one_fewer (pairs ∷ lists) zero within some =
    let long : length (take (length pairs - 1) pairs) ≡ length pairs - 1 = length-take-le (length pairs - 1) pairs (omega arith) in
    let old : held (pairs ∷ lists) ≡ length pairs + held lists = sum_by-cons (λ (ps : List Pair). length ps) pairs lists in
    let new : held (shorter (pairs ∷ lists) zero) ≡ length (take (length pairs - 1) pairs) + held lists =
    sum_by-cons (λ (ps : List Pair). length ps) (take (length pairs - 1) pairs) lists in
    let one : 0 < length pairs = some in
    omega arith
one_fewer (pairs ∷ lists) (suc bucket) within some =
    let old : held (pairs ∷ lists) ≡ length pairs + held lists = sum_by-cons (λ (ps : List Pair). length ps) pairs lists in
    let new : held (shorter (pairs ∷ lists) (suc bucket)) ≡ length pairs + held (shorter lists bucket) =
    sum_by-cons (λ (ps : List Pair). length ps) pairs (shorter lists bucket) in
    let rest : suc (held (shorter lists bucket)) ≡ held lists = one_fewer lists bucket (omega arith) some in
    omega arith

-- an eviction leaves one open epoch fewer
pub held_fewer : (old new : Cache) (bucket : ℕ) → bucket < length old.lists → 0 < length (list_at old bucket)
    → new ≡ with_list old bucket (take (length (list_at old bucket) - 1) (list_at old bucket)) → suc (held_in new) ≡ held_in old
held_fewer old new bucket within some is = ap (λ x. suc (held_in x)) is ∙ one_fewer old.lists bucket within some

-- a merge takes as much as it did at first
pub merge_as_first : {K : Type 0} (bound : K → ℕ) (first was : LaneOf K) (start after : ℕ) → KeepsSizes first was
    → after ≤ start + merge_cost was.cache.key_words was.cache.entry_words (bound was.kind)
    → after ≤ start + merge_cost first.cache.key_words first.cache.entry_words (bound first.kind)
merge_as_first bound first was start after kept cost = rw (kept.key_words, kept.entry_words, kept.kind) at cost

-- an eviction and a merge take as much as they did at first, and so does a merge alone
pub costs_same : {K : Type 0} (bound : K → ℕ) (first was : LaneOf K) → KeepsSizes first was
    → (evict_cost was.cache.key_words was.cache.entry_words + merge_cost was.cache.key_words was.cache.entry_words (bound was.kind)
    ≡ evict_cost first.cache.key_words first.cache.entry_words
    + merge_cost first.cache.key_words first.cache.entry_words (bound first.kind))
    × (merge_cost was.cache.key_words was.cache.entry_words (bound was.kind)
    ≡ merge_cost first.cache.key_words first.cache.entry_words (bound first.kind))
costs_same bound first was kept = rw (kept.key_words, kept.entry_words, kept.kind) (refl, refl)

-- one merge at most and an eviction
pub evicted_within : (start was ready new held fewer whole evicting merging : ℕ) → suc fewer ≡ held → ready ≤ was + merging → new ≡ ready
    + evicting → was + held * (evicting + merging) ≤ start + whole * (evicting + merging)
    → new + fewer * (evicting + merging) ≤ start + whole * (evicting + merging)
evicted_within start was ready new held fewer whole evicting merging one a b h =
    let more = ap (λ n. n * (evicting + merging)) one in
    omega arith

-- one merge at most
pub merged_within : (start was new held same whole each merging : ℕ) → same ≡ held → new ≤ was + merging → was + held * each ≤ start + whole
    → new + same * each ≤ start + (whole + merging)
merged_within start was new held same whole each merging e a h =
    let unchanged = ap (λ n. n * each) e in
    omega arith

-- the sweep of one bucket more, whose evictions and merges take as much as those before
pub bucket_within : (start was new held fewer whole each each' bucket merging merging' : ℕ) → each' ≡ each → merging' ≡ merging → was + held
    * each ≤ start + (whole * each + bucket * merging) → new + fewer * each' ≤ was + (held * each' + merging')
    → new + fewer * each ≤ start + (whole * each + (bucket + 1) * merging)
bucket_within start was new held fewer whole each each' bucket merging merging' e m a b =
    let left = ap (λ n. fewer * n) e in
    let right = ap (λ n. held * n) e in
    omega arith

-- some of the buckets
pub buckets_within : (start new rest whole bucket buckets merging : ℕ) → bucket ≤ buckets → new + rest ≤ start + (whole + bucket * merging)
    → new ≤ start + (whole + buckets * merging)
buckets_within start new rest whole bucket buckets merging few h =
    let le = mul-le-mul_right merging few in
    omega arith

-- the sum over the first items is within that over all
pub sum_within : {X : Type 0} (f : X → ℕ) (n : ℕ) (xs : List X) → sum_by f (take n xs) ≤ sum_by f xs
sum_within f zero xs = let none : sum_by f (take zero xs) ≡ 0 = refl in omega arith
sum_within f (suc n) [] = omega arith
sum_within f (suc n) (x ∷ xs) =
    let first : sum_by f (take (suc n) (x ∷ xs)) ≡ f x + sum_by f (take n xs) = sum_by-cons f x (take n _) in
    let all : sum_by f (x ∷ xs) ≡ f x + sum_by f xs = sum_by-cons f x xs in
    let rest = sum_within f n xs in
    omega arith
