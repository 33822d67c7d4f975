-- A front with empty cache and pipe has no open epoch, and all closed ones are merged.
use Rattle.std.proofs.Common.{◌≡◌, ℕ, zero, suc, ◌-◌, ◌<◌, true, List, [], ◌∷◌, length, take, get_or, refl, sym, ap, ◌∙◌, arith}
use Rattle.std.{proofs.lemmas.{List.{set-get_or, Sums.sum_by-cons}, Bool.Decides.nat_tests}, specs.List.sum_by}
use Rattle.epoch_model.specs.{Machine.{Epoch, Machine, open_in}, Timeline.IsSwept}
use Rattle.bucket_cache.specs.{Buckets.Pair, Caches.{Cache, list_at, with_list}}
use Rattle.evict_pipe.specs.Pipes.{Pipe}
use Rattle.switch_core.{specs.{Lanes.{Standing, FrontStands}, Closing.{held_in, is_drained}}, proofs.Standing.pairs_long}
use Rattle.switch_core.proofs.MergeSteps.{none_piped}

none_held : (lists : List (List Pair)) (bucket : ℕ) → sum_by (λ pairs. length pairs) lists ≡ 0 → length (get_or lists bucket []) ≡ 0
none_held [] bucket e = refl
none_held (pairs ∷ lists) zero e = let s = sum_by-cons (λ (ps : List Pair). length ps) pairs lists in omega arith
none_held (pairs ∷ lists) (suc bucket) e = none_held lists bucket (let s =
    sum_by-cons (λ (ps : List Pair). length ps) pairs lists in omega arith)

no_epochs : (epochs : List Epoch) → length epochs ≡ 0 → epochs ≡ []
no_epochs [] e = refl
no_epochs (x ∷ epochs) e = absurd (omega arith)

no_pairs : (pairs : List Pair) → length pairs ≡ 0 → pairs ≡ []
no_pairs [] e = refl
no_pairs (x ∷ pairs) e = absurd (omega arith)

pub drained_parts : (cache : Cache) (pipe : Pipe) → is_drained cache pipe ≡ true → (held_in cache ≡ 0) × (length pipe.records ≡ 0)
drained_parts cache pipe d = (grind (arith, nat_tests), grind (arith, nat_tests))

pub drained_is_done : (stands : Standing) (cache : Cache) (pipe : Pipe) → is_drained cache pipe ≡ true → (m : Machine)
    → FrontStands stands cache pipe m → IsSwept m × (m.merged ≡ length m.closed)
drained_is_done stands cache pipe d m s =
    let parts = drained_parts cache pipe d in (
      λ bucket. no_epochs (open_in m bucket) (sym (pairs_long _ _ _
          (s.cached.each bucket)) ∙ none_held _ bucket parts.0),
      none_piped _ _ _ m s parts.1,
    )

-- where a bucket is empty nothing is taken of it
pub nothing_taken : (cache : Cache) (bucket : ℕ) → length (list_at cache bucket) ≡ 0
    → cache ≡ with_list cache bucket (take (length (list_at cache bucket) - 1) (list_at cache bucket))
nothing_taken cache bucket e =
    let none = no_pairs _ e in
    let same : take (length (list_at cache bucket) - 1) (list_at cache bucket) ≡ list_at cache bucket = rw none in
    sym (ap (with_list cache bucket) same ∙ ap (λ ls. record cache { lists = ls }) (set-get_or cache.lists bucket []))

-- with empty buckets alone the cache is empty
pub empty_held : (lists : List (List Pair)) → ((bucket : ℕ) → bucket < length lists → length (get_or lists bucket []) ≡ 0)
    → sum_by (λ pairs. length pairs) lists ≡ 0
empty_held [] h = refl
empty_held (pairs ∷ lists) h =
    let s = sum_by-cons (λ (ps : List Pair). length ps) pairs lists in
    let first = h 0 (omega arith) in
    let rest = empty_held lists (λ b l. h (suc b) (omega arith)) in
    omega arith
