-- A cache by its buckets, one value for each.
use Rattle.std.specs.Prelude.{◌≡◌, ℕ, List, ◌*◌, ◌<◌, ◌≤◌, length, slice_index_or, All}
use Rattle.bucket_cache.specs.Buckets.{Recency, IsSound}

-- a bucket of this shape whose places begin here
pub record IsHome (ways key_words first : ℕ) (r : Recency) : Type 0 where
  pub of_first : r.first ≡ first
  pub of_ways : r.ways ≡ ways
  pub of_key_words : r.key_words ≡ key_words
  pub sound : IsSound r

-- the places of each bucket begin where those of the one before it end, and each has an entry
pub record IsShaped (ways key_words entry_words : ℕ) (buckets : List Recency) (entries : List (List ℕ)) : Type 0 where
  pub some : 0 < ways
  pub each : (bucket : ℕ) (d : Recency) → bucket < length buckets
      → IsHome ways key_words (bucket * ways) (slice_index_or buckets bucket d)
  pub room : length buckets * ways ≤ 65536
  pub places : length entries ≡ length buckets * ways
  pub words : All (λ entry. length entry ≡ entry_words) entries
