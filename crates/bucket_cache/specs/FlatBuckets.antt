-- Buckets of one shape, whose parts are stored one after another.
use Rattle.std.specs.Prelude.{◌≡◌, ℕ, List, [], ◌∷◌, ◌+◌, ◌*◌, ◌<◌, ◌≤◌, length, map, take, slice_index_or, All}
use Rattle.bucket_cache.specs.{Slices.rows_of, Buckets.{Pair, Recency, pairs_at, IsBucket}}

-- the bucket from this place on: how many of its ways are in use, their order, and the words of its keys
abbrev pub bucket_of : ℕ → ℕ → ℕ → ℕ → List ℕ → List ℕ → Recency
bucket_of ways key_words first used order words = record {
  first = first;
  ways = ways;
  key_words = key_words;
  pairs = pairs_at first (rows_of key_words ways words) (take used order);
}

abbrev pub no_bucket : Recency
no_bucket = record { first = 0; ways = 0; key_words = 0; pairs = [] }

-- the buckets from this place on, by the parts of each
abbrev pub buckets_from : ℕ → ℕ → ℕ → List ℕ → List (List ℕ) → List (List ℕ) → List Recency
buckets_from ways key_words first [] orders rows = []
buckets_from ways key_words first (used ∷ more) [] rows = []
buckets_from ways key_words first (used ∷ more) (order ∷ orders) [] = []
buckets_from ways key_words first (used ∷ more) (order ∷ orders) (words ∷ rows) =
    bucket_of ways key_words first used order words ∷ buckets_from ways key_words (first + ways) more orders rows

-- the order of the ways of each bucket, and the words of the keys of each
abbrev pub orders_of : ℕ → List ℕ → List ℕ → List (List ℕ)
orders_of ways used order = rows_of ways (length used) order

abbrev pub words_of : ℕ → ℕ → List ℕ → List ℕ → List (List ℕ)
words_of ways key_words used words = rows_of (ways * key_words) (length used) words

abbrev pub buckets_of : ℕ → ℕ → List ℕ → List ℕ → List ℕ → List Recency
buckets_of ways key_words used order words =
    buckets_from ways key_words 0 used (orders_of ways used order) (words_of ways key_words used words)

-- the pairs of each bucket, and those of one
abbrev pub lists_in : ℕ → ℕ → List ℕ → List ℕ → List ℕ → List (List Pair)
lists_in ways key_words used order words = map (λ r. r.pairs) (buckets_of ways key_words used order words)

abbrev pub list_in : ℕ → ℕ → List ℕ → List ℕ → List ℕ → ℕ → List Pair
list_in ways key_words used order words bucket = slice_index_or (lists_in ways key_words used order words) bucket []

-- the parts are as long as the buckets need, and make a bucket each
pub record AreBuckets (ways key_words : ℕ) (used order words : List ℕ) : Type 0 where
  pub orders : length order ≡ length used * ways
  pub flat : length words ≡ length used * (ways * key_words)
  pub each : (bucket : ℕ) → bucket < length used → IsBucket (bucket * ways) key_words (slice_index_or used bucket 0)
      (slice_index_or (orders_of ways used order) bucket [])
      (rows_of key_words ways (slice_index_or (words_of ways key_words used words) bucket []))

-- the parts are those of buckets, with an entry for each place
pub record IsFlatCache (ways key_words entry_words : ℕ) (used order words : List ℕ) (entries : List (List ℕ)) : Type 0 where
  pub some : 0 < ways
  pub buckets : AreBuckets ways key_words used order words
  pub room : length used * ways ≤ 65536
  pub places : length entries ≡ length used * ways
  pub widths : All (λ entry. length entry ≡ entry_words) entries
