-- A bucket's keys by recent use, each with its place.
use Rattle.std.specs.Prelude.{◌≡◌, ◌≢◌, ℕ, Bool, false, List, [], ◌∷◌, ◌+◌, ◌<◌, ◌≤◌, not, filter, map, length, take, slice_index_or, All}
use Rattle.std.specs.{Prelude.{AllPairs, Option, find, option_map}, List.list_any}
use Rattle.epoch_model.specs.Keys.{Key, key_eq}
use Rattle.bucket_cache.specs.Slices.{rows_of}

pub record Pair : Type 0 where
  pub key : Key
  pub place : ℕ

-- what contracts see of a bucket: the most recently used pair first
pub record Recency : Type 0 where
  pub first : ℕ  -- its first place
  pub ways : ℕ  -- how many places it has
  pub key_words : ℕ
  pub pairs : List Pair

abbrev pub is_pair_of : Key → Pair → Bool
is_pair_of key pair = key_eq pair.key key

abbrev pub has_key : Key → List Pair → Bool
has_key key pairs = list_any (is_pair_of key) pairs

-- the places, the most recently used one first
abbrev pub places_of : List Pair → List ℕ
places_of pairs = map (λ pair. pair.place) pairs

abbrev pub place_of_key : Key → List Pair → Option ℕ
place_of_key key pairs = option_map (λ pair. pair.place) (find (is_pair_of key) pairs)

abbrev pub without_key : Key → List Pair → List Pair
without_key key pairs = filter (λ pair. not (is_pair_of key pair)) pairs

-- distinct keys
abbrev pub AreKeysOnce : List Pair → Type 0
AreKeysOnce [] = Unit {0}
AreKeysOnce (pair ∷ pairs) = (has_key pair.key pairs ≡ false) × AreKeysOnce pairs

-- the keys of the ways in this order, whose words are stored one after another, each of as many words as this key
abbrev pub way_keys : Key → List ℕ → List ℕ → List Key
way_keys key order words = rows_of (length key) (length order) words

-- the pair of a way, by the keys of the ways
abbrev pub pair_at : ℕ → List Key → ℕ → Pair
pair_at first keys way = record { key = slice_index_or keys way []; place = first + way }

abbrev pub pairs_at : ℕ → List Key → List ℕ → List Pair
pairs_at first keys ways = map (pair_at first keys) ways

-- the order has each way once, and the used ones have distinct keys
pub record IsBucket (first key_words used : ℕ) (order : List ℕ) (keys : List Key) : Type 0 where
  pub some : 0 < length order
  pub same : length keys ≡ length order
  pub within : used ≤ length order
  pub words : All (λ key. length key ≡ key_words) keys
  pub short : key_words ≤ 8
  pub places : first + length order ≤ 65536
  pub ways : All (λ way. way < length order) order
  pub apart : AllPairs (λ way other. way ≢ other) order
  pub once : AreKeysOnce (pairs_at first keys (take used order))

-- distinct keys of the bucket's number of words, at distinct places of the bucket, and no more of them than it has places
pub record IsSound (r : Recency) : Type 0 where
  pub few : length r.pairs ≤ r.ways
  pub once : AreKeysOnce r.pairs
  pub words : All (λ pair. length pair.key ≡ r.key_words) r.pairs
  pub places : All (λ pair. (r.first ≤ pair.place) × (pair.place < r.first + r.ways)) r.pairs
  pub apart : AllPairs (λ pair other. pair.place ≢ other.place) r.pairs
