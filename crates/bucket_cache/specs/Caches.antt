-- A cache: for each bucket its pairs, and the entry words by place.
use Rattle.std.specs.Prelude.{◌≡◌, ℕ, List, [], Some, ◌+◌, ◌*◌, ◌<◌, ◌≤◌, length, slice_get, slice_index_or, slice_set, replicate, All}
use Rattle.bucket_cache.specs.Buckets.{Pair, AreKeysOnce}

pub record Cache : Type 0 where
  pub key_words : ℕ
  pub entry_words : ℕ
  pub lists : List (List Pair)  -- for each bucket, the most recently used first
  pub entries : List (List ℕ)  -- for each place the words of its entry

abbrev pub list_at : Cache → ℕ → List Pair
list_at cache bucket = slice_index_or cache.lists bucket []

abbrev pub entry_at : Cache → ℕ → List ℕ
entry_at cache place = slice_index_or cache.entries place []

abbrev pub with_list : Cache → ℕ → List Pair → Cache
with_list cache bucket pairs = record cache { lists = slice_set cache.lists bucket pairs }

-- Each bucket has distinct keys of the cache's number of words, no more of them than ways, at the bucket's own places; a
-- place is that of one pair at most; and each place of a bucket has an entry of the cache's number of words.
pub record IsSoundCache (ways : ℕ) (cache : Cache) : Type 0 where
  pub few : (bucket : ℕ) → length (list_at cache bucket) ≤ ways
  pub once : (bucket : ℕ) → AreKeysOnce (list_at cache bucket)
  pub words : (bucket : ℕ) → All (λ pair. length pair.key ≡ cache.key_words) (list_at cache bucket)
  pub places : (bucket : ℕ) → All (λ pair. (bucket * ways ≤ pair.place)
      × (pair.place < bucket * ways + ways)) (list_at cache bucket)
  pub within : (bucket : ℕ) → All (λ pair. pair.place < length cache.entries) (list_at cache bucket)
  pub apart : (one two i j : ℕ) (p q : Pair) → slice_get (list_at cache one) i ≡ Some p
      → slice_get (list_at cache two) j ≡ Some q → p.place ≡ q.place → (one ≡ two) × (i ≡ j)
  pub entries : length cache.entries ≡ length cache.lists * ways
  pub entry_words : All (λ entry. length entry ≡ cache.entry_words) cache.entries

-- no bucket has a pair, and each entry has zeros
abbrev pub empty_cache : ℕ → ℕ → ℕ → ℕ → Cache
empty_cache buckets ways key_words entry_words = record {
  key_words = key_words;
  entry_words = entry_words;
  lists = replicate buckets [];
  entries = replicate (buckets * ways) (replicate entry_words 0);
}
