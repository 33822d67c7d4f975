-- The entry at a place of a cache.
use Rattle.std.specs.Prelude.{ℕ, List, slice_set}
use Rattle.bucket_cache.specs.Caches.{Cache}

-- the cache with other words at a place
abbrev pub with_words : Cache → ℕ → List ℕ → Cache
with_words cache place words = record cache { entries = slice_set cache.entries place words }
