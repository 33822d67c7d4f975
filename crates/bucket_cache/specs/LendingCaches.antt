-- What a lent entry leaves of a cache.
use Rattle.std.specs.{Prelude.{ℕ, List}, Borrow.{Lends, MutBor, Fml, RattleType, Array, u64}}
use Rattle.bucket_cache.specs.{Caches.Cache, LendingRows.with_entry, contracts.cache.BucketCache.the_row}

abbrev pub with_entry_at : Cache → ℕ → List ℕ → Cache
with_entry_at cache place words = record cache { entries = with_entry cache.entries place words }

-- what a cache lends of the entry at a place: the words that the reference has in the end are then the entry's
abbrev pub LendsCacheEntry : RattleType → MutBor Cache → ℕ → MutBor (List ℕ) → Fml
LendsCacheEntry WAYS cache place r = Lends (the_row WAYS) (Array u64 0) cache r (with_entry_at cache.now place)
