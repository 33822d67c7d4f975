-- When all epochs of a lane are closed and merged.
use Rattle.std.specs.Prelude.{ℕ, Bool, ◌&&◌, ◌==◌, length, sum_by}
use Rattle.bucket_cache.specs.Caches.{Cache}
use Rattle.evict_pipe.specs.Pipes.{Pipe}

-- the number of open epochs in a cache
abbrev pub held_in : Cache → ℕ
held_in cache = sum_by (λ pairs. length pairs) cache.lists

-- no epoch is open, and no closed one waits
abbrev pub is_drained : Cache → Pipe → Bool
is_drained cache pipe = (held_in cache == 0) && (length pipe.records == 0)
