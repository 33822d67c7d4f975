-- The steps that evictions, merges and sweeps take.
use Rattle.std.specs.Prelude.{ℕ, ◌+◌, ◌*◌}

-- a key of this many words and its entry go into the pipe word by word, and the bucket drops their pair
abbrev pub evict_cost : ℕ → ℕ → ℕ
evict_cost key_words entry_words = key_words + entry_words + 1

-- a key of this many words and its entry leave the pipe, and the entry is merged, which takes this many steps at most
abbrev pub merge_cost : ℕ → ℕ → ℕ → ℕ
merge_cost key_words entry_words merging = key_words + entry_words + merging

-- This many open epochs are evicted from this many buckets, with one merge at most before each eviction, and before each that finds its
-- bucket empty.
abbrev pub sweep_cost : ℕ → ℕ → ℕ → ℕ → ℕ
sweep_cost held buckets evicting merging = held * (evicting + merging) + buckets * merging
