-- What keeps a front in order beside its packets: the events of each kind of upkeep, what they leave, and what they cost.
use Rattle.std.specs.Prelude.{◌≡◌, ℕ, suc, ◌+◌, ◌-◌, ◌*◌, ◌<◌, Bool, true, false, List, [], ◌∷◌, ◌++◌, length, map, nat_lt, replicate, drop}
use Rattle.std.specs.Prelude.{if◌then◌else◌}
use Rattle.epoch_model.specs.Machine.{Event, Evict, Merge}
use Rattle.bucket_cache.specs.Caches.{Cache}
use Rattle.evict_pipe.specs.Pipes.{Pipe}
use Rattle.switch_core.specs.declared.upkeep.Upkeep.{Upkeep}
use Rattle.switch_core.specs.declared.upkeep.Upkeep.TheVariants as due
use Rattle.switch_core.specs.{Closing.held_in, Costs.{evict_cost, merge_cost, sweep_cost}}

-- one merge, where this many records fill a pipe of this many places
abbrev pub room_events : ℕ → ℕ → List Event
room_events places waiting = if nat_lt waiting places then [] else Merge ∷ []

-- the number of records after it
abbrev pub left_waiting : ℕ → ℕ → ℕ
left_waiting places waiting = if nat_lt waiting places then waiting else waiting - 1

-- an eviction from a bucket, and whether it finds an epoch there
pub record Try : Type 0 where
  pub bucket : ℕ
  pub finds : Bool

-- evictions from a bucket of this many epochs: one for each, and one that finds the bucket empty
abbrev pub bucket_tries : ℕ → ℕ → List Try
bucket_tries bucket epochs = replicate epochs (record { bucket = bucket; finds = true }) ++ record { bucket = bucket; finds = false } ∷ []

-- those from buckets of these numbers of epochs, the first of which has this number
abbrev pub tries : ℕ → List ℕ → List Try
tries bucket [] = []
tries bucket (epochs ∷ more) = bucket_tries bucket epochs ++ tries (suc bucket) more

-- these evictions, with one merge before each that finds the pipe full
abbrev pub sweep_events : ℕ → ℕ → List Try → List Event
sweep_events places waiting [] = []
sweep_events places waiting (t ∷ more) = room_events places waiting
    ++ Evict t.bucket ∷ sweep_events places (left_waiting places waiting + (if t.finds then 1 else 0)) more

-- the numbers of epochs in the buckets of a cache
abbrev pub counts_of : Cache → List ℕ
counts_of cache = map (λ pairs. length pairs) cache.lists

-- the events that empty the buckets from this number on
abbrev pub sweep_from : ℕ → Cache → Pipe → List Event
sweep_from bucket cache pipe = sweep_events pipe.places (length pipe.records) (tries bucket (drop bucket (counts_of cache)))

-- The events of an upkeep: room for a record, a merge at the lag, a sweep of all buckets, and the merges of all that waits, of which
-- the last finds the pipe empty.
abbrev pub upkeep_events : Upkeep → Cache → Pipe → List Event
upkeep_events due.Room cache pipe = room_events pipe.places (length pipe.records)
upkeep_events due.Lag cache pipe = Merge ∷ []
upkeep_events due.Sweep cache pipe = sweep_from 0 cache pipe
upkeep_events due.Rest cache pipe = replicate (suc (length pipe.records)) Merge

-- what holds after an upkeep: there is room for a record, no epoch is open, or no record waits
abbrev pub IsKept : Upkeep → Cache → Pipe → Type 0
IsKept due.Room cache pipe = length pipe.records < pipe.places
IsKept due.Lag cache pipe = length pipe.records < pipe.places
IsKept due.Sweep cache pipe = held_in cache ≡ 0
IsKept due.Rest cache pipe = length pipe.records ≡ 0

-- the most steps of an upkeep, where the kind merges an entry in this many
abbrev pub upkeep_cost : Upkeep → Cache → Pipe → ℕ → ℕ
upkeep_cost due.Room cache pipe merging = merge_cost cache.key_words cache.entry_words merging
upkeep_cost due.Lag cache pipe merging = merge_cost cache.key_words cache.entry_words merging
upkeep_cost due.Sweep cache pipe merging = sweep_cost (held_in cache) (length cache.lists)
    (evict_cost cache.key_words cache.entry_words) (merge_cost cache.key_words cache.entry_words merging)
upkeep_cost due.Rest cache pipe merging = suc (length pipe.records) * merge_cost cache.key_words cache.entry_words merging
