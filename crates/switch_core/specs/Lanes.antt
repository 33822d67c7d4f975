-- When a front, a store and a lane represent a machine.
use Rattle.std.specs.Prelude.{◌≡◌, ◌≤◌, ℕ, List, [], ◌∷◌, length, take, drop}
use Rattle.epoch_model.specs.{Keys.ArgRow, Epochs.Geometry, Machine.{Epoch, Machine, open_in}, Tables.Folding}
use Rattle.bucket_cache.specs.{Buckets.Pair, Caches.{Cache, list_at, entry_at}}
use Rattle.evict_pipe.specs.Pipes.{Pipe}
use Rattle.backing_store.specs.{Store.Store, Merged.StoreHolds}

-- which rows an entry's words represent, as its kind says
abbrev pub Standing : Type 1
Standing = List ℕ → List ArgRow → Type 0

-- the pair has the epoch's key, and its entry represents the epoch's rows
abbrev pub PairStands : Standing → Cache → Pair → Epoch → Type 0
PairStands stands cache pair epoch = (pair.key ≡ epoch.key) × stands (entry_at cache pair.place) epoch.rows

-- one pair for each epoch, in one order
abbrev pub PairsStand : (Pair → Epoch → Type 0) → List Pair → List Epoch → Type 0
PairsStand R [] [] = Unit {0}
PairsStand R [] (epoch ∷ epochs) = ⊥
PairsStand R (pair ∷ pairs) [] = ⊥
PairsStand R (pair ∷ pairs) (epoch ∷ epochs) = R pair epoch × PairsStand R pairs epochs

pub record CacheStands (stands : Standing) (cache : Cache) (m : Machine) : Type 0 where
  pub buckets : length cache.lists ≡ length m.recent
  pub each : (bucket : ℕ) → PairsStand (PairStands stands cache) (list_at cache bucket) (open_in m bucket)

-- the first words of the record, this many, are the epoch's key, and the others represent its rows
abbrev pub RecordStands : Standing → ℕ → List ℕ → Epoch → Type 0
RecordStands stands key_words words epoch = (take key_words words ≡ epoch.key) × stands (drop key_words words) epoch.rows

-- one record for each epoch, in one order
abbrev pub RecordsStand : Standing → ℕ → List (List ℕ) → List Epoch → Type 0
RecordsStand stands key_words [] [] = Unit {0}
RecordsStand stands key_words [] (epoch ∷ epochs) = ⊥
RecordsStand stands key_words (words ∷ records) [] = ⊥
RecordsStand stands key_words (words ∷ records) (epoch ∷ epochs) = RecordStands stands key_words words epoch
    × RecordsStand stands key_words records epochs

-- the pipe's records, from the oldest, represent the closed epochs that aren't merged
abbrev pub PipeStands : Standing → ℕ → List (List ℕ) → Machine → Type 0
PipeStands stands key_words records m = RecordsStand stands key_words records (drop m.merged m.closed)

-- the store represents the merged epochs
abbrev pub StoreStands : Folding → Store → Machine → Type 0
StoreStands f store m = StoreHolds f store (take m.merged m.closed)

-- the buckets and ways of a cache
abbrev pub geometry : ℕ → Cache → Geometry
geometry ways cache = record { buckets = length cache.lists; ways = ways; refresh = 0 }

-- A front represents a machine: the cache for its open epochs, and the pipe for its closed ones that aren't merged.
pub record FrontStands (stands : Standing) (cache : Cache) (pipe : Pipe) (m : Machine) : Type 0 where
  pub cached : CacheStands stands cache m
  pub piped : PipeStands stands cache.key_words pipe.records m
  pub few : m.merged ≤ length m.closed

-- A lane represents a machine: its front does, and its store for the merged epochs.
pub record LaneStands (stands : Standing) (f : Folding) (cache : Cache) (pipe : Pipe) (store : Store) (m : Machine) : Type 0 where
  pub front : FrontStands stands cache pipe m
  pub kept : StoreStands f store m
