-- What the calls of a lane make of it, one by one and in lists.
use Rattle.std.specs.Prelude.{◌≡◌, ℕ, List, [], ◌∷◌, length}
use Rattle.epoch_model.specs.{Machine.{Machine, Event, step, run}, Tables.Folding}
use Rattle.bucket_cache.specs.Caches.{Cache}
use Rattle.evict_pipe.specs.Pipes.{Pipe}
use Rattle.backing_store.specs.Store.{Store}
use Rattle.switch_core.specs.Lanes.{Standing, LaneStands, geometry}

-- the parts of a lane that represent a machine
pub record Parts : Type 0 where
  pub cache : Cache
  pub pipe : Pipe
  pub store : Store

abbrev pub parts : Cache → Pipe → Store → Parts
parts cache pipe store = record { cache = cache; pipe = pipe; store = store }

abbrev pub PartsStand : Standing → Folding → Parts → Machine → Type 0
PartsStand means f lane m = LaneStands means f lane.cache lane.pipe lane.store m

-- The event leads a lane from old parts to new ones: whatever machine it represented, it now represents that machine
-- after the event. Its sizes stay.
pub record Makes (means : Standing) (f : Folding) (ways : ℕ) (event : Event) (old new : Parts) : Type 0 where
  pub stands : (m : Machine) → PartsStand means f old m → PartsStand means f new (step (geometry ways old.cache) m event)
  pub buckets : length new.cache.lists ≡ length old.cache.lists
  pub key_words : new.cache.key_words ≡ old.cache.key_words
  pub places : new.pipe.places ≡ old.pipe.places

-- these events in order
abbrev pub MakesAll : Standing → Folding → ℕ → List Event → Parts → Parts → Type 0
MakesAll means f ways [] old new = new ≡ old
MakesAll means f ways (event ∷ events) old new = (middle : Parts) × Makes means f ways event old middle
    × MakesAll means f ways events middle new

-- After any events, in whatever order packets, evictions and merges come, a lane represents the machine after them.
abbrev pub EventsAreFollowed : Standing → Folding → ℕ → Type 0
EventsAreFollowed means f ways = (events : List Event) (old new : Parts) (m : Machine)
    → PartsStand means f old m → MakesAll means f ways events old new
    → PartsStand means f new (run (geometry ways old.cache) events m)
