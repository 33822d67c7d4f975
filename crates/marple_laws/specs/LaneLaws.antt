-- What holds of a lane that represents a machine.
use Rattle.std.specs.Prelude.{◌≡◌, ◌≤◌, ℕ, List, length, All}
use Rattle.epoch_model.specs.{Keys.bucket_of, Laws.HasRoom, Machine.{Event, run, empty_machine}}
use Rattle.bucket_cache.specs.{Buckets.AreKeysOnce, Caches.{Cache, list_at}}
use Rattle.switch_core.specs.{Lanes.geometry, PlanLanes.{LaneView, StandsFor}}

-- Each bucket of the cache has distinct keys of that bucket, and at most as many as there are ways.
pub record HasKeysInBuckets (ways : ℕ) (cache : Cache) : Type 0 where
  pub few : (bucket : ℕ) → length (list_at cache bucket) ≤ ways
  pub once : (bucket : ℕ) → AreKeysOnce (list_at cache bucket)
  pub home : (bucket : ℕ) → All (λ pair. bucket_of (length cache.lists) pair.key ≡ bucket) (list_at cache bucket)

-- A lane that represents the machine after some events has the keys of its cache in their buckets.
abbrev pub LanesKeepKeysInBuckets : Type 0
LanesKeepKeysInBuckets = (ways : ℕ) (lane : LaneView) (events : List Event)
    → HasRoom (geometry ways lane.cache)
    → StandsFor lane (run (geometry ways lane.cache) events (empty_machine (geometry ways lane.cache)))
    → HasKeysInBuckets ways lane.cache
