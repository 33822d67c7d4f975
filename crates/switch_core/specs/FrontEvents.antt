-- What the calls of a front make of it, and of the store that it is merged into.
use Rattle.std.specs.Prelude.{◌≡◌, ℕ, ◌+◌, ◌-◌, List, [], ◌∷◌, ◌++◌, length, nat_lt, take, drop, if◌then◌else◌}
use Rattle.epoch_model.specs.{Machine.{Epoch, Machine, Event, Packet, Evict, Merge, step}, Tables.Folding}
use Rattle.bucket_cache.specs.Caches.{list_at, with_list}
use Rattle.backing_store.specs.{Store.Store, Merged.StoreHolds}
use Rattle.switch_core.specs.{FrontParts.{FrontOf, LaneOf}, Lanes.{Standing, FrontStands, geometry}, Rows.AreFirst}

-- The event leads a front from old parts to new ones: whatever machine it represented, it now represents that machine after the
-- event. Its kind and its sizes stay.
pub record FrontMakes {K : Type 0} (means : Standing) (ways : ℕ) (event : Event) (old new : FrontOf K) : Type 0 where
  pub stands : (m : Machine) → FrontStands means old.cache old.pipe m
      → FrontStands means new.cache new.pipe (step (geometry ways old.cache) m event)
  pub kind : new.kind ≡ old.kind
  pub buckets : length new.cache.lists ≡ length old.cache.lists
  pub key_words : new.cache.key_words ≡ old.cache.key_words
  pub entry_words : new.cache.entry_words ≡ old.cache.entry_words
  pub places : new.pipe.places ≡ old.pipe.places

-- the oldest closed epoch that isn't merged, where there is one
abbrev pub next_merged : Machine → List Epoch
next_merged m = take 1 (drop m.merged m.closed)

-- A store takes what a front merges: whatever epochs it held, and whatever machine the front represented, it now holds those epochs
-- and after them the machine's oldest unmerged one.
abbrev pub MergesNext : {K : Type 0} → Standing → Folding → FrontOf K → Store → Store → Type 0
MergesNext means f front old new = (m : Machine) (epochs : List Epoch) → FrontStands means front.cache front.pipe m
    → StoreHolds f old epochs → StoreHolds f new (epochs ++ next_merged m)

-- a front with the store that it is handed
abbrev pub with_store : {K : Type 0} → FrontOf K → Store → LaneOf K
with_store front store = record { kind = front.kind; cache = front.cache; pipe = front.pipe; store = store }

-- the epochs that the event merges on the machine: only a merge merges one
abbrev pub merges_of : Event → Machine → List Epoch
merges_of (Packet key row) m = []
merges_of (Evict bucket) m = []
merges_of Merge m = next_merged m

-- The bucket's least recently used pair is gone, and its record waits in the pipe; where there is none nothing changes.
pub record IsEvicted {K : Type 0} (bucket : ℕ) (old new : LaneOf K) : Type 0 where
  pub cache : new.cache ≡ with_list old.cache bucket (take (length (list_at old.cache bucket) - 1) (list_at old.cache bucket))
  pub records : length new.pipe.records ≡ length old.pipe.records + (if nat_lt 0 (length (list_at old.cache bucket)) then 1 else 0)
  pub store : new.store ≡ old.store
  pub none : length (list_at old.cache bucket) ≡ 0 → new ≡ old

-- The pipe's oldest record is gone; where there is none nothing changes.
pub record IsMerged {K : Type 0} (old new : LaneOf K) : Type 0 where
  pub cache : new.cache ≡ old.cache
  pub records : new.pipe.records ≡ drop 1 old.pipe.records
  pub none : length old.pipe.records ≡ 0 → new ≡ old

-- what an event leaves of a front and its store, beside what they represent
abbrev pub LeavesParts : {K : Type 0} → Event → LaneOf K → LaneOf K → Type 0
LeavesParts (Packet key row) old new = new.store ≡ old.store
LeavesParts (Evict bucket) old new = IsEvicted bucket old new
LeavesParts Merge old new = IsMerged old new

-- the kind, and the sizes of cache, pipe and store, stay
pub record KeepsSizes {K : Type 0} (old new : LaneOf K) : Type 0 where
  pub kind : new.kind ≡ old.kind
  pub buckets : length new.cache.lists ≡ length old.cache.lists
  pub key_words : new.cache.key_words ≡ old.cache.key_words
  pub entry_words : new.cache.entry_words ≡ old.cache.entry_words
  pub places : new.pipe.places ≡ old.pipe.places
  pub stored_key_words : new.store.key_words ≡ old.store.key_words
  pub state_words : new.store.state_words ≡ old.store.state_words

-- The event leads a front and the store that it is handed from old parts to new ones: whatever machine the front represented, it now
-- represents that machine after the event; and whatever epochs the store held, it now holds those that the event merges after them.
pub record Carries {K : Type 0} (means : K → Standing) (folding : K → Folding) (ways : ℕ) (event : Event) (old new : LaneOf K)
    : Type 0 where
  pub stands : (m : Machine) → FrontStands (means old.kind) old.cache old.pipe m
      → FrontStands (means new.kind) new.cache new.pipe (step (geometry ways old.cache) m event)
  pub held : (m : Machine) (epochs : List Epoch) → FrontStands (means old.kind) old.cache old.pipe m
      → StoreHolds (folding old.kind) old.store epochs → StoreHolds (folding new.kind) new.store (epochs ++ merges_of event m)
  pub leaves : LeavesParts event old new
  pub sizes : KeepsSizes old new

-- these events in order
abbrev pub CarriesAll : {K : Type 0} → (K → Standing) → (K → Folding) → ℕ → List Event → LaneOf K → LaneOf K → Type 0
CarriesAll means folding ways [] old new = new ≡ old
CarriesAll {K = K} means folding ways (event ∷ events) old new = (middle : LaneOf K) × Carries means folding ways event old middle
    × CarriesAll means folding ways events middle new

-- the first of these events, and no others
abbrev pub CarriesFirst : {K : Type 0} → (K → Standing) → (K → Folding) → ℕ → List Event → LaneOf K → LaneOf K → Type 0
CarriesFirst means folding ways events old new =
    (first : List Event) × AreFirst first events × CarriesAll means folding ways first old new

-- Of all these events the first ones led from the old parts to the new ones, and these are still to come.
abbrev pub CarriesUpTo : {K : Type 0} → (K → Standing) → (K → Folding) → ℕ → List Event → List Event → LaneOf K → LaneOf K → Type 0
CarriesUpTo means folding ways all coming old new =
    (made : List Event) × (made ++ coming ≡ all) × CarriesAll means folding ways made old new
