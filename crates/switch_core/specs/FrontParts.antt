-- What contracts see of a front and of a lane, and how their parts fit together.
use Rattle.std.specs.Prelude.{◌≡◌, ℕ, ◌+◌, ◌*◌, ◌<◌, ◌≤◌, List, length}
use Rattle.epoch_model.specs.Tables.{Folding}
use Rattle.query_lang.specs.declared.fault.TheConstants.{MAX_KEYS}
use Rattle.epoch_entry.specs.Kinds.{Sizes}
use Rattle.bucket_cache.specs.Caches.{Cache}
use Rattle.evict_pipe.specs.Pipes.{Pipe}
use Rattle.backing_store.specs.Store.{Store}

-- a front: the kind of its entries, and the parts that represent a machine's open and closed epochs up to the merged ones
pub record FrontOf (K : Type 0) : Type 0 where
  pub kind : K
  pub cache : Cache
  pub pipe : Pipe

abbrev pub front_of : {K : Type 0} → K → Cache → Pipe → FrontOf K
front_of kind cache pipe = record { kind = kind; cache = cache; pipe = pipe }

-- a lane: a front and its store
pub record LaneOf (K : Type 0) : Type 0 where
  pub kind : K
  pub cache : Cache
  pub pipe : Pipe
  pub store : Store

-- the sizes that caches and pipes may have: ways, buckets, and records
pub record AreSizes (ways buckets records : ℕ) : Type 0 where
  pub some_ways : 0 < ways
  pub some_buckets : 0 < buckets
  pub places : buckets * ways ≤ 65536
  pub some_records : 0 < records
  pub most_records : records ≤ 65536

-- the words of a front's entries and records are as many as the kind says
pub record IsFront (ways : ℕ) (sizes : Sizes) (cache : Cache) (pipe : Pipe) : Type 0 where
  pub some_ways : 0 < ways
  pub some_buckets : 0 < length cache.lists
  pub some_places : 0 < pipe.places
  pub entry : cache.entry_words ≡ sizes.entry
  pub record_words : pipe.record_words ≡ cache.key_words + cache.entry_words
  pub few_key_words : cache.key_words ≤ MAX_KEYS

-- and so are those of the scratch words and of the initial state
pub record AreFrontParts (ways : ℕ) (sizes : Sizes) (f : Folding) (cache : Cache) (pipe : Pipe)
    (scratch initial : List ℕ) : Type 0 where
  pub front : IsFront ways sizes cache pipe
  pub scratch_words : length scratch ≡ sizes.scratch
  pub initial_words : length initial ≡ sizes.state
  pub initial_state : initial ≡ f.initial

-- a store has keys of as many words as a front's, and states of as many as the kind says
pub record FitsStore (sizes : Sizes) (cache : Cache) (store : Store) : Type 0 where
  pub key : store.key_words ≡ cache.key_words
  pub state : store.state_words ≡ sizes.state
