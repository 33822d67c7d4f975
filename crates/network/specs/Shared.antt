-- The fronts of all switches at one groupby, and the store that they share.
use Rattle.std.specs.Prelude.{◌≡◌, ℕ, List, [], ◌∷◌, ◌++◌, length, map, take, slice_get, Some, None}
use Rattle.epoch_model.specs.{Machine.{Epoch, Event}, Tables.Folding}
use Rattle.backing_store.specs.{Store.Store, Merged.StoreHolds}
use Rattle.final_queries.specs.FinalLaws.{AreAlike}
use Rattle.epoch_entry.specs.Kinds.{Sizes}
use Rattle.switch_core.specs.{FrontEvents.merges_of, FrontParts.{FrontOf, FitsStore}, Lanes.{Standing, FrontStands}}
use Rattle.additive_laws.specs.Network.{SwitchEvent, SwitchEpoch, events_at, all_epochs, epochs_at, machine_at}
use Rattle.net_wide.specs.NetTables.{caches_of}

-- this holds of the front of this switch
abbrev pub AtSwitch : {K : Type 0} → (FrontOf K → Type 0) → List (FrontOf K) → ℕ → Type 0
AtSwitch {K = K} P fronts switch = (front : FrontOf K) → slice_get fronts switch ≡ Some front → P front

-- these events, and then this one at this switch
abbrev pub with_event : List SwitchEvent → ℕ → Event → List SwitchEvent
with_event events switch event = events ++ record { switch = switch; event = event } ∷ []

-- these epochs as those of a switch
abbrev pub epochs_from : ℕ → List Epoch → List SwitchEpoch
epochs_from switch epochs = map (λ epoch. record { switch = switch; epoch = epoch }) epochs

-- the epochs of this switch that the event merges after these events: only a merge merges one
abbrev pub merged_by : ℕ → ℕ → ℕ → Event → List SwitchEvent → List SwitchEpoch
merged_by ways buckets switch event events = epochs_from switch (merges_of event (machine_at (caches_of buckets ways) switch events))

-- The fronts of switches 0, 1 and so on after these events, of whose closed epochs these were merged: each represents the machine
-- of its switch, and each switch's epochs were merged in the order of closing. No switch without a front had an event.
pub record FrontsStand {K : Type 0} (means : K → Standing) (ways buckets : ℕ) (fronts : List (FrontOf K)) (events : List SwitchEvent)
    (merged : List SwitchEpoch) : Type 0 where
  pub sizes : (s : ℕ) (front : FrontOf K) → slice_get fronts s ≡ Some front → length front.cache.lists ≡ buckets
  pub each : (s : ℕ) (front : FrontOf K) → slice_get fronts s ≡ Some front
      → FrontStands (means front.kind) front.cache front.pipe (machine_at (caches_of buckets ways) s events)
  pub none : (s : ℕ) → slice_get fronts s ≡ None → events_at s events ≡ []
  pub order : (s : ℕ) → epochs_at s merged
      ≡ take (machine_at (caches_of buckets ways) s events).merged (machine_at (caches_of buckets ways) s events).closed

-- a front's kind and sizes are unchanged
pub record FrontKept {K : Type 0} (old new : FrontOf K) : Type 0 where
  pub kind : new.kind ≡ old.kind
  pub buckets : length new.cache.lists ≡ length old.cache.lists
  pub key_words : new.cache.key_words ≡ old.cache.key_words
  pub entry_words : new.cache.entry_words ≡ old.cache.entry_words
  pub places : new.pipe.places ≡ old.pipe.places

-- and so are a store's sizes
pub record StoreKept (old new : Store) : Type 0 where
  pub key_words : new.key_words ≡ old.key_words
  pub state_words : new.state_words ≡ old.state_words

-- The fronts represent the machines after these events, of whose closed epochs these were merged, and the store holds the merged ones.
pub record SharedStand {K : Type 0} (means : K → Standing) (f : Folding) (ways buckets : ℕ) (all : List (FrontOf K)) (into : Store)
    (events : List SwitchEvent) (merged : List SwitchEpoch) : Type 0 where
  pub fronts : FrontsStand means ways buckets all events merged
  pub store : StoreHolds f into (all_epochs merged)

-- a front that can share the store: its entries are folded to the same states, and the store has its sizes
pub record MayShare {K : Type 0} (sizes : K → Sizes) (folding : K → Folding) (f : Folding) (words : ℕ) (store : Store)
    (front : FrontOf K) : Type 0 where
  pub alike : AreAlike (folding front.kind) f
  pub fits : FitsStore (sizes front.kind) front.cache store
  pub args : (sizes front.kind).args ≡ words

-- each of the fronts can
abbrev pub AllShare : {K : Type 0} → (K → Sizes) → (K → Folding) → Folding → ℕ → List (FrontOf K) → Store → Type 0
AllShare {K = K} sizes folding f words fronts store =
    (s : ℕ) (front : FrontOf K) → slice_get fronts s ≡ Some front → MayShare sizes folding f words store front
