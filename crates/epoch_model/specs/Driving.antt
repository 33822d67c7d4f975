-- What a program needs that makes the events of a trace in sequence, with merges anywhere.
use Rattle.std.specs.Prelude.{◌≡◌, ℕ, suc, ◌<◌, List, [], ◌∷◌, ◌++◌, length, Option, Some, None, slice_index_or, if◌then◌else◌}
use Rattle.epoch_model.specs.{Keys.{Key, ArgRow}, Epochs.{Use, Geometry, is_refresh}, Machine.{Machine, Event, Packet, open_in, packet}}
use Rattle.epoch_model.specs.Machine.{evict, merge, empty_bucket, empty_buckets, run, packets_of, after_packets, end_of, empty_machine}
use Rattle.epoch_model.specs.{Timeline.IsSwept, Laws.{IsInTrace, SameEpochs}}

-- Each event keeps two machines alike but for the number of merged epochs, and one of them may merge alone.
pub record EventsKeepAlike : Type 0 where
  pub start : (m : Machine) → SameEpochs m m
  pub on_packet : (g : Geometry) (m n : Machine) (key : Key) (row : ArgRow) → SameEpochs m n
      → SameEpochs (packet g m key row) (packet g n key row)
  pub on_evict : (m n : Machine) (bucket : ℕ) → SameEpochs m n → SameEpochs (evict m bucket) (evict n bucket)
  pub on_merge : (m n : Machine) → SameEpochs m n → SameEpochs (merge m) n
  pub on_bucket : (m n : Machine) (bucket : ℕ) → SameEpochs m n → SameEpochs (empty_bucket m bucket) (empty_bucket n bucket)
  pub on_sweep : (m n : Machine) (buckets : ℕ) → SameEpochs m n → SameEpochs (empty_buckets buckets m) (empty_buckets buckets n)

-- A bucket is emptied by evictions until it has no open epoch, and the buckets are emptied in turn.
pub record BucketsEmptyByEvictions : Type 0 where
  pub start : (m : Machine) → empty_buckets 0 m ≡ m
  pub first : (m : Machine) (bucket : ℕ) → empty_bucket (evict m bucket) bucket ≡ empty_bucket m bucket
  pub done : (m : Machine) (bucket : ℕ) → open_in m bucket ≡ [] → empty_bucket m bucket ≡ m
  pub next : (m : Machine) (bucket : ℕ) → empty_buckets (suc bucket) m ≡ empty_bucket (empty_buckets bucket m) bucket
  pub swept : (m : Machine) (buckets : ℕ) → length m.recent ≡ buckets → IsSwept (empty_buckets buckets m)

-- the machine after the events of the packet with this number, and the sweep of a refresh after it
abbrev pub after_packet : Geometry → ℕ → List Event → Machine → Machine
after_packet g number events m = if is_refresh g.refresh number then empty_buckets g.buckets (run g events m) else run g events m

-- Packet by packet the machine of the trace is reached.
pub record PacketsFollowTheTrace : Type 0 where
  pub start : (g : Geometry) (uses : List Use) → after_packets g uses 0 ≡ empty_machine g
  pub next : (g : Geometry) (uses : List Use) (number : ℕ)
      → after_packets g uses (suc number) ≡ after_packet g (suc number) (packets_of (suc number) uses) (after_packets g uses number)
  pub buckets : (g : Geometry) (uses : List Use) (number : ℕ) → length (after_packets g uses number).recent ≡ g.buckets

-- A machine that was swept after the last packet has the closed epochs of the trace's end, and once all of them are
-- merged it is the machine of the trace's end.
pub record SweepsReachTheEnd : Type 0 where
  pub closed : (g : Geometry) (uses : List Use) (packets : ℕ) (m : Machine)
      → SameEpochs m (empty_buckets g.buckets (after_packets g uses packets))
      → m.closed ≡ (end_of g uses packets).closed
  pub whole : (g : Geometry) (uses : List Use) (packets : ℕ) (m : Machine)
      → SameEpochs m (empty_buckets g.buckets (after_packets g uses packets))
      → m.merged ≡ length m.closed → m ≡ end_of g uses packets
  pub swept : (g : Geometry) (uses : List Use) (packets : ℕ) → IsSwept (end_of g uses packets)
  pub merged : (g : Geometry) (uses : List Use) (packets : ℕ) → (end_of g uses packets).merged ≡ length (end_of g uses packets).closed

-- what a groupby takes of one packet: the key and the argument row
pub record Taken : Type 0 where
  pub key : Key
  pub row : ArgRow

abbrev pub use_at : ℕ → Option Taken → List Use
use_at number None = []
use_at number (Some t) = record { packet = number; key = t.key; row = t.row } ∷ []

-- the uses where at most one is taken of each packet, with the packets numbered from this number on
abbrev pub uses_taken : ℕ → List (Option Taken) → List Use
uses_taken number [] = []
uses_taken number (taken ∷ packets) = use_at number taken ++ uses_taken (suc number) packets

abbrev pub event_of : Option Taken → List Event
event_of None = []
event_of (Some t) = Packet t.key t.row ∷ []

-- Uses that are taken packet by packet are a trace's, and each packet has the event of what is taken of it.
pub record TakenUsesAreInTrace : Type 0 where
  pub order : (packets : List (Option Taken)) → IsInTrace (length packets) (uses_taken 1 packets)
  pub event : (packets : List (Option Taken)) (i : ℕ) → i < length packets
      → packets_of (suc i) (uses_taken 1 packets) ≡ event_of (slice_index_or packets i None)
