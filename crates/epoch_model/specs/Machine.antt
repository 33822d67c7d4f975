-- The machine that the cache, pipe and store of a groupby represent, and its events.
use Rattle.std.specs.Prelude.{ℕ, zero, suc, Bool, List, [], ◌∷◌, ◌++◌, filter, map, length, replicate, take, drop, not, ◌==◌, ◌+◌, ◌-◌}
use Rattle.std.specs.{Prelude.{nat_lt, slice_index_or, slice_set, if◌then◌else◌}, List.list_any}
use Rattle.epoch_model.specs.{Keys.{Key, ArgRow, key_eq, bucket_of}, Epochs.{Use, Geometry, is_refresh}}

-- an epoch of a key: the rows of its packets, the first one first
pub record Epoch : Type 0 where
  pub key : Key
  pub rows : List ArgRow

pub record Machine : Type 0 where
  pub recent : List (List Epoch)  -- for each bucket the open epochs, the most recently used first
  pub closed : List Epoch  -- the closed epochs, in the order of closing
  pub merged : ℕ  -- how many of the closed ones are merged

pub data Event : Type 0 where
  Packet : (key : Key) (row : ArgRow) → Event
  Evict : (bucket : ℕ) → Event
  Merge : Event

abbrev pub empty_machine : Geometry → Machine
empty_machine g = record { recent = replicate g.buckets []; closed = []; merged = 0 }

-- the open epochs of a bucket
abbrev pub open_in : Machine → ℕ → List Epoch
open_in m bucket = slice_index_or m.recent bucket []

abbrev pub is_of : Key → Epoch → Bool
is_of key epoch = key_eq epoch.key key

abbrev pub is_open : Key → List Epoch → Bool
is_open key epochs = list_any (is_of key) epochs

-- the rows of the key's epoch, if it has one
abbrev pub rows_in_epochs : Key → List Epoch → List ArgRow
rows_in_epochs key [] = []
rows_in_epochs key (epoch ∷ epochs) = if is_of key epoch then epoch.rows else rows_in_epochs key epochs

abbrev pub without : Key → List Epoch → List Epoch
without key epochs = filter (λ epoch. not (is_of key epoch)) epochs

-- the key's epoch at the front, with one more row
abbrev pub with_row : Key → ArgRow → List Epoch → List Epoch
with_row key row epochs = record { key = key; rows = rows_in_epochs key epochs ++ row ∷ [] } ∷ without key epochs

-- an epoch of this row alone at the front
abbrev pub with_new : Key → ArgRow → List Epoch → List Epoch
with_new key row epochs = record { key = key; rows = row ∷ [] } ∷ epochs

abbrev pub all_but_last : List Epoch → List Epoch
all_but_last epochs = take (length epochs - 1) epochs

-- the last one alone
abbrev pub last_alone : List Epoch → List Epoch
last_alone epochs = drop (length epochs - 1) epochs

abbrev pub set_open : Machine → ℕ → List Epoch → Machine
set_open m bucket epochs = record { recent = slice_set m.recent bucket epochs; closed = m.closed; merged = m.merged }

-- the least recently used epoch of the bucket is closed
abbrev pub evict : Machine → ℕ → Machine
evict m bucket =
    if nat_lt 0 (length (open_in m bucket))
    then record {
      recent = slice_set m.recent bucket (all_but_last (open_in m bucket));
      closed = m.closed ++ last_alone (open_in m bucket);
      merged = m.merged;
    }
    else m

abbrev pub packet : Geometry → Machine → Key → ArgRow → Machine
packet g m key row =
    let bucket = bucket_of g.buckets key in
    let epochs = open_in m bucket in
    if is_open key epochs then set_open m bucket (with_row key row epochs)
    else (if nat_lt (length epochs) g.ways then set_open m bucket (with_new key row epochs)
    else set_open (evict m bucket) bucket (with_new key row (open_in (evict m bucket) bucket)))

-- the oldest closed epoch that isn't merged is merged
abbrev pub merge : Machine → Machine
merge m = if nat_lt m.merged (length m.closed) then record { recent = m.recent; closed = m.closed; merged = m.merged + 1 } else m

abbrev pub step : Geometry → Machine → Event → Machine
step g m (Packet key row) = packet g m key row
step g m (Evict bucket) = evict m bucket
step g m Merge = merge m

-- the machine after these events
abbrev pub run : Geometry → List Event → Machine → Machine
run g [] m = m
run g (event ∷ events) m = run g events (step g m event)

-- the row lists of the key, in order
abbrev pub lists_of : Key → List Epoch → List (List ArgRow)
lists_of key epochs = map (λ epoch. epoch.rows) (filter (is_of key) epochs)

-- the key's row lists: the closed ones, and then the open one where it has one
unfoldable pub row_lists : Geometry → Machine → Key → List (List ArgRow)
row_lists g m key = lists_of key m.closed ++ lists_of key (open_in m (bucket_of g.buckets key))

-- Evict until the bucket is empty: n times, for n epochs
abbrev pub evict_times : ℕ → Machine → ℕ → Machine
evict_times zero m bucket = m
evict_times (suc n) m bucket = evict_times n (evict m bucket) bucket

abbrev pub empty_bucket : Machine → ℕ → Machine
empty_bucket m bucket = evict_times (length (open_in m bucket)) m bucket

-- the buckets below the number are emptied, in ascending order
abbrev pub empty_buckets : ℕ → Machine → Machine
empty_buckets zero m = m
empty_buckets (suc bucket) m = empty_bucket (empty_buckets bucket m) bucket

abbrev pub merge_times : ℕ → Machine → Machine
merge_times zero m = m
merge_times (suc n) m = merge_times n (merge m)

abbrev pub merge_all : Machine → Machine
merge_all m = merge_times (length m.closed - m.merged) m

-- the packet events of the uses of one packet
abbrev pub packets_of : ℕ → List Use → List Event
packets_of number [] = []
packets_of number (u ∷ uses) = if u.packet == number then (Packet u.key u.row ∷ packets_of number uses) else packets_of number uses

-- the machine after the first packets of the trace, with the refreshes up to there
unfoldable pub after_packets : Geometry → List Use → ℕ → Machine
after_packets g uses zero = empty_machine g
after_packets g uses (suc n) =
    let m = run g (packets_of (suc n) uses) (after_packets g uses n) in
    if is_refresh g.refresh (suc n) then empty_buckets g.buckets m else m

-- the machine at the end of a trace with this many packets
unfoldable pub end_of : Geometry → List Use → ℕ → Machine
end_of g uses packets = merge_all (empty_buckets g.buckets (after_packets g uses packets))
