-- The laws of the machine and of epochs.
use Rattle.std.specs.Prelude.{◌≡◌, true, false, ℕ, List, [], ◌∷◌, ◌++◌, ◌<◌, ◌≤◌, if◌then◌else◌, flat_map, map, filter, length, All}
use Rattle.epoch_model.specs.Keys.{Key, ArgRow, key_eq, bucket_of, distinct}
use Rattle.epoch_model.specs.Epochs.{Use, Geometry, is_use_of, in_one_epoch, onto_last, epochs}
use Rattle.epoch_model.specs.Machine.{Machine, Event, Packet, Evict, Merge, run, merge, empty_machine, open_in, row_lists, lists_of, end_of}
use Rattle.epoch_model.specs.Timeline.{Turn, NoPacket, AreTurns, all_events, all_uses}

-- There is at least one bucket and one way.
abbrev pub HasRoom : Geometry → Type 0
HasRoom g = (0 < g.buckets) × (0 < g.ways)

-- Merging changes no open and no closed epoch.
abbrev pub MergeKeepsEpochs : Type 0
MergeKeepsEpochs = (m : Machine) → ((merge m).recent ≡ m.recent) × ((merge m).closed ≡ m.closed)

-- the rows of the key's packet events, in order
abbrev pub rows_given : Key → List Event → List ArgRow
rows_given key [] = []
rows_given key (Packet other row ∷ events) = if key_eq other key then (row ∷ rows_given key events) else rows_given key events
rows_given key (Evict bucket ∷ events) = rows_given key events
rows_given key (Merge ∷ events) = rows_given key events

-- After any events a key's closed rows and then its open ones are the rows of its packets.
abbrev pub NoRowIsLost : Type 0
NoRowIsLost = (g : Geometry) (events : List Event) (key : Key) → HasRoom g
    → flat_map (λ rows. rows) (row_lists g (run g events (empty_machine g)) key) ≡ rows_given key events

-- After one turn for each packet of the trace, and then no packet, a key's row lists are its epochs.
abbrev pub RowListsAreEpochs : Type 0
RowListsAreEpochs = (g : Geometry) (turns : List Turn) (rest : List Event) (key : Key) → HasRoom g
    → AreTurns g 1 (empty_machine g) turns → NoPacket rest
    → row_lists g (run g (all_events turns ++ rest) (empty_machine g)) key ≡ epochs g (all_uses 1 turns) key

-- The packets have numbers from 1 up to this one, in order.
abbrev pub StartsFrom : ℕ → List Use → Type 0
StartsFrom number [] = Unit {0}
StartsFrom number (u ∷ uses) = (number ≤ u.packet) × StartsFrom u.packet uses

abbrev pub EndsBy : ℕ → List Use → Type 0
EndsBy number [] = Unit {0}
EndsBy number (u ∷ uses) = (u.packet ≤ number) × EndsBy number uses

pub record IsInTrace (packets : ℕ) (uses : List Use) : Type 0 where
  pub order : StartsFrom 1 uses
  pub within : EndsBy packets uses

-- At the end of the trace a key's closed row lists are its epochs.
abbrev pub ClosedAreEpochs : Type 0
ClosedAreEpochs = (g : Geometry) (uses : List Use) (packets : ℕ) (key : Key) → HasRoom g → IsInTrace packets uses
    → lists_of key (end_of g uses packets).closed ≡ epochs g uses key

-- Each bucket's list has distinct keys of that bucket, and at most as many as there are ways.
pub record IsWellFormed (g : Geometry) (m : Machine) : Type 0 where
  pub buckets : length m.recent ≡ g.buckets
  pub few : (bucket : ℕ) → length (open_in m bucket) ≤ g.ways
  pub once : (bucket : ℕ) → distinct (map (λ epoch. epoch.key) (open_in m bucket)) ≡ map (λ epoch. epoch.key) (open_in m bucket)
  pub home : (bucket : ℕ) → All (λ epoch. bucket_of g.buckets epoch.key ≡ bucket) (open_in m bucket)
  pub merged : m.merged ≤ length m.closed

abbrev pub MachinesAreWellFormed : Type 0
MachinesAreWellFormed = (g : Geometry) (events : List Event) → HasRoom g → IsWellFormed g (run g events (empty_machine g))

-- The pieces of a key's rows, joined, are its rows, and none is empty.
abbrev pub EpochsCutTheRows : Type 0
EpochsCutTheRows = (g : Geometry) (uses : List Use) (key : Key) →
    (flat_map (λ rows. rows) (epochs g uses key) ≡ map (λ u. u.row) (filter (is_use_of key) uses))
    × All (λ rows. 0 < length rows) (epochs g uses key)

-- Without its merges a list of events leads to the same open and closed epochs.
abbrev pub unmerged : List Event → List Event
unmerged [] = []
unmerged (Packet key row ∷ events) = Packet key row ∷ unmerged events
unmerged (Evict bucket ∷ events) = Evict bucket ∷ unmerged events
unmerged (Merge ∷ events) = unmerged events

pub record SameEpochs (m n : Machine) : Type 0 where
  pub recent : m.recent ≡ n.recent
  pub closed : m.closed ≡ n.closed

abbrev pub MergesDecideNothing : Type 0
MergesDecideNothing = (g : Geometry) (events : List Event) (m n : Machine) → SameEpochs m n
    → SameEpochs (run g events m) (run g (unmerged events) n)

-- none of the uses is of the key
abbrev pub NotUsed : Key → List Use → Type 0
NotUsed key [] = Unit {0}
NotUsed key (u ∷ uses) = (is_use_of key u ≡ false) × NotUsed key uses

-- Where a key's rows are cut, with the uses in the order of the trace.
pub record EpochsAreCut (g : Geometry) : Type 0 where
  pub start : (key : Key) → epochs g [] key ≡ []
  -- a use of another key cuts nothing
  pub other : (uses : List Use) (u : Use) (key : Key) → is_use_of key u ≡ false
      → epochs g (uses ++ u ∷ []) key ≡ epochs g uses key
  -- the first use of a key begins its first epoch
  pub first : (uses : List Use) (u : Use) → NotUsed u.key uses
      → epochs g (uses ++ u ∷ []) u.key ≡ epochs g uses u.key ++ (u.row ∷ []) ∷ []
  -- of two consecutive uses the second goes on with the epoch of the first exactly where they are in one epoch
  pub next : (before between : List Use) (one two : Use) → is_use_of two.key one ≡ true → NotUsed two.key between →
      epochs g ((before ++ one ∷ between) ++ two ∷ []) two.key
      ≡ (if in_one_epoch g one between two
      then onto_last two.row (epochs g (before ++ one ∷ between) two.key)
      else (epochs g (before ++ one ∷ between) two.key ++ (two.row ∷ []) ∷ []))

abbrev pub EpochsAreCutBetweenUses : Type 0
EpochsAreCutBetweenUses = (g : Geometry) → EpochsAreCut g
