-- The rows so far are seen, and the walk goes on with the keys from these places on.
use Rattle.std.proofs.Common.{◌≡◌, ◌≤◌, ◌+◌, ◌-◌, List, drop, length, map}
use Rattle.epoch_model.specs.{Keys.{Key, ascending}, Machine.Epoch}
use Rattle.backing_store.specs.{Merged.StoreHolds, Ordered.row_placed, SortedRows.sorted_rows, Store.Store, StoreLaws.keys_of}
use Rattle.live_view.specs.{Seen.{AreLeft, BeginsAt, IsWalk}, Waiting.EntriesStand}
use Rattle.live_view.proofs.rows.push_all.Given as goal

abbrev pub invariant-loop-at : goal.invariant-loop-at
invariant-loop-at g l = record {
  at : l.at ≤ length l.places;
  next : l.next.at ≤ length l.entries;
  least : (store : Store) (keys : List Key) → AreLeft store keys (drop l.next.at l.entries) → BeginsAt keys l.next.word;
  walk : (closed unmerged : List Epoch) (waiting : Store) (keys : List Key) → StoreHolds (g.K.EpochKind.folding l.kind) l.store closed
      → map (row_placed l.store) l.places ≡ sorted_rows l.store → EntriesStand (g.K.EpochKind.stands l.kind) waiting unmerged
      → IsWalk (g.K.EpochKind.folding l.kind) closed unmerged waiting (ascending (keys_of l.store.keys)) keys l.entries
      l.initial.shown.rows l.initial.shown.epochs
      → (left : List Key) × IsWalk (g.K.EpochKind.folding l.kind) closed unmerged waiting
      (drop l.at (ascending (keys_of l.store.keys))) left (drop l.next.at l.entries) l.shown.rows l.shown.epochs;
  words : length l.state ≡ length l.initial.state;
  scratch : length l.scratch ≡ length l.initial.scratch;
  steps : l.initial.steps ≤ l.steps;
}

abbrev pub decreases-loop-at : goal.decreases-loop-at
decreases-loop-at g l = (length l.places - l.at) + (length l.entries - l.next.at)
