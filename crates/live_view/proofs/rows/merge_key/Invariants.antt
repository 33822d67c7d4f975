-- The rows of the key that were passed are merged.
use Rattle.std.proofs.Common.{◌≡◌, ◌≤◌, ◌-◌, List, ◌∷◌, length, take, drop}
use Rattle.std.specs.Prelude.{flat_map, fold}
use Rattle.epoch_model.specs.Keys.{ArgRow, Key}
use Rattle.backing_store.specs.Store.{Store, states_of}
use Rattle.live_view.specs.{Seen.AreLeft, Waiting.EachStands}
use Rattle.live_view.proofs.RowFacts.{AreOfKey}
use Rattle.live_view.proofs.rows.merge_key.Given as goal

abbrev pub invariant-loop-next : goal.invariant-loop-next
invariant-loop-next g l =
    let f = g.K.EpochKind.folding l.kind in
    record {
      after : l.from ≤ l.next;
      within : l.next ≤ length l.entries;
      passed : (store : Store) (keys : List Key) → AreLeft store (l.key ∷ keys) (drop l.from l.entries)
          → AreOfKey store l.key keys (l.next - l.from) (drop l.next l.entries);
      merged : (store : Store) (keys : List Key) (lists : List (List ArgRow)) → AreLeft store (l.key ∷ keys) (drop l.from l.entries)
          → EachStands (g.K.EpochKind.stands l.kind) (states_of store l.key) lists
          → l.state ≡ fold f.step l.initial.state (flat_map (λ rows. rows) (take (l.next - l.from) lists));
      words : length l.state ≡ length l.initial.state;
      scratch : length l.scratch ≡ length l.initial.scratch;
      steps : l.initial.steps ≤ l.steps;
    }

abbrev pub decreases-loop-next : goal.decreases-loop-next
decreases-loop-next g l = length l.entries - l.next
