-- The store holds the epochs that the rows before this one stand for, after those that it held at first.
use Rattle.std.proofs.Common.{◌≡◌, ◌≤◌, List, ◌++◌, take}
use Rattle.epoch_model.specs.Machine.{Epoch}
use Rattle.backing_store.specs.Merged.{StoreHolds}
use Rattle.live_view.specs.Waiting.{RowsStand}
use Rattle.live_view.proofs.merging.merge_entries.Given as goal

-- the rows before this one are merged
abbrev pub invariant-loop-at : goal.invariant-loop-at
invariant-loop-at g l =
    let first = l.initial.store in
    let f = g.K.EpochKind.folding l.kind in
    record {
      held : (unmerged epochs : List Epoch) → RowsStand (g.K.EpochKind.stands l.kind) l.entries unmerged → StoreHolds f first epochs
          → StoreHolds f l.store (epochs ++ take l.at unmerged);
      key_words : l.store.key_words ≡ first.key_words;
      state_words : l.store.state_words ≡ first.state_words;
      steps : l.initial.steps ≤ l.steps;
    }
