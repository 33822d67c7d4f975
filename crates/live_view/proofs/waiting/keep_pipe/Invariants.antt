-- The store has the entries of the pipe's records before this one, after those that it had at first.
use Rattle.std.proofs.Common.{◌≡◌, List, ◌++◌, take}
use Rattle.epoch_model.specs.Machine.{Epoch}
use Rattle.switch_core.specs.Lanes.{RecordsStand}
use Rattle.live_view.specs.Waiting.{EntriesStand}
use Rattle.live_view.proofs.waiting.keep_pipe.Given as goal

-- the records before this one are kept
abbrev pub invariant-loop-i : goal.invariant-loop-i
invariant-loop-i g l =
    let first = l.initial.store in
    let stands = g.K.EpochKind.stands l.kind in
    record {
      held : (waiting epochs : List Epoch) → RecordsStand stands first.key_words l.pipe.records waiting → EntriesStand stands first epochs
          → EntriesStand stands l.store (epochs ++ take l.i waiting);
      key_words : l.store.key_words ≡ first.key_words;
      state_words : l.store.state_words ≡ first.state_words;
    }
