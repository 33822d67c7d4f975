-- The store has the entries of the bucket from this way on, in reverse, after those that it had at first.
use Rattle.std.proofs.Common.{◌≡◌, List, ◌++◌, drop, reverse}
use Rattle.epoch_model.specs.Machine.{Epoch}
use Rattle.bucket_cache.specs.Caches.{list_at}
use Rattle.switch_core.specs.Lanes.{PairStands, PairsStand}
use Rattle.live_view.specs.Waiting.{EntriesStand}
use Rattle.live_view.proofs.waiting.keep_bucket.Given as goal

-- the entries from this way on are kept
abbrev pub invariant-loop-i : goal.invariant-loop-i
invariant-loop-i g l =
    let first = l.initial.store in
    let stands = g.K.EpochKind.stands l.kind in
    record {
      held : (opened epochs : List Epoch) → PairsStand (PairStands stands l.cache) (list_at l.cache l.bucket) opened
          → EntriesStand stands first epochs
          → EntriesStand stands l.store (epochs ++ reverse (drop l.i opened));
      key_words : l.store.key_words ≡ first.key_words;
      state_words : l.store.state_words ≡ first.state_words;
    }
