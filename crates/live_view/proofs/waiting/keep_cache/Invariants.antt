-- The store has the entries of all buckets below this one, after those that it had at first.
use Rattle.std.proofs.Common.{◌≡◌, List, ◌++◌, take, flat_map, reverse}
use Rattle.epoch_model.specs.Machine.{Epoch, Machine}
use Rattle.switch_core.specs.Lanes.{CacheStands}
use Rattle.live_view.specs.Waiting.{EntriesStand}
use Rattle.live_view.proofs.waiting.keep_cache.Given as goal

-- the entries of the buckets below this one are kept
abbrev pub invariant-loop-bucket : goal.invariant-loop-bucket
invariant-loop-bucket g l =
    let first = l.initial.store in
    let stands = g.K.EpochKind.stands l.kind in
    record {
      held : (m : Machine) (epochs : List Epoch) → CacheStands stands l.cache m → EntriesStand stands first epochs
          → EntriesStand stands l.store (epochs ++ flat_map (λ es. reverse es) (take l.bucket m.recent));
      key_words : l.store.key_words ≡ first.key_words;
      state_words : l.store.state_words ≡ first.state_words;
    }
