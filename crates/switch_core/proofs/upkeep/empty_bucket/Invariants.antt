-- Evictions of this bucket and merges for their room led here, and all other buckets are as they were.
use Rattle.std.proofs.Common.{◌≡◌, ◌≢◌, ◌+◌, ◌*◌, ◌≤◌, ℕ, length}
use Rattle.bucket_cache.specs.Caches.{list_at}
use Rattle.switch_core.specs.{Closing.held_in, Costs.{evict_cost, merge_cost}, FrontEvents.{CarriesUpTo, KeepsSizes, with_store}}
use Rattle.switch_core.specs.Upkeeps.{sweep_from}
use Rattle.switch_core.proofs.upkeep.empty_bucket.Given as goal

-- evictions of this bucket and merges led here
abbrev pub invariant-epochs : goal.invariant-epochs
invariant-epochs g l =
    let first = l.initial.front in
    let evicting = evict_cost first.cache.key_words first.cache.entry_words in
    let merging = merge_cost first.cache.key_words first.cache.entry_words (g.K.EpochKind.merge_bound first.kind) in
    record {
      carries : CarriesUpTo g.K.EpochKind.stands g.K.EpochKind.folding g.row.WAYS (sweep_from l.bucket first.cache first.pipe)
          (sweep_from l.bucket l.front.cache l.front.pipe) (with_store first l.initial.store) (with_store l.front l.store);
      others : (other : ℕ) → other ≢ l.bucket → list_at l.front.cache other ≡ list_at first.cache other;
      sizes : KeepsSizes (with_store first l.initial.store) (with_store l.front l.store);
      later : l.initial.steps ≤ l.steps;
      cost : l.steps + held_in l.front.cache * (evicting + merging) ≤ l.initial.steps + held_in first.cache * (evicting + merging);
    }

abbrev pub decreases-epochs : goal.decreases-epochs
decreases-epochs g l = length (list_at l.front.cache l.bucket)
