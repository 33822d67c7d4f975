-- The merges so far are the first of those that empty the pipe, and one more than it has records are still to come.
use Rattle.std.proofs.Common.{◌+◌, ◌*◌, ◌≤◌, suc, length, replicate}
use Rattle.epoch_model.specs.Machine.{Merge}
use Rattle.switch_core.specs.{Costs.merge_cost, FrontEvents.{CarriesUpTo, KeepsSizes, with_store}}
use Rattle.switch_core.proofs.upkeep.empty_pipe.Given as goal

-- merges led here
abbrev pub invariant-records : goal.invariant-records
invariant-records g l =
    let first = l.initial.front in
    let merging = merge_cost first.cache.key_words first.cache.entry_words (g.K.EpochKind.merge_bound first.kind) in
    record {
      carries : CarriesUpTo g.K.EpochKind.stands g.K.EpochKind.folding g.row.WAYS (replicate (suc (length first.pipe.records)) Merge)
          (replicate (suc (length l.front.pipe.records)) Merge) (with_store first l.initial.store) (with_store l.front l.store);
      sizes : KeepsSizes (with_store first l.initial.store) (with_store l.front l.store);
      later : l.initial.steps ≤ l.steps;
      cost : l.steps + length l.front.pipe.records * merging ≤ l.initial.steps + length first.pipe.records * merging;
    }

abbrev pub decreases-records : goal.decreases-records
decreases-records g l = length l.front.pipe.records
