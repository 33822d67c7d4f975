use Rattle.std.{proofs.Common.{◌≡◌, ◌*◌, ◌≤◌, length, take}, specs.Prelude.sum_by}
use Rattle.bucket_cache.proofs.cache.BucketCache.held.Given as goal

abbrev pub invariant-loop-used : goal.invariant-loop-used
invariant-loop-used g l = record {
  number : l.held ≡ sum_by (λ pairs. length pairs) (take l.used-index l.self.lists);
  bound : l.held ≤ l.used-index * g.row.WAYS;
}
