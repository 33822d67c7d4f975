use Rattle.std.{proofs.Common.{◌≡◌, ◌<◌, ℕ, length, get_or}, specs.Prelude.{◌%◌}}
use Rattle.bucket_cache.proofs.cache.BucketCache.new.Given as goal

abbrev pub invariant-loop-place : goal.invariant-loop-place
invariant-loop-place g l = record {
  count : length l.order.items ≡ l.place;
  each : (k : ℕ) → k < l.place → get_or l.order.items k 0 ≡ k % g.row.WAYS;
}
