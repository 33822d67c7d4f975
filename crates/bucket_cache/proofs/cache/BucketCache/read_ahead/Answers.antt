-- The place at the front of a bucket is one of the cache's, so its key and its entry can be read.
use Rattle.std.proofs.Common.{length, lit<}
use Rattle.bucket_cache.{specs.Caches.list_at, proofs.PairLists.first-within}
use Rattle.bucket_cache.proofs.cache.BucketCache.read_ahead.Goals as goal

pub key-requires : goal.key-requires
key-requires g c = (
  lit< tt,
  first-within (list_at c.args.self.now c.bucket_at.result) c.in-Some.place (length c.args.self.now.entries)
      (c.invariant.ensures.within c.bucket_at.result) c.in-Some.ensures,
)

pub entry-requires : goal.entry-requires
entry-requires g c = (
  lit< tt,
  first-within (list_at c.args.self.now c.bucket_at.result) c.in-Some.place (length c.args.self.now.entries)
      (c.invariant.ensures.within c.bucket_at.result) c.in-Some.ensures,
)
