use Rattle.std.proofs.Common.{ap, length, arith}
use Rattle.bucket_cache.proofs.{FlatBuckets.length-lists_in, FlatCaches.view-sound}
use Rattle.bucket_cache.proofs.cache.BucketCache.buckets.Goals as goal

pub returns-clause-sound : goal.returns-clause-sound
returns-clause-sound g c = view-sound c.self.invariant c.self.view_is

pub returns-clause-number : goal.returns-clause-number
returns-clause-number g c =
    let b = c.self.inside in
    let long = length-lists_in g.row.WAYS b.key_words b.used.items b.order.items b.words.items in
    let lists = ap (λ x. length x.lists) c.self.view_is in
    omega (arith, long, lists, c.len.ensures, b.used.ok.0)
