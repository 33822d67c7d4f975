use Rattle.bucket_cache.proofs.FlatCaches.{view-sound}
use Rattle.bucket_cache.proofs.cache.BucketCache.invariant.Goals as goal

pub returns : goal.returns
returns g c = view-sound c.self.invariant c.self.view_is
