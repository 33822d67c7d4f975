-- A key at the front stays there, and the comparison of its words costs no more than a touch may.
use Rattle.std.proofs.Common.{◌≤◌, ◌<◌, ◌+◌, ◌*◌, ℕ, zero, suc, arith}
use Rattle.bucket_cache.{specs.Caches.list_at, proofs.{BucketLists.some-get, PairLists.first-stays}}
use Rattle.bucket_cache.proofs.cache.BucketCache.touch.Goals as goal

pub returns-in-Ok-clause-touched : goal.returns-in-Ok-clause-touched
returns-in-Ok-clause-touched g c =
    first-stays c.args.key.now c.in-Ok.place (list_at c.args.self.now c.args.bucket) (c.invariant.ensures.once c.args.bucket)
    c.in-Ok.ensures.first

one_way : (ways key_words : ℕ) → 0 < ways → key_words + 1 ≤ ways * key_words + ways
one_way zero key_words h = absurd (omega arith)
one_way (suc ways) key_words h = omega arith

pub returns-in-Ok-clause-cost : goal.returns-in-Ok-clause-cost
returns-in-Ok-clause-cost g c =
    let pairs = list_at c.args.self.now c.args.bucket in
    let some = some-get pairs 0 _ c.in-Ok.ensures.first in
    let few = c.invariant.ensures.few c.args.bucket in
    let one = one_way g.row.WAYS c.args.self.now.key_words (omega arith) in
    let counted = c.tick_many.ensures in
    let words = c.requires.words in
    omega arith
