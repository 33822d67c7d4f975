-- The ways in use of the buckets so far sum to their pairs, and no bucket has more than its ways.
use Rattle.std.proofs.{Common.{◌≡◌, length, get_or, ap, arith}, lemmas.List.take_all}
use Rattle.bucket_cache.proofs.{FlatBuckets.length-lists_in, FlatReads.flat-more}
use Rattle.bucket_cache.proofs.cache.BucketCache.held.Goals as goal
use Rattle.bucket_cache.proofs.cache.BucketCache.held.Goals.{After-loop-used}

pub loop-used-preserved : goal.loop-used-preserved
loop-used-preserved g c =
    let value = c.deref-used-items.ensures.value in
    let lists = ap (λ x. x.lists) c.self.view_is in
    let i = c.loop-used.used-index in
    let item = ap (λ xs. get_or xs i 0) value in
    let more = flat-more c.self.invariant c.loop-used.held i (rw (← value) c.loop-used-test.true)
    (rw (c.loop-used.invariant.number, lists))
    c.loop-used.invariant.bound in
    record {
      number = rw (item, more.0, lists);
      bound = let m = more.1 in omega arith;
    }

-- each bucket was counted
all : (g : _) (c : After-loop-used g) → c.loop-used.used-index ≡ length c.args.self.now.lists
all g c =
    let b = c.self.inside in
    let value = ap length c.deref-used-items.ensures.value in
    let long = length-lists_in g.row.WAYS b.key_words b.used.items b.order.items b.words.items in
    let lists = ap (λ x. length x.lists) c.self.view_is in
    omega (arith, value, long, lists, c.loop-used-test.false, c.loop-used.auto.used-index-end)

pub returns-clause-number : goal.returns-clause-number
returns-clause-number g c =
    let lists = c.args.self.now.lists in
    rw (c.loop-used.invariant.number, all g c, take_all (length lists) lists (omega arith))

pub returns-clause-bound : goal.returns-clause-bound
returns-clause-bound g c = rw (← all g c) c.loop-used.invariant.bound
