-- What the search through one bucket changes, seen over all buckets.
use Rattle.std.proofs.Common.{◌+◌, ◌≤◌, length, subst, arith}
use Rattle.bucket_cache.specs.Touches.{touch_cost}
use Rattle.bucket_cache.proofs.LentBuckets.{bounded, long, lent-bucket, lent-flat, lent-list, lent-touched, lent-buckets, lent-rest}
use Rattle.bucket_cache.proofs.buckets.touch_bucket.Goals as goal

pub touch_ways-requires-clause-bucket : goal.touch_ways-requires-clause-bucket
touch_ways-requires-clause-bucket g c = lent-bucket c.args.bucket c.requires.buckets c.requires.range

pub touch_ways-requires-clause-other : goal.touch_ways-requires-clause-other
touch_ways-requires-clause-other g c =
    rw (← lent-list c.args.bucket c.requires.buckets c.requires.range) c.requires.other

pub returns-clause-buckets : goal.returns-clause-buckets
returns-clause-buckets g c =
    let new = c.touch_ways.new in
    lent-buckets c.args.bucket c.requires.buckets c.requires.range new.used new.order new.words c.touch_ways.auto.order
    c.touch_ways.auto.words c.touch_ways.ensures.bucket

pub returns-clause-touched : goal.returns-clause-touched
returns-clause-touched g c =
    let new = c.touch_ways.new in
    lent-touched c.args.bucket c.requires.buckets c.requires.range new.used new.order new.words c.touch_ways.auto.order
    c.touch_ways.auto.words c.args.key.now c.touch_ways.result c.touch_ways.ensures.touched

pub returns-clause-rest : goal.returns-clause-rest
returns-clause-rest g c =
    let new = c.touch_ways.new in
    lent-rest c.args.bucket c.requires.buckets c.requires.range new.used new.order new.words c.touch_ways.auto.order
    c.touch_ways.auto.words

pub touch_ways-requires-clause-flat : goal.touch_ways-requires-clause-flat
touch_ways-requires-clause-flat g c = lent-flat c.args.bucket c.requires.buckets c.requires.range

pub touch_ways-requires-clause-compared : goal.touch_ways-requires-clause-compared
touch_ways-requires-clause-compared g c = c.requires.compared

pub returns-clause-steps : goal.returns-clause-steps
returns-clause-steps g c = c.touch_ways.ensures.steps

pub returns-clause-cost : goal.returns-clause-cost
returns-clause-cost g c =
    subst (λ n. c.touch_ways.new.steps ≤ c.args.steps.now + touch_cost n (length c.args.key.now) c.touch_ways.result)
    (long c.args.bucket c.requires.buckets c.requires.range) c.touch_ways.ensures.cost

-- the parts of a bucket begin and end at small numbers
pub overflow_mul-first : goal.overflow_mul-first
overflow_mul-first g c = omega (arith, (bounded c.args.bucket c.requires.buckets c.requires.range).first)

pub overflow_mul-width : goal.overflow_mul-width
overflow_mul-width g c = omega (arith, (bounded c.args.bucket c.requires.buckets c.requires.range).width)

pub overflow_mul-start : goal.overflow_mul-start
overflow_mul-start g c = omega (arith, (bounded c.args.bucket c.requires.buckets c.requires.range).start)

pub overflow_add-first : goal.overflow_add-first
overflow_add-first g c = omega (arith, (bounded c.args.bucket c.requires.buckets c.requires.range).first)

pub offset_bounds-order-first : goal.offset_bounds-order-first
offset_bounds-order-first g c = omega (arith, (bounded c.args.bucket c.requires.buckets c.requires.range).first)

pub overflow_add-start : goal.overflow_add-start
overflow_add-start g c = omega (arith, (bounded c.args.bucket c.requires.buckets c.requires.range).start)

pub offset_bounds-words-start : goal.offset_bounds-words-start
offset_bounds-words-start g c = omega (arith, (bounded c.args.bucket c.requires.buckets c.requires.range).start)

pub slice_bounds-touch_ways-count : goal.slice_bounds-touch_ways-count
slice_bounds-touch_ways-count g c = omega arith

pub slice_bounds-touch_ways-count-2 : goal.slice_bounds-touch_ways-count-2
slice_bounds-touch_ways-count-2 g c = omega arith
