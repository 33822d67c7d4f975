-- What the replacement in one bucket changes, seen over all buckets.
use Rattle.std.proofs.Common.{◌+◌, ◌-◌, ◌∙◌, ap, length, take, arith}
use Rattle.bucket_cache.{specs.Touches.{replace_cost, with_pair_first}, proofs.LentBuckets.{bounded, long, lent-flat}}
use Rattle.bucket_cache.proofs.LentBuckets.{full-bucket, full-list, full-buckets, full-lists}
use Rattle.bucket_cache.proofs.buckets.replace_in_bucket.Goals as goal

pub replace_way-requires-clause-bucket : goal.replace_way-requires-clause-bucket
replace_way-requires-clause-bucket g c = full-bucket c.args.bucket c.requires.buckets c.requires.range c.requires.full

pub replace_way-requires-clause-absent : goal.replace_way-requires-clause-absent
replace_way-requires-clause-absent g c = rw (← full-list c.args.bucket c.requires.buckets c.requires.range c.requires.full)
    c.requires.absent

pub returns-clause-buckets : goal.returns-clause-buckets
returns-clause-buckets g c = full-buckets c.args.bucket c.requires.buckets c.requires.range c.requires.full c.replace_way.new.order
    c.replace_way.new.words c.replace_way.auto.order c.replace_way.auto.words c.replace_way.ensures.bucket

pub returns-clause-place : goal.returns-clause-place
returns-clause-place g c = rw (full-list c.args.bucket c.requires.buckets c.requires.range c.requires.full) c.replace_way.ensures.place

pub returns-clause-pairs : goal.returns-clause-pairs
returns-clause-pairs g c = full-lists c.args.bucket c.requires.buckets c.requires.range c.requires.full c.replace_way.new.order
    c.replace_way.new.words c.replace_way.auto.order c.replace_way.auto.words
    (λ pairs. with_pair_first c.args.key.now c.replace_way.result (take (length pairs - 1) pairs)) c.replace_way.ensures.pairs

pub replace_way-requires-clause-flat : goal.replace_way-requires-clause-flat
replace_way-requires-clause-flat g c = lent-flat c.args.bucket c.requires.buckets c.requires.range

pub returns-clause-cost : goal.returns-clause-cost
returns-clause-cost g c =
    c.replace_way.ensures.cost ∙ ap (λ n. c.args.steps.now + replace_cost n (length c.args.key.now))
    (long c.args.bucket c.requires.buckets c.requires.range)

-- the parts of a bucket begin and end at small numbers
pub overflow_mul-first : goal.overflow_mul-first
overflow_mul-first g c = omega (arith, (bounded c.args.bucket c.requires.buckets c.requires.range).first)

pub overflow_mul-width : goal.overflow_mul-width
overflow_mul-width g c = omega (arith, (bounded c.args.bucket c.requires.buckets c.requires.range).width)

pub overflow_mul-start : goal.overflow_mul-start
overflow_mul-start g c = omega (arith, (bounded c.args.bucket c.requires.buckets c.requires.range).start)

pub overflow_add-first : goal.overflow_add-first
overflow_add-first g c = omega (arith, (bounded c.args.bucket c.requires.buckets c.requires.range).first)

pub offset_bounds-order-first : goal.offset_bounds-order-first
offset_bounds-order-first g c = omega (arith, (bounded c.args.bucket c.requires.buckets c.requires.range).first)

pub overflow_add-start : goal.overflow_add-start
overflow_add-start g c = omega (arith, (bounded c.args.bucket c.requires.buckets c.requires.range).start)

pub offset_bounds-words-start : goal.offset_bounds-words-start
offset_bounds-words-start g c = omega (arith, (bounded c.args.bucket c.requires.buckets c.requires.range).start)

pub slice_bounds-replace_way-count : goal.slice_bounds-replace_way-count
slice_bounds-replace_way-count g c = omega arith

pub slice_bounds-replace_way-count-2 : goal.slice_bounds-replace_way-count-2
slice_bounds-replace_way-count-2 g c = omega arith
