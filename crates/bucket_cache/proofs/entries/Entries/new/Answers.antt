-- Flat zeros are entries of zeros at all places, and their number doesn't overflow.
use Rattle.std.proofs.{Common.{◌∙◌, ◌*◌, ap, length, arith}, Math.Nat.mul-le-mul_left, lemmas.List.length-replicate}
use Rattle.bucket_cache.proofs.LentEntries.{zero-entries}
use Rattle.bucket_cache.proofs.entries.Entries.new.Goals as goal

pub overflow_mul-places : goal.overflow_mul-places
overflow_mul-places c = omega (arith, mul-le-mul_left c.args.places c.requires.words, c.requires.places)

pub invariant_of-result : goal.invariant_of-result
invariant_of-result c =
    let zeros =
    c.in_ok-vec.ensures.items_if_clones_equal (λ y h. h) in
    ap length zeros ∙ length-replicate (c.args.places * c.args.entry_words) 0

pub returns : goal.returns
returns c =
    let zeros =
    c.in_ok-vec.ensures.items_if_clones_equal (λ y h. h) in
    rw (zeros, zero-entries c.args.entry_words c.args.places)
