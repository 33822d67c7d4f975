-- The parts that come back from a search through the bucket are those of a cache, which is sound.
use Rattle.std.proofs.Common.{sym, ap, ◌∙◌, subst, subst₂, refl}
use Rattle.bucket_cache.{specs.FlatBuckets.{AreBuckets, IsFlatCache}, proofs.FlatCaches.{in-flat, view-sound, flat-kept, held, now-holds}}
use Rattle.bucket_cache.proofs.cache.BucketCache.touch_by_search.Goals as goal
use Rattle.bucket_cache.proofs.cache.BucketCache.touch_by_search.Goals.{After-touch_bucket}

pub touch_bucket-requires-clause-range : goal.touch_bucket-requires-clause-range
touch_bucket-requires-clause-range g c =
    rw c.deref_mut.ensures.value (in-flat c.self.invariant c.self.view_is c.requires.range)

-- the parts that come back are those of a cache
written : (g : _) (c : After-touch_bucket g) → (let b = c.self.inside in let new = c.touch_bucket.new in
    IsFlatCache g.row.WAYS b.key_words b.entry_words (held b.used.len b.used.items new.used) (held b.order.len b.order.items new.order)
    (held b.words.len b.words.items new.words) b.entries)
written g c =
    let b = c.self.inside in
    let new = c.touch_bucket.new in
    let lent = c.touch_bucket.auto in
    let used = now-holds b.used.items new.used (lent.used ∙ c.deref_mut.ensures.len) in
    flat-kept c.self.invariant (rw used (subst₂ (AreBuckets g.row.WAYS b.key_words new.used)
    (sym (now-holds b.order.items new.order (lent.order ∙ c.deref_mut-2.ensures.len)))
    (sym (now-holds b.words.items new.words (lent.words ∙ c.deref_mut-3.ensures.len)))
    (subst (λ n. AreBuckets g.row.WAYS n new.used new.order new.words) (c.requires.words ∙ ap (λ x. x.key_words) (sym c.self.view_is))
    c.touch_bucket.ensures.buckets))) (rw (used, lent.used, c.deref_mut.ensures.value))

pub invariant_of-self : goal.invariant_of-self
invariant_of-self g c = written g (goal.at.invariant_of-self g c).After-touch_bucket

pub returns-clause-sound : goal.returns-clause-sound
returns-clause-sound g c = view-sound (written g (goal.at.returns-clause-sound g c).After-touch_bucket) refl
