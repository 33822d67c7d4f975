-- The parts with the least recently used pair replaced are those of a cache, which is sound.
use Rattle.std.proofs.Common.{sym, ap, ◌∙◌, subst₂, refl}
use Rattle.bucket_cache.{specs.FlatBuckets.{AreBuckets, IsFlatCache}, proofs.FlatCaches.{in-flat, view-sound, flat-kept, held, now-holds}}
use Rattle.bucket_cache.proofs.cache.BucketCache.replace.Goals as goal
use Rattle.bucket_cache.proofs.cache.BucketCache.replace.Goals.{After-replace_in_bucket}

pub replace_in_bucket-requires-clause-range : goal.replace_in_bucket-requires-clause-range
replace_in_bucket-requires-clause-range g c =
    rw c.deref.ensures.value (in-flat c.self.invariant c.self.view_is c.requires.range)

-- the parts that come back are those of a cache
written : (g : _) (c : After-replace_in_bucket g) → (let b = c.self.inside in let new = c.replace_in_bucket.new in
    IsFlatCache g.row.WAYS b.key_words b.entry_words b.used.items (held b.order.len b.order.items new.order)
    (held b.words.len b.words.items new.words) b.entries)
written g c =
    let b = c.self.inside in
    let new = c.replace_in_bucket.new in
    let lent = c.replace_in_bucket.auto in
    flat-kept c.self.invariant (subst₂ (AreBuckets g.row.WAYS b.key_words b.used.items)
    (sym (now-holds b.order.items new.order (lent.order ∙ c.deref_mut.ensures.len)))
    (sym (now-holds b.words.items new.words (lent.words ∙ c.deref_mut-2.ensures.len)))
    (subst₂ (λ n xs. AreBuckets g.row.WAYS n xs new.order new.words)
    (c.requires.words ∙ ap (λ x. x.key_words) (sym c.self.view_is)) c.deref.ensures.value c.replace_in_bucket.ensures.buckets)) refl

pub invariant_of-self : goal.invariant_of-self
invariant_of-self g c = written g (goal.at.invariant_of-self g c).After-replace_in_bucket

pub returns-clause-sound : goal.returns-clause-sound
returns-clause-sound g c = view-sound (written g (goal.at.returns-clause-sound g c).After-replace_in_bucket) refl
