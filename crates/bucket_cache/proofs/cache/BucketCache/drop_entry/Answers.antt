-- With one way fewer in use, a bucket lacks its least recently used pair, and the cache stays sound.
use Rattle.std.proofs.Common.{◌≡◌, ◌-◌, ◌<◌, length, get_or, set, sym, subst, arith, length-set, refl}
use Rattle.bucket_cache.{specs.{Caches.list_at, FlatBuckets.IsFlatCache}, proofs.FlatBuckets.all-used}
use Rattle.bucket_cache.proofs.{FlatCaches.{in-flat, read-used, view-sound, flat-kept}, FlatReads.{fewer-buckets, fewer-lists}}
use Rattle.bucket_cache.proofs.cache.BucketCache.drop_entry.Goals as goal
use Rattle.bucket_cache.proofs.cache.BucketCache.drop_entry.Goals.{After-index_mut}

pub index_mut-requires : goal.index_mut-requires
index_mut-requires g c =
    let used = c.self.inside.used in
    omega (arith, in-flat c.self.invariant c.self.view_is c.requires.range, used.ok.0)

read : (g : _) (c : After-index_mut g) → c.index_mut.result.now ≡ get_or c.self.inside.used.items c.args.bucket 0
read g c = read-used c.self.invariant c.self.view_is c.requires.range c.index_mut.ensures.value

pub overflow_sub-index_mut : goal.overflow_sub-index_mut
overflow_sub-index_mut g c =
    let b = c.self.inside in
    let some =
    subst (λ cache. 0 < length (list_at cache c.args.bucket)) (sym c.self.view_is) c.requires.some in
    let all = all-used c.args.bucket c.self.invariant.buckets (in-flat c.self.invariant c.self.view_is c.requires.range) in
    let r = read g (goal.at.overflow_sub-index_mut g c).After-index_mut in
    omega arith

-- the parts with one way fewer in use are those of a cache
kept : (g : _) (c : After-index_mut g) → (let b = c.self.inside in IsFlatCache g.row.WAYS b.key_words b.entry_words
    (set b.used.items c.args.bucket (c.index_mut.result.now - 1)) b.order.items b.words.items b.entries)
kept g c =
    let b = c.self.inside in
    rw (read g c) (flat-kept c.self.invariant (fewer-buckets c.args.bucket c.self.invariant.buckets
    (in-flat c.self.invariant c.self.view_is c.requires.range)) (length-set b.used.items c.args.bucket
    (get_or b.used.items c.args.bucket 0 - 1)))

pub invariant_of-self : goal.invariant_of-self
invariant_of-self g c = kept g (goal.at.invariant_of-self g c).After-index_mut

pub returns-clause-pairs : goal.returns-clause-pairs
returns-clause-pairs g c =
    let b = c.self.inside in
    rw (← c.self.view_is) (rw (
      read g (goal.at.returns-clause-pairs g c).After-index_mut,
      fewer-lists c.args.bucket c.self.invariant.buckets
          (in-flat c.self.invariant c.self.view_is c.requires.range),
    ))

pub returns-clause-sound : goal.returns-clause-sound
returns-clause-sound g c = view-sound (kept g (goal.at.returns-clause-sound g c).After-index_mut) refl
