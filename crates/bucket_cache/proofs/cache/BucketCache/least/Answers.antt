-- The last way in use is the least recently used place, and a bucket with none in use has no such place.
use Rattle.std.{proofs.Common.{◌-◌, sym, ap, ◌∙◌, arith}, specs.Prelude.slice_get}
use Rattle.bucket_cache.{specs.{Buckets.places_of, Caches.list_at}, proofs.FlatCaches.{in-flat, read-used, view-sound}}
use Rattle.bucket_cache.proofs.FlatReads.{flat-least, flat-no-least}
use Rattle.bucket_cache.proofs.cache.BucketCache.least.Goals as goal

pub index-used-requires : goal.index-used-requires
index-used-requires g c =
    let used = c.self.inside.used in
    omega (arith, in-flat c.self.invariant c.self.view_is c.requires, used.ok.0)

pub returns-then-used-eq0-clause-place : goal.returns-then-used-eq0-clause-place
returns-then-used-eq0-clause-place g c =
    let inside = in-flat c.self.invariant c.self.view_is c.requires in
    rw (← c.self.view_is) (sym (flat-no-least c.args.bucket c.self.invariant.buckets inside
    (sym (read-used c.self.invariant c.self.view_is c.requires c.index-used.ensures) ∙ c.if-used-eq0.true)))

pub returns-then-used-eq0-clause-sound : goal.returns-then-used-eq0-clause-sound
returns-then-used-eq0-clause-sound g c = view-sound c.self.invariant c.self.view_is

pub returns-else-used-eq0-clause-place : goal.returns-else-used-eq0-clause-place
returns-else-used-eq0-clause-place g c =
    let inside = in-flat c.self.invariant c.self.view_is c.requires in
    c.place.ensures ∙ (ap (λ n. slice_get (places_of (list_at c.args.self.now c.args.bucket)) (n - 1))
    (read-used c.self.invariant c.self.view_is c.requires c.index-used.ensures)
    ∙ rw (← c.self.view_is) (flat-least c.args.bucket c.self.invariant.buckets inside))

pub returns-else-used-eq0-clause-sound : goal.returns-else-used-eq0-clause-sound
returns-else-used-eq0-clause-sound g c = view-sound c.self.invariant c.self.view_is
