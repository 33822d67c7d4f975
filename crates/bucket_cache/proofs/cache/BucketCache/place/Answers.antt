-- Where the bucket has the pair, its number stands in the flat order, and the place is that of the way there.
use Rattle.std.proofs.Common.{◌≡◌, ◌+◌, ◌*◌, ◌<◌, length, get_or, sym, subst, arith}
use Rattle.bucket_cache.proofs.{FlatCaches.{in-flat, read-used}, FlatReads.{Stands, stands, flat-place, flat-no-place}}
use Rattle.bucket_cache.proofs.cache.BucketCache.place.Goals as goal
use Rattle.bucket_cache.proofs.cache.BucketCache.place.Goals.{Then-i-index, After-way_at}

pub index-requires : goal.index-requires
index-requires g c =
    let used = c.self.inside.used in
    omega (arith, in-flat c.self.invariant c.self.view_is c.requires, used.ok.0)

in_use : (g : _) (c : Then-i-index g) → c.args.i < get_or c.self.inside.used.items c.args.bucket 0
in_use g c = rw (← read-used c.self.invariant c.self.view_is c.requires c.index.ensures) c.if-i-index.true

stood : (g : _) (c : Then-i-index g) → Stands g.row.WAYS c.args.bucket c.args.i c.self.inside.order.items
stood g c = stands c.args.bucket c.self.invariant.buckets (in-flat c.self.invariant c.self.view_is c.requires) c.args.i (in_use g c)

pub overflow_mul-first : goal.overflow_mul-first
overflow_mul-first g c = let s = stood g c in record { fits = omega arith }

pub overflow_add-first : goal.overflow_add-first
overflow_add-first g c = let s = stood g (goal.at.overflow_add-first g c).Then-i-index in record { fits = omega arith }

pub way_at-requires-clause-within : goal.way_at-requires-clause-within
way_at-requires-clause-within g c =
    subst (λ xs. c.args.bucket * g.row.WAYS + c.args.i < length xs) (sym c.deref.ensures.value)
    (stood g (goal.at.way_at-requires-clause-within g c).Then-i-index).within

pub way_at-requires-clause-below : goal.way_at-requires-clause-below
way_at-requires-clause-below g c =
    subst (λ xs. get_or xs (c.args.bucket * g.row.WAYS + c.args.i) 0 < g.row.WAYS) (sym c.deref.ensures.value)
    (stood g (goal.at.way_at-requires-clause-below g c).Then-i-index).way

way_is : (g : _) (c : After-way_at g)
    → c.way_at.result ≡ get_or c.self.inside.order.items (c.args.bucket * g.row.WAYS + c.args.i) 0
way_is g c = rw (c.way_at.ensures, c.deref.ensures.value)

pub overflow_add-result : goal.overflow_add-result
overflow_add-result g c =
    let s = stood g (goal.at.overflow_add-result g c).Then-i-index in
    let way = way_is g c in
    record { fits = omega arith }

pub returns-then-i-index : goal.returns-then-i-index
returns-then-i-index g c =
    let inside = in-flat c.self.invariant c.self.view_is c.requires in
    let within = in_use g (goal.at.returns-then-i-index g c).Then-i-index in
    rw (← c.self.view_is) (rw (way_is g c, flat-place c.args.bucket c.self.invariant.buckets inside c.args.i within))

pub returns-else-i-index : goal.returns-else-i-index
returns-else-i-index g c =
    let read = read-used c.self.invariant c.self.view_is c.requires c.index.ensures in
    let inside = in-flat c.self.invariant c.self.view_is c.requires in
    let past = c.if-i-index.false in
    rw (← c.self.view_is) (sym (flat-no-place c.args.bucket c.self.invariant.buckets inside c.args.i (omega arith)))
