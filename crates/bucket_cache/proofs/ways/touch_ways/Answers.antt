-- A hit goes to the front; a key that no way has takes a free way, and where there is none the last way is the least recent.
use Rattle.std.proofs.Common.{◌≡◌, ◌-◌, ◌∙◌, false, length, take, get_or, set, ap, refl, subst, arith}
use Rattle.bucket_cache.{specs.{Slices.rows_of, Buckets.{has_key, pairs_at}}, proofs.BucketLists.{hit-has, hit-place, hit-pairs}}
use Rattle.bucket_cache.proofs.BucketLists.{hit-bucket, none-in-front, free-pairs, free-bucket, least-pair, few-pairs, other-first}
use Rattle.bucket_cache.proofs.ways.touch_ways.Goals as goal
use Rattle.bucket_cache.proofs.ways.touch_ways.Goals.{After-put-way, In-None}

pub find_key-requires-clause-other : goal.find_key-requires-clause-other
find_key-requires-clause-other g c some = other-first c.args.first c.args.used.now c.args.order.now
    (rows_of (length c.args.key.now) (length c.args.order.now) c.args.words.now) c.args.key.now some c.requires.bucket.within
    c.requires.other

pub returns-in-Some-clause-bucket : goal.returns-in-Some-clause-bucket
returns-in-Some-clause-bucket g c = rw c.move_to_front.ensures.moved
    (hit-bucket c.requires.bucket c.in-Some.at c.args.key.now c.in-Some.ensures.found c.in-Some.ensures.same)

pub returns-in-Some-clause-touched : goal.returns-in-Some-clause-touched
returns-in-Some-clause-touched g c =
    let key = c.args.key.now in
    let keys = rows_of (length key) (length c.args.order.now) c.args.words.now in
    let at = c.in-Some.at in
    let found = c.in-Some.ensures.found in
    let same = c.in-Some.ensures.same in
    rw c.way_at-way.ensures (
      hit-has c.requires.bucket at key found same,
      hit-place c.requires.bucket at key found same,
      ap (λ o. pairs_at c.args.first keys (take c.args.used.now o)) c.move_to_front.ensures.moved
          ∙ hit-pairs c.requires.bucket at key found same,
    )

-- no way in use has the key
absent : (g : _) (c : In-None g) → (let order = c.args.order.now in has_key c.args.key.now (pairs_at c.args.first
    (rows_of (length c.args.key.now) (length order) c.args.words.now) (take c.args.used.now order)) ≡ false)
absent g c = none-in-front c.args.first c.args.used.now c.args.order.now _ c.args.key.now c.requires.bucket.within c.in-None.ensures.none

-- the way that was free has the key
written : (g : _) (c : After-put-way g) → (let key = c.args.key.now in let order = c.args.order.now in
    rows_of (length key) (length order) c.put-way.new.words
    ≡ set (rows_of (length key) (length order) c.args.words.now) (get_or order c.args.used.now 0) key)
written g c =
    let keys = rows_of (length c.args.key.now) (length c.args.order.now) in
    subst (λ way. keys c.put-way.new.words ≡ set (keys c.args.words.now) way c.args.key.now) c.put-way.ensures.way c.put-way.ensures.keys

pub returns-then-used-order-clause-bucket : goal.returns-then-used-order-clause-bucket
returns-then-used-order-clause-bucket g c =
    let at = goal.at.returns-then-used-order-clause-bucket g c in
    rw c.put-way.ensures.moved
    (free-bucket c.requires.bucket c.if-used-order.true c.args.key.now (written g at.After-put-way) (absent g at.In-None) refl)

pub returns-then-used-order-clause-touched : goal.returns-then-used-order-clause-touched
returns-then-used-order-clause-touched g c =
    let at = goal.at.returns-then-used-order-clause-touched g c in
    let keys = rows_of (length c.args.key.now) (length c.args.order.now) c.args.words.now in
    let few = few-pairs c.args.first c.args.used.now c.args.order.now keys c.requires.bucket.within in
    let room = c.if-used-order.true in (
      absent g at.In-None,
      rw few room,
      rw (
        c.put-way.ensures.moved,
        free-pairs c.requires.bucket room c.args.key.now (written g at.After-put-way),
        c.put-way.ensures.way,
      ),
    )

pub returns-else-used-order-clause-touched : goal.returns-else-used-order-clause-touched
returns-else-used-order-clause-touched g c =
    let order = c.args.order.now in
    let used = c.args.used.now in
    let keys = rows_of (length c.args.key.now) (length order) c.args.words.now in
    let few = few-pairs c.args.first used order keys c.requires.bucket.within in
    let full : used ≡ length order = let h = c.requires.bucket.within in let f = c.if-used-order.false in omega arith in
    rw c.way_at-way-else-used-order.ensures (
      absent g (goal.at.returns-else-used-order-clause-touched g c).In-None,
      few ∙ full,
      least-pair c.args.first used order keys (let s = c.requires.bucket.some in omega arith) c.requires.bucket.within,
      refl,
    )

-- the ways of a bucket are small numbers, and those in use lie within it
pub find_key-requires-clause-within : goal.find_key-requires-clause-within
find_key-requires-clause-within g c = c.requires.bucket.within

pub find_key-requires-clause-ways : goal.find_key-requires-clause-ways
find_key-requires-clause-ways g c = c.requires.bucket.ways

pub find_key-requires-clause-flat : goal.find_key-requires-clause-flat
find_key-requires-clause-flat g c = c.requires.flat

pub find_key-requires-clause-compared : goal.find_key-requires-clause-compared
find_key-requires-clause-compared g c = c.requires.compared

pub way_at-way-requires-clause-within : goal.way_at-way-requires-clause-within
way_at-way-requires-clause-within g c = omega (arith, c.in-Some.ensures.found, c.requires.bucket.within)

pub way_at-way-requires-clause-below : goal.way_at-way-requires-clause-below
way_at-way-requires-clause-below g c =
    c.requires.bucket.ways c.in-Some.at 0 (omega (arith, c.in-Some.ensures.found, c.requires.bucket.within))

pub overflow_add-result : goal.overflow_add-result
overflow_add-result g c =
    let below = c.requires.bucket.ways c.in-Some.at 0 (omega (arith, c.in-Some.ensures.found, c.requires.bucket.within)) in
    omega (arith, below, c.way_at-way.ensures, c.requires.bucket.places)

pub put-way-requires-clause-within : goal.put-way-requires-clause-within
put-way-requires-clause-within g c = c.if-used-order.true

pub put-way-requires-clause-ways : goal.put-way-requires-clause-ways
put-way-requires-clause-ways g c = c.requires.bucket.ways

pub put-way-requires-clause-flat : goal.put-way-requires-clause-flat
put-way-requires-clause-flat g c = c.requires.flat

pub overflow_add-used : goal.overflow_add-used
overflow_add-used g c = omega (arith, c.if-used-order.true, c.requires.bucket.places)

pub overflow_add-result-then-used-order : goal.overflow_add-result-then-used-order
overflow_add-result-then-used-order g c =
    let below = c.requires.bucket.ways c.args.used.now 0 c.if-used-order.true in
    omega (arith, below, c.put-way.ensures.way, c.requires.bucket.places)

pub overflow_sub-used : goal.overflow_sub-used
overflow_sub-used g c = omega (arith, c.if-used-order.false, c.requires.bucket.some)

pub way_at-way-requires-else-used-order-clause-within : goal.way_at-way-requires-else-used-order-clause-within
way_at-way-requires-else-used-order-clause-within g c = omega (arith, c.requires.bucket.within, c.requires.bucket.some)

pub way_at-way-requires-else-used-order-clause-below : goal.way_at-way-requires-else-used-order-clause-below
way_at-way-requires-else-used-order-clause-below g c =
    c.requires.bucket.ways (c.args.used.now - 1) 0 (omega (arith, c.requires.bucket.within, c.requires.bucket.some))

pub overflow_add-result-else-used-order : goal.overflow_add-result-else-used-order
overflow_add-result-else-used-order g c =
    let below = c.requires.bucket.ways (c.args.used.now - 1) 0 (omega (arith, c.requires.bucket.within, c.requires.bucket.some)) in
    omega (arith, below, c.way_at-way-else-used-order.ensures, c.requires.bucket.places)
