-- The last way goes to the front with the key.
use Rattle.std.proofs.Common.{◌≡◌, ◌-◌, length, get_or, set, refl, subst, le_refl}
use Rattle.bucket_cache.{specs.Slices.rows_of, proofs.BucketLists.{least-pair, replaced-bucket, replaced-pairs}}
use Rattle.bucket_cache.proofs.ways.replace_way.Goals as goal
use Rattle.bucket_cache.proofs.ways.replace_way.Goals.{After-put-way}

written : (g : _) (c : After-put-way g) → (let key = c.args.key.now in let order = c.args.order.now in
    rows_of (length key) (length order) c.put-way.new.words
    ≡ set (rows_of (length key) (length order) c.args.words.now) (get_or order (length order - 1) 0) key)
written g c =
    let keys = rows_of (length c.args.key.now) (length c.args.order.now) in
    subst (λ way. keys c.put-way.new.words ≡ set (keys c.args.words.now) way c.args.key.now) c.put-way.ensures.way c.put-way.ensures.keys

pub returns-clause-bucket : goal.returns-clause-bucket
returns-clause-bucket g c = rw c.put-way.ensures.moved (replaced-bucket c.requires.bucket refl c.args.key.now
    (written g (goal.at.returns-clause-bucket g c).After-put-way) c.requires.absent refl)

pub returns-clause-place : goal.returns-clause-place
returns-clause-place g c =
    let order = c.args.order.now in
    rw c.put-way.ensures.way (least-pair c.args.first (length order) order _ c.requires.bucket.some (le_refl (length order)))

pub returns-clause-pairs : goal.returns-clause-pairs
returns-clause-pairs g c = rw (
  c.put-way.ensures.moved,
  replaced-pairs c.requires.bucket refl c.args.key.now (written g (goal.at.returns-clause-pairs g c).After-put-way),
  c.put-way.ensures.way,
)
