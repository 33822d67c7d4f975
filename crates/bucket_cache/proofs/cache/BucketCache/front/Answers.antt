-- A key that is the same as that of the first pair is at the front, and one that differs isn't the first.
use Rattle.std.proofs.Common.{◌≡◌, Some, length, sym, ◌∙◌, ap, ap₂, lit<}
use Rattle.epoch_model.{specs.Keys.key_eq, proofs.KeyLists.key_eq-true}
use Rattle.bucket_cache.{specs.{Buckets.Pair, Caches.list_at}, proofs.PairLists.{first-pair, first-within, other-key}}
use Rattle.bucket_cache.proofs.cache.BucketCache.front.Goals as goal

pub key-requires : goal.key-requires
key-requires g c = (
  lit< tt,
  first-within (list_at c.args.self.now c.args.bucket) c.in-Some.place (length c.args.self.now.entries)
      (c.invariant.ensures.within c.args.bucket) c.in-Some.ensures,
)

pub returns-then-same-clause-first : goal.returns-then-same-clause-first
returns-then-same-clause-first g c =
    let first = first-pair (list_at c.args.self.now c.args.bucket) c.in-Some.place c.in-Some.ensures in
    let key : first.0.key ≡ c.args.key.now =
    sym (c.key.ensures.key c.args.bucket 0 first.0 first.1 first.2) ∙ key_eq-true c.key.result.now c.args.key.now
    (sym c.compare-same.ensures.answer ∙ c.if-same.true) in
    let pair : first.0 ≡ record { key = c.args.key.now; place = c.in-Some.place } =
    ap₂ (λ key place. record { key = key; place = place }) key first.2 in
    first.1 ∙ ap (λ (p : Pair). Some p) pair

pub returns-else-same-clause-other : goal.returns-else-same-clause-other
returns-else-same-clause-other g c =
    let first = first-pair (list_at c.args.self.now c.args.bucket) c.in-Some.place c.in-Some.ensures in
    other-key (list_at c.args.self.now c.args.bucket) first.0 c.args.key.now first.1
    (ap (λ k. key_eq k c.args.key.now) (sym (c.key.ensures.key c.args.bucket 0 first.0 first.1 first.2))
    ∙ (sym c.compare-same.ensures.answer ∙ c.if-same.false))
