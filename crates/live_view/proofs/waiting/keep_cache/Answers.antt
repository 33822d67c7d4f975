-- Each bucket adds the entries of its open epochs after those of the buckets below it, until all of the machine's are there.
use Rattle.std.proofs.{Common.{◌≡◌, ◌<◌, ◌++◌, length, take, flat_map, reverse, ◌∙◌, subst, arith}, lemmas.List.take_all}
use Rattle.epoch_model.specs.Machine.{open_in}
use Rattle.live_view.specs.Waiting.{EntriesStand}
use Rattle.live_view.proofs.Standing.{bucket_after}
use Rattle.live_view.proofs.waiting.keep_cache.Goals as goal

pub loop-bucket-preserved : goal.loop-bucket-preserved
loop-bucket-preserved g c =
    let stands = g.K.EpochKind.stands c.args.kind.now in
    let bucket = c.loop-bucket.bucket in
    let below : bucket < length c.args.cache.now.lists = let a = c.loop-bucket-test.true in let b = c.loop-bucket.auto.bucket-end in let n =
    c.buckets-bucket-end.ensures.number in omega arith in
    record {
      held = λ m epochs stand holds.
          let there : bucket < length m.recent = let s = stand.buckets in omega arith in
          let merged = c.in_ok-keep_bucket.ensures.held (open_in m bucket) (epochs ++ flat_map (λ es. reverse es) (take bucket m.recent))
          (stand.each bucket) (c.loop-bucket.invariant.held m epochs stand holds) in
          subst (EntriesStand stands c.keep_bucket.new.store) (bucket_after epochs m.recent bucket there) merged;
      key_words = c.keep_bucket.ensures.key_words ∙ c.loop-bucket.invariant.key_words;
      state_words = c.keep_bucket.ensures.state_words ∙ c.loop-bucket.invariant.state_words;
    }

pub returns-clause-held : goal.returns-clause-held
returns-clause-held g c m epochs stand holds =
    let stands = g.K.EpochKind.stands c.args.kind.now in
    let bucket = c.loop-bucket.bucket in
    let all : length m.recent ≡ bucket = let a = c.loop-bucket-test.false in let b = c.loop-bucket.auto.bucket-end in let n =
    c.buckets-bucket-end.ensures.number in let s = stand.buckets in omega arith in
    subst (λ rs. EntriesStand stands c.loop-bucket.store (epochs ++ flat_map (λ es. reverse es) rs))
    (take_all bucket m.recent (omega arith))
    (c.loop-bucket.invariant.held m epochs stand holds)
