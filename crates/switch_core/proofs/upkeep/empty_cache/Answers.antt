-- The buckets are emptied in order, so that their events come one after another.
use Rattle.std.proofs.Common.{rules, ◌≡◌, ℕ, ◌+◌, ◌*◌, ◌<◌, ◌≤◌, suc, length, ap, sym, ◌∙◌, subst, arith, add-one, add-one-le, below_more}
use Rattle.std.proofs.Common.{le_refl, le_trans, lt_of_lt_of_le, ne_of_lt, not-suc-le-zero}
use Rattle.epoch_model.proofs.Endings.{no_end}
use Rattle.bucket_cache.specs.Caches.{list_at}
use Rattle.switch_core.specs.{Closing.held_in, Costs.{evict_cost, merge_cost}, FrontEvents.with_store, Upkeeps.sweep_from}
use Rattle.switch_core.proofs.Carrying.{fits_kept, keeps_on, keeps_start, up_to_along, up_to_first_on, up_to_start, up_to_whole}
use Rattle.switch_core.proofs.{Drained.empty_held, Emptying.next_none, LaneFacts.err_holds}
use Rattle.switch_core.proofs.SweepCosts.{bucket_within, buckets_within, costs_same}
use Rattle.switch_core.proofs.upkeep.empty_cache.Goals as goal

none_so_far : (start held merging : ℕ) → start + held ≤ start + (held + 0 * merging)
none_so_far start held merging = omega arith

pub loop-bucket-init : goal.loop-bucket-init
loop-bucket-init g c = record {
  carries = up_to_start _ _ g.row.WAYS _ (with_store c.args.front.now c.args.store.now);
  empty = λ other below. absurd (not-suc-le-zero below);
  sizes = keeps_start _;
  later = le_refl _;
  cost = none_so_far _ _ _;
}

pub empty_bucket-requires : goal.empty_bucket-requires
empty_bucket-requires g c =
    let sizes = c.loop-bucket.invariant.sizes in
    let many = c.buckets-bucket-end.ensures.number ∙ ap (λ x. length x.lists) c.cache.ensures in
    let within = subst (λ n. c.loop-bucket.bucket < n) (many ∙ sym sizes.buckets) c.loop-bucket-test.true in
    (search rules, (fits_kept g.K.EpochKind.sizes _ _ sizes c.requires, within))

pub loop-bucket-preserved : goal.loop-bucket-preserved
loop-bucket-preserved g c =
    let first = with_store c.args.front.now c.args.store.now in
    let was = with_store c.loop-bucket.front c.loop-bucket.store in
    let new = with_store c.empty_bucket.new.front c.empty_bucket.new.store in
    let bucket = c.loop-bucket.bucket in
    let before = c.loop-bucket.invariant in
    let made = c.empty_bucket.ensures in
    let all = sweep_from 0 first.cache first.pipe in
    let means = g.K.EpochKind.stands in
    let folding = g.K.EpochKind.folding in
    record {
      carries = rw (← add-one bucket) at (up_to_along means folding g.row.WAYS all (sweep_from bucket was.cache was.pipe)
          (sweep_from (suc bucket) new.cache new.pipe) first was new
          before.carries c.in_ok-empty_bucket.ensures.carries);
      empty = below_more (λ b. length (list_at new.cache b) ≡ 0) bucket
          (λ other below. ap length (made.others other (ne_of_lt below)) ∙ before.empty other below) c.in_ok-empty_bucket.ensures.empty;
      sizes = keeps_on _ _ _ before.sizes made.sizes;
      later = le_trans before.later made.steps;
      cost =
          let evicting = evict_cost first.cache.key_words first.cache.entry_words in
          let merging = merge_cost first.cache.key_words first.cache.entry_words (g.K.EpochKind.merge_bound first.kind) in
          let same = costs_same g.K.EpochKind.merge_bound first was before.sizes in
          bucket_within c.args.steps.now c.loop-bucket.steps c.empty_bucket.new.steps (held_in was.cache) (held_in new.cache)
          (held_in first.cache)
          (evicting + merging) _ bucket merging _ same.0 same.1 before.cost made.cost;
    }

pub returns-in_err-empty_bucket : goal.returns-in_err-empty_bucket
returns-in_err-empty_bucket g c =
    record {
      carries = no_end _ _ c.from_residual.ensures.0;
      breaks_off = err_holds _ _ (up_to_first_on _ _ g.row.WAYS _ _ _ (with_store c.loop-bucket.front c.loop-bucket.store) _
          c.loop-bucket.invariant.carries c.in_err-empty_bucket.ensures.breaks_off);
      held = no_end _ _ c.from_residual.ensures.0;
      sizes = keeps_on _ _
          _ c.loop-bucket.invariant.sizes c.empty_bucket.ensures.sizes;
      steps = le_trans c.loop-bucket.invariant.later c.empty_bucket.ensures.steps;
      cost =
          let first = c.args.front.now in
          let was = c.loop-bucket.front in
          let new = c.empty_bucket.new.front in
          let bucket = c.loop-bucket.bucket in
          let before = c.loop-bucket.invariant in
          let evicting = evict_cost first.cache.key_words first.cache.entry_words in
          let merging = merge_cost first.cache.key_words first.cache.entry_words (g.K.EpochKind.merge_bound first.kind) in
          let same = costs_same g.K.EpochKind.merge_bound (with_store first c.args.store.now) (with_store was c.loop-bucket.store)
          before.sizes in
          let many = c.buckets-bucket-end.ensures.number ∙ ap (λ x. length x.lists) c.cache.ensures in
          let below = subst (λ n. bucket < n) many c.loop-bucket-test.true in
          buckets_within c.args.steps.now c.empty_bucket.new.steps (held_in new.cache * (evicting + merging))
          (held_in first.cache * (evicting + merging)) (bucket + 1) (length first.cache.lists) merging (add-one-le below)
          (bucket_within c.args.steps.now c.loop-bucket.steps c.empty_bucket.new.steps (held_in was.cache) (held_in new.cache)
          (held_in first.cache) (evicting + merging) _ bucket merging _ same.0 same.1 before.cost c.empty_bucket.ensures.cost);
    }

pub returns : goal.returns
returns g c =
    let many = c.buckets-bucket-end.ensures.number ∙ ap (λ x. length x.lists) c.cache.ensures in
    let past : length c.loop-bucket.front.cache.lists ≤ c.loop-bucket.bucket =
    subst (λ n. n ≤ c.loop-bucket.bucket) (many ∙ sym c.loop-bucket.invariant.sizes.buckets) c.loop-bucket-test.false in
    record {
      carries =
          let first = with_store c.args.front.now c.args.store.now in
          let new = with_store c.loop-bucket.front c.loop-bucket.store in
          let bucket = c.loop-bucket.bucket in
          let all = sweep_from 0 first.cache first.pipe in
          let means = g.K.EpochKind.stands in
          let folding = g.K.EpochKind.folding in
          up_to_whole _ _ _ all first new (rw (next_none bucket new.cache new.pipe past) at c.loop-bucket.invariant.carries);
      breaks_off = tt;
      held = empty_held _ (λ b l. c.loop-bucket.invariant.empty b (lt_of_lt_of_le l past));
      sizes = c.loop-bucket.invariant.sizes;
      steps = c.loop-bucket.invariant.later;
      cost =
          let first = c.args.front.now in
          let now = c.loop-bucket.front.cache in
          let evicting = evict_cost first.cache.key_words first.cache.entry_words in
          let merging = merge_cost first.cache.key_words first.cache.entry_words (g.K.EpochKind.merge_bound first.kind) in
          let end = subst (λ n. c.loop-bucket.bucket ≤ n) many c.loop-bucket.auto.bucket-end in
          buckets_within c.args.steps.now c.loop-bucket.steps (held_in now * (evicting + merging))
          (held_in first.cache * (evicting + merging)) c.loop-bucket.bucket (length first.cache.lists) merging end
          c.loop-bucket.invariant.cost;
    }
