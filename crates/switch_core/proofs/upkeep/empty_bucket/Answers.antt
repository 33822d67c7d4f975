-- Evictions in order, each with room made for its record, up to the one that finds the bucket empty.
use Rattle.std.proofs.Common.{rules, ◌≡◌, ℕ, ◌+◌, ◌-◌, ◌<◌, ◌≤◌, ◌==◌, Bool, not, true, false, if◌then◌else◌, suc, [], length, take}
use Rattle.epoch_model.proofs.Endings.{no_end}
use Rattle.std.proofs.Common.{refl, sym, ap, ap₂, ◌∙◌, subst, arith, get_or-set_other, le_of_eq, le_refl, le_trans}
use Rattle.std.proofs.lemmas.Bool.Decides.{nat_tests}
use Rattle.bucket_cache.specs.Caches.{list_at, with_list}
use Rattle.switch_core.specs.{Closing.held_in, Costs.{evict_cost, merge_cost}, FrontEvents.with_store, Upkeeps.{left_waiting, sweep_from}}
use Rattle.switch_core.proofs.Carrying.{fits_kept, keeps_on, keeps_start, same_store, up_to_first_as, up_to_start}
use Rattle.switch_core.proofs.{Emptying.{evicted_shorter, next_empty, next_found, one_try}, LaneFacts.err_holds}
use Rattle.switch_core.proofs.{StepSums.after_sum, SweepCosts.{evicted_within, held_fewer, merge_as_first, merged_within}}
use Rattle.switch_core.proofs.upkeep.empty_bucket.Goals as goal

none_found : (found : Bool) (many : ℕ) → found ≡ not (many == 0) → found ≡ false → many ≡ 0
none_found found many is none = grind (arith, nat_tests)

some_found : (found : Bool) (many : ℕ) → found ≡ not (many == 0) → found ≡ true → 0 < many
some_found found many is some = grind (arith, nat_tests)

no_steps : (before after most : ℕ) → after ≡ before + 0 → before ≤ most → after ≤ most
no_steps before after most is few = omega arith

pub epochs-init : goal.epochs-init
epochs-init g c = record {
  carries = up_to_start _ _ g.row.WAYS _ (with_store c.args.front.now c.args.store.now);
  others = λ other apart. refl;
  sizes = keeps_start _;
  later = le_refl _;
  cost = le_refl _;
}

pub make_ready-requires : goal.make_ready-requires
make_ready-requires g c =
    (search rules, fits_kept g.K.EpochKind.sizes _ _ c.epochs.invariant.sizes c.requires.fits)

pub evict-requires : goal.evict-requires
evict-requires g c =
    let within = subst (λ n. c.args.bucket < n) (sym (c.make_ready.ensures.sizes.buckets ∙ c.epochs.invariant.sizes.buckets))
    c.requires.range in
    (search rules, (c.in_ok-make_ready.ensures.ready, within))

pub returns-in_err-make_ready : goal.returns-in_err-make_ready
returns-in_err-make_ready g c =
    record {
      carries = no_end _ _ c.from_residual.ensures.0;
      breaks_off = err_holds _ _ (up_to_first_as _ _ g.row.WAYS _ _ _ _ _ c.epochs.invariant.carries
          (same_store c.epochs.front c.make_ready.new.front _ _ c.in_err-make_ready.ensures.err));
      empty = no_end _ _ c.from_residual.ensures.0;
      others = λ other apart. ap (λ x. list_at x other) c.make_ready.ensures.cache ∙ c.epochs.invariant.others other apart;
      sizes = keeps_on _ _
          _ c.epochs.invariant.sizes c.make_ready.ensures.sizes;
      steps = le_trans c.epochs.invariant.later c.make_ready.ensures.steps;
      cost = merged_within c.args.steps.now c.epochs.steps c.make_ready.new.steps (held_in c.epochs.front.cache) _ _ _ _
          (ap held_in c.make_ready.ensures.cache)
          (merge_as_first g.K.EpochKind.merge_bound (with_store c.args.front.now c.args.store.now) _ _ _ c.epochs.invariant.sizes
          c.make_ready.ensures.cost) c.epochs.invariant.cost;
    }

pub returns-then-not-evict : goal.returns-then-not-evict
returns-then-not-evict g c =
    let first = with_store c.args.front.now c.args.store.now in
    let was = with_store c.epochs.front c.epochs.store in
    let ready = with_store c.make_ready.new.front c.make_ready.new.store in
    let new = with_store c.evict.new.self c.make_ready.new.store in
    let bucket = c.args.bucket in
    let none = none_found _ _ c.evict.ensures.some c.if-not-evict.true in
    record {
      carries =
          let all = sweep_from bucket first.cache first.pipe in
          let none_was = ap (λ x. length (list_at x bucket)) (sym c.make_ready.ensures.cache)
          ∙ none in
          let same = ap (λ x. x.cache) (c.evict.ensures.same c.if-not-evict.true) ∙ c.make_ready.ensures.cache in
          let within = subst (λ n. bucket < n) (sym c.epochs.invariant.sizes.buckets) c.requires.range in
          let places = ap (λ x. x.pipe.places) (c.evict.ensures.same c.if-not-evict.true)
          ∙ c.make_ready.ensures.sizes.places in
          let records =
          ap (λ x. length x.pipe.records) (c.evict.ensures.same c.if-not-evict.true) ∙ c.in_ok-make_ready.ensures.waiting in
          let coming = sweep_from (suc bucket) was.cache new.pipe in
          let here = one_try _ _ _ _ _ _ _ _ ready _
          c.epochs.invariant.carries c.in_ok-make_ready.ensures.carries (c.evict.ensures.carries c.make_ready.new.store)
          (next_empty bucket was.cache was.pipe new.pipe within none_was places records) in
          rw (← same) at here;
      breaks_off = tt;
      empty =
          let ready = c.make_ready.new.front in
          ap (λ x. length (list_at x.cache bucket)) (c.evict.ensures.same c.if-not-evict.true) ∙ none;
      others = λ other apart. ap (λ x. list_at x.cache other) (c.evict.ensures.same c.if-not-evict.true)
          ∙ (ap (λ x. list_at x other) c.make_ready.ensures.cache ∙ c.epochs.invariant.others other apart);
      sizes = keeps_on _ _ _ c.epochs.invariant.sizes (keeps_on _ _ _ c.make_ready.ensures.sizes
          (c.evict.ensures.carries c.make_ready.new.store).sizes);
      steps = le_trans (le_trans c.epochs.invariant.later c.make_ready.ensures.steps) (after_sum _ _ _ c.evict.ensures.cost);
      cost =
          let failed = c.if-not-evict.true in
          let none : c.evict.new.steps ≡ c.make_ready.new.steps + 0 = rw failed at c.evict.ensures.cost in
          let merged = merge_as_first g.K.EpochKind.merge_bound first _ _ _ c.epochs.invariant.sizes c.make_ready.ensures.cost in
          merged_within c.args.steps.now c.epochs.steps c.evict.new.steps (held_in c.epochs.front.cache) _ _ _ _
          (ap (λ x. held_in x.cache) (c.evict.ensures.same failed) ∙ ap held_in c.make_ready.ensures.cache)
          (no_steps _ _ _ none merged) c.epochs.invariant.cost;
    }

pub epochs-preserved : goal.epochs-preserved
epochs-preserved g c =
    let first = with_store c.args.front.now c.args.store.now in
    let was = with_store c.epochs.front c.epochs.store in
    let ready = with_store c.make_ready.new.front c.make_ready.new.store in
    let new = with_store c.evict.new.self c.make_ready.new.store in
    let bucket = c.args.bucket in
    let before = c.epochs.invariant in
    let made = c.make_ready.ensures in
    let evicted = c.evict.ensures.carries c.make_ready.new.store in
    let done : c.evict.result ≡ true = c.if-not-evict.false in
    let some = some_found _ _ c.evict.ensures.some c.if-not-evict.false in
    let some_was : 0 < length (list_at was.cache bucket) = subst (λ x. 0 < length (list_at x bucket)) made.cache some in
    let cache : new.cache ≡ with_list was.cache bucket (take (length (list_at was.cache bucket) - 1) (list_at was.cache bucket)) =
    subst (λ x. new.cache ≡ with_list x bucket
    (take (length (list_at x bucket) - 1) (list_at x bucket))) made.cache c.evict.ensures.cache in
    let within = subst (λ n. bucket < n) (sym before.sizes.buckets) c.requires.range in
    let records : length new.pipe.records ≡ left_waiting was.pipe.places (length was.pipe.records) + 1 =
    subst (λ b. length new.pipe.records ≡ length ready.pipe.records + (if b then 1 else 0)) done c.evict.ensures.records
    ∙ ap (λ n. n + 1) c.in_ok-make_ready.ensures.waiting in
    let coming = next_found bucket was.cache new.cache was.pipe new.pipe within some_was cache
    (evicted.sizes.places ∙ made.sizes.places) records in
    let merging = merge_cost first.cache.key_words first.cache.entry_words (g.K.EpochKind.merge_bound first.kind) in
    record {
      carries = one_try g.K.EpochKind.stands g.K.EpochKind.folding g.row.WAYS bucket (sweep_from bucket first.cache first.pipe)
          (sweep_from bucket new.cache new.pipe) first was ready new before.carries c.in_ok-make_ready.ensures.carries evicted coming;
      others = λ other apart. ap (λ x. list_at x other) cache
          ∙ (get_or-set_other was.cache.lists bucket other
          (take (length (list_at was.cache bucket) - 1) (list_at was.cache bucket)) [] apart
          ∙ before.others other apart);
      sizes = keeps_on first was new before.sizes (keeps_on was ready new made.sizes evicted.sizes);
      later = le_trans before.later (le_trans made.steps (after_sum _ _ _ c.evict.ensures.cost));
      cost =
          let key : ready.cache.key_words ≡ first.cache.key_words = made.sizes.key_words ∙ before.sizes.key_words in
          let entry : ready.cache.entry_words ≡ first.cache.entry_words = made.sizes.entry_words ∙ before.sizes.entry_words in
          let merged_once = merge_as_first g.K.EpochKind.merge_bound first was _ _ before.sizes made.cost in
          let evicting : c.evict.new.steps ≡ c.make_ready.new.steps + evict_cost ready.cache.key_words ready.cache.entry_words =
          subst (λ b. c.evict.new.steps ≡ c.make_ready.new.steps +
          (if b then evict_cost ready.cache.key_words ready.cache.entry_words else 0)) done c.evict.ensures.cost in
          evicted_within c.args.steps.now c.epochs.steps c.make_ready.new.steps c.evict.new.steps (held_in was.cache) (held_in new.cache)
          (held_in first.cache)
          (evict_cost first.cache.key_words first.cache.entry_words) merging (held_fewer was.cache new.cache bucket within some_was cache)
          merged_once (evicting ∙ ap₂ (λ k e. c.make_ready.new.steps + evict_cost k e) key entry) before.cost;
    }

pub epochs-smaller : goal.epochs-smaller
epochs-smaller g c =
    let ready = c.make_ready.new.front in
    let bucket = c.args.bucket in
    let some = some_found _ _ c.evict.ensures.some c.if-not-evict.false in
    let within = subst (λ n. bucket < n) (sym (c.make_ready.ensures.sizes.buckets ∙ c.epochs.invariant.sizes.buckets)) c.requires.range in
    let less = evicted_shorter ready.cache _ bucket within some c.evict.ensures.cache in
    let same = ap (λ x. length (list_at x bucket)) c.make_ready.ensures.cache in
    le_of_eq (less ∙ same)
