-- An eviction pushes the record of the least recently used pair and drops the pair, or finds no pair.
use Rattle.std.proofs.Common.{◌≡◌, ℕ, ◌+◌, ◌-◌, ◌<◌, length, refl, sym, ap, ◌∙◌, lit<, length-append, arith, true, true≢false}
use Rattle.std.proofs.Common.{add-zero, ne_of_gt}
use Rattle.std.{proofs.lemmas.Bool.{lt-ltb, Decides.nat_tests}, specs.Prelude.{not, ◌==◌}}
use Rattle.bucket_cache.specs.Caches.{list_at}
use Rattle.epoch_model.specs.Machine.{Evict}
use Rattle.switch_core.proofs.CacheSteps.{least_pair, least_within, some_least, none_least, drop_stands, evict_none}
use Rattle.switch_core.proofs.{PipeSteps.pipe_evicted, LaneSteps.evict_merged_same, Drained.nothing_taken, Carrying.carries_evict}
use Rattle.switch_core.proofs.FrontSizes.{front_makes, list_sizes, sizes_same}
use Rattle.switch_core.proofs.front.Front.evict.Goals as goal

pub push_pair-requires : goal.push_pair-requires
push_pair-requires g c =
    let old = c.self.inside in (
      lit< tt,
      (
        least_within _ _ c.args.bucket _ c.in-Some.ensures.sound (sym c.in-Some.ensures.place),
        (rw (← c.self.view_is) at c.requires.ready, c.self.invariant.front.record_words),
      ),
    )

pub least-requires : goal.least-requires
least-requires g c = (lit< tt, rw (← c.self.view_is) at c.requires.range)

pub drop_entry-requires : goal.drop_entry-requires
drop_entry-requires g c = (
  lit< tt,
  (
    rw (← c.self.view_is) at c.requires.range,
    some_least _ _ c.in-Some.ensures.place,
  ),
)

some_are : (n : ℕ) → 0 < n → true ≡ not (n == 0)
some_are n h = grind (arith, nat_tests)

pushed_and_dropped : (first pushed dropped words key entry : ℕ) → words ≡ key + entry → pushed ≡ first + words → dropped ≡ pushed + 1
    → dropped ≡ first + (key + entry + 1)
pushed_and_dropped first pushed dropped words key entry w p d = omega arith

pub returns-in-Some : goal.returns-in-Some
returns-in-Some g c =
    let old = c.self.inside in
    let bucket = c.args.bucket in
    let stands = g.K.EpochKind.stands old.kind in
    let pairs = c.drop_entry.ensures.pairs in
    let pipe = c.push_pair.new.pipe in
    let list = list_at old.cache bucket in
    let some = some_least list _ c.in-Some.ensures.place in
    let least = least_pair list c.in-Some.place c.in-Some.ensures.place in
    let range : bucket < length old.cache.lists = rw (← c.self.view_is) at c.requires.range in
    let sizes = list_sizes _ _ bucket _ pairs in
    let made = front_makes stands g.row.WAYS (Evict bucket) old.kind old.cache c.drop_entry.new.self old.pipe pipe sizes
    (ap (λ p. p.places) c.push_pair.ensures.rest) (λ m s. record {
      cached = drop_stands _ _ _ bucket range some pairs m s.cached;
      piped = rw sizes.key_words (pipe_evicted _ _ _ bucket _ _ _
          c.in-Some.ensures.sound some (sym c.in-Some.ensures.place) c.push_pair.ensures.pushed m s.cached s.few s.piped);
      few = (evict_merged_same m bucket s.few).1;
    }) in
    let records : length pipe.records ≡ length old.pipe.records + 1 =
    ap length (c.push_pair.ensures.pushed bucket (length list - 1) least.0 least.1 least.2) ∙ length-append old.pipe.records _ in
    record {
      carries = λ store. rw (← c.self.view_is) (carries_evict _ _ _ _ _ _ made pairs (rw (lt-ltb 0 _ some) records)
          (λ none. absurd (ne_of_gt some none)) store);
      some = rw (← c.self.view_is) (some_are _ some);
      cache = rw (← c.self.view_is) pairs;
      records = rw (← c.self.view_is) records;
      same = λ none. absurd (true≢false none);
      cost =
          let words = c.self.invariant.front.record_words in
          let pushed = c.push_pair.ensures.cost in
          let dropped = c.drop_entry.ensures.cost in
          rw (← c.self.view_is) (pushed_and_dropped _ _ _ _ _ _ words pushed dropped);
    }

pub returns-in-None : goal.returns-in-None
returns-in-None g c =
    let old = c.self.inside in
    let bucket = c.args.bucket in
    let stands = g.K.EpochKind.stands old.kind in
    let none = none_least _ c.in-None.ensures.place in
    let taken = nothing_taken _ bucket none in
    let made = front_makes stands g.row.WAYS (Evict bucket) old.kind old.cache old.cache old.pipe old.pipe (sizes_same old.cache) refl
    (λ m s. rw (evict_none stands old.cache bucket none m s.cached) s) in
    record {
      carries = λ store. rw (← c.self.view_is) (carries_evict _ _ _ _ _ _ made taken (rw none (sym (add-zero _))) (λ h. refl) store);
      some = rw (← c.self.view_is, none);
      cache = rw (← c.self.view_is) taken;
      records = sym (add-zero _);
      same = λ none. refl;
      cost = sym (add-zero _);
    }
