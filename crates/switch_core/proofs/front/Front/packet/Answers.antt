-- A packet finds its key's entry, begins one in a free place, or takes the place of the least recently used one: each is the packet event
-- of the front.
use Rattle.std.proofs.Common.{◌≡◌, ℕ, ◌+◌, ◌<◌, ◌≤◌, [], length, arith, get_or-set_same, refl, ap, sym, ◌∙◌, subst, lit<, le_trans}
use Rattle.std.specs.Prelude.{slice_index_or}
use Rattle.epoch_model.specs.Machine.{Packet}
use Rattle.bucket_cache.specs.{Caches.list_at, LendingCaches.with_entry_at, Touches.IsLeast}
use Rattle.bucket_cache.specs.declared.bucket.Touch.TheVariants.{Hit, Free}
use Rattle.switch_core.specs.{Lanes.{CacheStands, PipeStands, geometry}, Places.with_words}
use Rattle.switch_core.proofs.CacheSteps.{as_it_was, front_within, full_machine, full_stands, least_within, list_set}
use Rattle.switch_core.proofs.FrontSizes.{SameSizes, front_makes, list_sizes, parts_kept, sizes_on, words_sizes}
use Rattle.switch_core.proofs.{Carrying.carries_packet, LaneSteps.packet_merged_same, PacketSteps.{free_makes, hit_makes}}
use Rattle.switch_core.proofs.{PipeSteps.pipe_evicted, StepSums.after_sum}
use Rattle.switch_core.proofs.front.Front.packet.Goals as goal

pub entry_mut-entry-requires : goal.entry_mut-entry-requires
entry_mut-entry-requires g c =
    let t = c.in-Hit.ensures in
    (lit< tt, front_within _ _ _ _ _ _ t.sound t.touched.2)

pub absorb-requires-clause-entry : goal.absorb-requires-clause-entry
absorb-requires-clause-entry g c =
    c.entry_mut-entry.ensures.length ∙ (ap (λ x. x.entry_words) c.in-Hit.ensures.rest ∙ c.self.invariant.front.entry)

pub absorb-requires-clause-args : goal.absorb-requires-clause-args
absorb-requires-clause-args g c =
    rw (← c.self.view_is) at c.requires.args

pub absorb-requires-clause-scratch : goal.absorb-requires-clause-scratch
absorb-requires-clause-scratch g c = ap length c.deref_mut-scratch.ensures.value ∙ c.self.invariant.scratch_words

pub begin_at-requires : goal.begin_at-requires
begin_at-requires g c =
    let t = c.in-Free.ensures in
    let args = rw (← c.self.view_is) at c.requires.args in (
      lit< tt,
      (
        front_within _ _ _ _ _ _ t.sound t.touched.2,
        (
          ap (λ x. x.entry_words) t.rest ∙ c.self.invariant.front.entry,
          (args, ap length c.deref_mut-scratch.ensures.value ∙ c.self.invariant.scratch_words),
        ),
      ),
    )

pub push_pair-requires : goal.push_pair-requires
push_pair-requires g c =
    let old = c.self.inside in
    let t = c.in-Full.ensures in
    let bucket = c.bucket_of-bucket.result in
    let least : IsLeast (list_at c.touch.new.self bucket) c.in-Full.place =
    rw t.touched.3 t.touched.2 in
    let untouched = as_it_was _ _ _ _ _ _ t.touched t.rest in
    let room = rw (← c.self.view_is) at c.requires.ready in (
      lit< tt,
      (
        least_within _ _ bucket _ t.sound least,
        (room, rw untouched c.self.invariant.front.record_words),
      ),
    )

pub begin_at-requires-in-Full : goal.begin_at-requires-in-Full
begin_at-requires-in-Full g c =
    let old = c.self.inside in
    let t = c.in-Full.ensures in
    let bucket = c.bucket_of-bucket.result in
    let untouched = as_it_was _ _ _ _ _ _ t.touched t.rest in
    let range : bucket < length c.touch.new.self.lists = rw untouched (subst (λ n. bucket < n) c.buckets.ensures.number
    c.bucket_of-bucket.ensures.below) in
    let r = c.replace-freed.ensures in
    let args = rw (← c.self.view_is) at c.requires.args in (
      lit< tt,
      (
        front_within _ _ _ _ _ _ r.sound
            (list_set c.touch.new.self _ _ _ range r.pairs),
        (
          ap (λ x. x.entry_words) r.pairs ∙ (ap (λ x. x.entry_words) t.rest ∙ c.self.invariant.front.entry),
          (args, ap length c.deref_mut-scratch.ensures.value ∙ c.self.invariant.scratch_words),
        ),
      ),
    )

pub touch-requires : goal.touch-requires
touch-requires g c = (
  lit< tt,
  (
    rw c.buckets.ensures.number at c.bucket_of-bucket.ensures.below,
    rw (← c.self.view_is) at c.requires.key,
  ),
)

-- what a packet takes, by what its bucket has for it
hit_spent : (first found touched last key key_words touch most words opening absorbing : ℕ) → found ≡ first + key → key ≡ key_words
    → touched ≤ found + touch → touch ≤ most → last ≤ touched + absorbing
    → last ≤ first + (key_words + most + words + opening + absorbing)
hit_spent first found touched last key key_words touch most words opening absorbing f k t m l = omega arith

free_spent : (first found touched last key key_words touch most words opening absorbing : ℕ) → found ≡ first + key → key ≡ key_words
    → touched ≤ found + touch → touch ≤ most → last ≤ touched + (opening + absorbing)
    → last ≤ first + (key_words + most + words + opening + absorbing)
free_spent first found touched last key key_words touch most words opening absorbing f k t m l = omega arith

full_spent : (first found touched pushed replaced last key key_words touch replace most record_words entry_words entry : ℕ)
    (opening absorbing : ℕ) → found ≡ first + key → key ≡ key_words → touched ≤ found + touch → touch + replace ≤ most
    → pushed ≡ touched + record_words
    → record_words ≡ key_words + entry_words → entry_words ≡ entry → replaced ≡ pushed + replace → last ≤ replaced + (opening + absorbing)
    → last ≤ first + (key_words + most + (key_words + entry) + opening + absorbing)
full_spent first found touched pushed replaced last key key_words touch replace most record_words entry_words entry opening absorbing
    f k t m p w e r l = omega arith

pub returns-in-Hit : goal.returns-in-Hit
returns-in-Hit g c =
    let old = c.self.inside in
    let t = c.in-Hit.ensures in
    let place = c.in-Hit.place in
    let touched = c.touch.new.self in
    let words = c.absorb.new.entry in
    let whole = c.entry_mut-entry.ensures.whole words (c.absorb.auto.entry ∙ c.entry_mut-entry.ensures.length) in
    let written = ap (λ es. slice_index_or es place []) whole
    ∙ get_or-set_same touched.entries place words [] (front_within _ _ _ _ _ _ t.sound t.touched.2) in
    let rest = ap (λ es. record touched { entries = es }) whole
    ∙ ap (with_words touched _) (sym written) in
    let made = hit_makes (g.K.EpochKind.stands old.kind) g.row.WAYS old.kind old.cache touched (with_entry_at touched place words) old.pipe
    c.bucket_of-bucket.result place c.args.key.now c.args.args.now _ c.buckets.ensures.number c.bucket_of-bucket.ensures.bucket
    c.bucket_of-bucket.ensures.below t.rest t.sound rest t.touched
    (λ rows st. rw written (c.absorb.ensures.absorbed rows (rw c.entry_mut-entry.ensures.value st))) in
    record {
      carries = λ store. rw (← c.self.view_is) (carries_packet _ _ _ _ _ _ _ made store);
      steps = le_trans (after_sum _ _ _ c.bucket_of-bucket.ensures.cost) (le_trans t.steps c.absorb.ensures.steps);
      cost =
          let long = rw (← c.self.view_is) at c.requires.key in
          let bounded = (c.uses_are_bounded.ensures g.row.WAYS old.cache.key_words c.self.invariant.front.some_ways).touch (Hit place) in
          rw (← c.self.view_is)
          (hit_spent _ _ _ _ _ _ _ _ _ _ _ c.bucket_of-bucket.ensures.cost long t.cost bounded c.absorb.ensures.cost);
    }

pub returns-in-Free : goal.returns-in-Free
returns-in-Free g c =
    let old = c.self.inside in
    let t = c.in-Free.ensures in
    let place = c.in-Free.place in
    let begun = c.begin_at.ensures in
    let made = free_makes (g.K.EpochKind.stands old.kind) g.row.WAYS old.kind old.cache c.touch.new.self c.begin_at.new.cache old.pipe
    c.bucket_of-bucket.result place c.args.key.now c.args.args.now _ c.buckets.ensures.number c.bucket_of-bucket.ensures.bucket
    c.bucket_of-bucket.ensures.below t.rest t.sound begun.rest t.touched begun.begun in
    record {
      carries = λ store. rw (← c.self.view_is) (carries_packet _ _ _ _ _ _ _ made store);
      steps = le_trans (after_sum _ _ _ c.bucket_of-bucket.ensures.cost) (le_trans t.steps begun.steps);
      cost =
          let long = rw (← c.self.view_is) at c.requires.key in
          let bounded = (c.uses_are_bounded.ensures g.row.WAYS old.cache.key_words c.self.invariant.front.some_ways).touch (Free place) in
          rw (← c.self.view_is) (free_spent _ _ _ _ _ _ _ _ _ _ _ c.bucket_of-bucket.ensures.cost long t.cost bounded begun.cost);
    }

pub returns-in-Full : goal.returns-in-Full
returns-in-Full g c =
    let old = c.self.inside in
    let stands = g.K.EpochKind.stands old.kind in
    let key = c.args.key.now in
    let args = c.args.args.now in
    let t = c.in-Full.ensures in
    let r = c.replace-freed.ensures in
    let bucket = c.bucket_of-bucket.result in
    let touched = c.touch.new.self in
    let own = rw c.buckets.ensures.number at c.bucket_of-bucket.ensures.bucket in
    let range = rw c.buckets.ensures.number at c.bucket_of-bucket.ensures.below in
    let untouched = as_it_was _ _ _ _ _ _ t.touched t.rest in
    let range' : bucket < length touched.lists = rw untouched range in
    let here = front_within _ _ _ _ _ _ r.sound
    (list_set touched _ _ _ range' r.pairs) in
    let least : IsLeast (list_at touched bucket) c.in-Full.place = rw t.touched.3 t.touched.2 in
    let some : 0 < length (list_at touched bucket) = rw (ap length t.touched.3 ∙ t.touched.1) c.self.invariant.front.some_ways in
    let cache = c.begin_at-in-Full.new.cache in
    let begun = c.begin_at-in-Full.ensures in
    let records = c.push_pair.new.pipe.records in
    let taken = list_sizes _ _ bucket _ t.rest in
    let sizes = sizes_on _ _ _ taken (sizes_on _ _ _ (list_sizes _ _ bucket _ r.pairs)
    (words_sizes _ _ c.replace-freed.result _ begun.rest)) in
    let made = front_makes stands g.row.WAYS (Packet key args) old.kind old.cache cache old.pipe c.push_pair.new.pipe sizes
    (ap (λ p. p.places) c.push_pair.ensures.rest) (λ m s.
    let evicted = pipe_evicted stands g.row.WAYS touched bucket c.in-Full.place old.pipe.records records t.sound some least
    c.push_pair.ensures.pushed m (subst (λ x. CacheStands stands x m) (sym untouched) s.cached) s.few
    (subst (λ k. PipeStands stands k old.pipe.records m) (sym taken.key_words) s.piped) in
    let steps = full_machine stands g.row.WAYS old.cache (list_at touched bucket) bucket c.in-Full.place key args own t.touched m
    s.cached in
    record {
      cached = full_stands _ _ _ _ _ _ _ _ _ _ args c.self.invariant.front.some_ways own range
          (rw (ap (λ x. x.entries) r.pairs ∙ ap (λ x. x.entries) untouched) at here)
          t.touched t.rest r.pairs r.sound begun.rest begun.begun m s.cached;
      piped = rw (sizes.key_words, ← taken.key_words, steps) evicted;
      few = (packet_merged_same (geometry g.row.WAYS old.cache) m key args s.few).1;
    }) in
    record {
      carries = λ store. rw (← c.self.view_is) (carries_packet _ _ _ _ _ _ _ made store);
      steps = le_trans (le_trans (after_sum _ _ _ c.bucket_of-bucket.ensures.cost) t.steps)
          (le_trans (le_trans (after_sum _ _ _ c.push_pair.ensures.cost) (after_sum _ _ _ r.cost)) begun.steps);
      cost =
          let long = rw (← c.self.view_is) at c.requires.key in
          let bounds = c.uses_are_bounded.ensures g.row.WAYS old.cache.key_words c.self.invariant.front.some_ways in
          let bounded = bounds.touch_and_replace c.in-Full.place in
          let replaced = rw taken.key_words at r.cost in
          let whole = c.self.invariant.front.record_words in
          rw (← c.self.view_is) (full_spent _ _ _ _ _ _ _ _ _ _ _ _ _ _ _ _ c.bucket_of-bucket.ensures.cost long t.cost bounded
          c.push_pair.ensures.cost whole c.self.invariant.front.entry replaced begun.cost);
    }

pub invariant_of-self : goal.invariant_of-self
invariant_of-self g c =
    let kept = list_sizes _ _ c.bucket_of-bucket.result _ c.in-Hit.ensures.rest in
    let sizes : SameSizes c.self.inside.cache (with_entry_at c.touch.new.self c.in-Hit.place c.absorb.new.entry) =
    record { buckets = kept.buckets; key_words = kept.key_words; entry_words = kept.entry_words } in
    parts_kept _ _ _ _ _ _ _ _ _ _ _ _ sizes refl refl c.deref_mut-scratch.ensures.value
    c.deref_mut-scratch.ensures.len c.absorb.auto.scratch c.self.invariant

pub invariant_of-self-in-Free : goal.invariant_of-self-in-Free
invariant_of-self-in-Free g c =
    let sizes = sizes_on _ _ _ (list_sizes _ _ c.bucket_of-bucket.result _ c.in-Free.ensures.rest)
    (words_sizes _ _ c.in-Free.place _ c.begin_at.ensures.rest) in
    parts_kept _ _ _ _ _ _ _ _ _ _ _ _ sizes refl refl c.deref_mut-scratch.ensures.value
    c.deref_mut-scratch.ensures.len c.begin_at.auto.scratch c.self.invariant

pub invariant_of-self-in-Full : goal.invariant_of-self-in-Full
invariant_of-self-in-Full g c =
    let bucket = c.bucket_of-bucket.result in
    let sizes = sizes_on _ _ _ (list_sizes _ _ bucket _ c.in-Full.ensures.rest)
    (sizes_on _ _ _ (list_sizes _ _ bucket _ c.replace-freed.ensures.pairs)
    (words_sizes _ _ c.replace-freed.result _ c.begin_at-in-Full.ensures.rest)) in
    parts_kept _ _ _ _ _ _ _ _ _ _ _ _ sizes (ap (λ p. p.places) c.push_pair.ensures.rest)
    (ap (λ p. p.record_words) c.push_pair.ensures.rest) c.deref_mut-scratch.ensures.value
    c.deref_mut-scratch.ensures.len c.begin_at-in-Full.auto.scratch c.self.invariant
