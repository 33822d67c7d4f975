-- The cache stays a cache whatever is written to a lent entry, and only the entry at the place changes.
use Rattle.std.proofs.Common.{◌≡◌, ◌<◌, ◌∙◌, [], get_or, length, refl, sym, ap, subst}
use Rattle.bucket_cache.specs.{Caches.Cache, LendingCaches.with_entry_at}
use Rattle.bucket_cache.proofs.LentEntries.{entries-wide, entry_replaced, length-with_entry}
use Rattle.bucket_cache.proofs.cache.BucketCache.entry_mut.Goals as goal

pub invariant_of-self-lent : goal.invariant_of-self-lent
invariant_of-self-lent g c w =
    let a = c.self.inside in
    record {
      some = c.self.invariant.some;
      buckets = c.self.invariant.buckets;
      room = c.self.invariant.room;
      places = length-with_entry a.entries c.args.at w ∙ c.self.invariant.places;
      widths = entries-wide a.entry_words a.entries c.args.at w c.self.invariant.widths;
    }

pub returns : goal.returns
returns g c =
    let a = c.self.inside in
    let at = c.args.at in
    let same : a.entries ≡ c.args.self.now.entries = ap (λ (s : Cache). s.entries) c.self.view_is in
    let kept : a.entry_words ≡ c.args.self.now.entry_words = ap (λ (s : Cache). s.entry_words) c.self.view_is in
    let low : at < length a.entries = subst (λ es. at < length es) (sym same) c.requires in
    let wide : length (get_or a.entries at []) ≡ c.args.self.now.entry_words = c.self.invariant.widths at [] low ∙ kept in (
      (refl, λ w. ap (λ s. with_entry_at s at w) c.self.view_is),
      record {
        writes_back = tt;
        value = c.entry_mut.ensures.value ∙ ap (λ es. get_or es at []) same;
        length = ap length c.entry_mut.ensures.value ∙ wide;
        whole = λ words long. entry_replaced c.args.self.now.entries at words c.requires
            (long ∙ sym (ap (λ es. length (get_or es at [])) (sym same) ∙ wide));
      },
    )
