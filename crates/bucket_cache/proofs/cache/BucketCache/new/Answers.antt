-- Ways in their own order with none in use are the buckets of an empty cache.
use Rattle.std.proofs.Common.{◌≡◌, ◌<◌, ◌*◌, ◌≤◌, length, get_or, replicate, ap, ap₂, sym, ◌∙◌, subst, arith}
use Rattle.std.proofs.lemmas.List.{length-replicate, get_or-replicate}
use Rattle.bucket_cache.{specs.FlatBuckets.{AreBuckets, lists_in}, proofs.FlatReads.{no-lists, new-buckets}}
use Rattle.bucket_cache.proofs.cache.BucketCache.new.Goals as goal

pub invariant_of-result : goal.invariant_of-result
invariant_of-result g c =
    let ways = g.row.WAYS in
    let count = c.args.buckets in
    let kw = c.args.key_words in
    let ew = c.args.entry_words in
    let order = c.loop-place.order.items in
    let words = c.in_ok-words.words.items in
    let used : c.in_ok-used.used.items ≡ replicate count 0 = c.in_ok-used.ensures.items_if_clones_equal (λ y h. h) in
    let many : length c.in_ok-used.used.items ≡ count = ap length used ∙ length-replicate count 0 in
    let flat : length words ≡ count * ways * kw = ap length (c.in_ok-words.ensures.items_if_clones_equal (λ y h. h))
    ∙ length-replicate (count * ways * kw) 0 in
    let all : c.loop-place.place ≡ count * ways = omega arith in
    let entries = c.in_ok-entries.ensures in
    record {
      some = c.requires.ways;
      buckets = subst (λ us. AreBuckets ways kw us order words) (sym used)
          (new-buckets ways kw count order words c.requires.ways c.requires.key.1 c.requires.places (c.loop-place.invariant.count ∙ all)
          flat
          (λ k l. c.loop-place.invariant.each k (subst (λ n. k < n) (sym all) l)));
      room = subst (λ n. n * ways ≤ 65536) (sym many) c.requires.places;
      places = ap length entries ∙ (length-replicate (count * ways) (replicate ew 0) ∙ ap (λ n. n * ways) (sym many));
      widths = λ k d l.
          let below : k < count * ways = subst (λ n. k < n) (ap length entries ∙ length-replicate (count * ways) (replicate ew 0)) l in
          ap (λ es. length (get_or es k d)) entries ∙ (ap length (get_or-replicate (count * ways) k (replicate ew 0) d below)
          ∙ length-replicate ew 0);
    }

pub returns : goal.returns
returns g c =
    let used : c.in_ok-used.used.items ≡ replicate c.args.buckets 0 = c.in_ok-used.ensures.items_if_clones_equal (λ y h. h) in
    ap₂ (λ ls es. record { key_words = c.args.key_words; entry_words = c.args.entry_words; lists = ls; entries = es })
    (ap (λ us. lists_in g.row.WAYS c.args.key_words us c.loop-place.order.items c.in_ok-words.words.items) used
    ∙ no-lists g.row.WAYS c.args.key_words c.args.buckets c.loop-place.order.items c.in_ok-words.words.items)
    c.in_ok-entries.ensures
