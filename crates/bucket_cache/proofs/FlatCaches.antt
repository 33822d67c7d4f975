-- A cache whose buckets are stored one after another.
use Rattle.std.proofs.Common.{◌≡◌, ℕ, ◌*◌, ◌<◌, List, ◌++◌, length, take, drop, get_or, [], sym, ap, ◌∙◌, subst, refl}
use Rattle.std.proofs.lemmas.List.{get_or_read, take_at}
use Rattle.bucket_cache.specs.{Slices.rows_of, Buckets.{IsSound, pairs_at}}
use Rattle.bucket_cache.specs.FlatBuckets.{bucket_of, buckets_of, lists_in, orders_of, words_of, AreBuckets, IsFlatCache}
use Rattle.bucket_cache.{specs.Caches.{Cache, IsSoundCache}, proofs.{Shapes.{IsHome, IsShaped}, FlatRows.get-rows_of}}
use Rattle.bucket_cache.proofs.{BucketLists.bucket_sound, FlatBuckets.{length-buckets_of, length-lists_in, get-buckets_of, order-long}}
use Rattle.bucket_cache.proofs.CacheLists.{cache_sound}

home-flat : (ways kw b : ℕ) (used order words : List ℕ) → AreBuckets ways kw used order words → b < length used
    → IsHome ways kw (b * ways) (bucket_of ways kw (b * ways) (get_or used b 0) (get_or (orders_of ways used order) b [])
    (get_or (words_of ways kw used words) b []))
home-flat ways kw b used order words are h =
    let o = get_or (orders_of ways used order) b [] in
    let keys = rows_of kw ways (get_or (words_of ways kw used words) b []) in
    let long : length o ≡ ways = ap length (get-rows_of ways (length used) order b [] h) ∙ order-long b are h in
    record {
      of_first = refl;
      of_ways = refl;
      of_key_words = refl;
      sound = subst (λ n. IsSound (record {
        first = b * ways;
        ways = n;
        key_words = kw;
        pairs =
            pairs_at (b * ways) keys (take (get_or used b 0) o);
      })) long
          (bucket_sound (b * ways) kw (get_or used b 0) o keys (are.each b h));
    }

module _ {ways kw ew : ℕ} {used order words : List ℕ} {entries : List (List ℕ)} (s : IsFlatCache ways kw ew used order words entries) where
  abbrev the_cache : List ℕ → List ℕ → List ℕ → Cache
  the_cache u o w = record { key_words = kw; entry_words = ew; lists = lists_in ways kw u o w; entries = entries }

  pub shaped : IsShaped ways kw ew (buckets_of ways kw used order words) entries
  shaped =
      let long = length-buckets_of ways kw used order words in
      record {
        some = s.some;
        each = λ b d l.
            let h = subst (λ n. b < n) long l in
            rw (get-buckets_of ways kw used order words b d h) (home-flat ways kw b used order words s.buckets h);
        room = rw long s.room;
        places = rw (s.places, long);
        words = s.widths;
      }

  flat_sound : IsSoundCache ways (the_cache used order words)
  flat_sound = cache_sound ways kw ew (buckets_of ways kw used order words) entries shaped

  -- a cache whose buckets changed
  pub flat-kept : {used' order' words' : List ℕ} → AreBuckets ways kw used' order' words' → length used' ≡ length used
      → IsFlatCache ways kw ew used' order' words' entries
  flat-kept are same = record {
    some = s.some;
    buckets = are;
    room = rw same s.room;
    places = rw (s.places, same);
    widths = s.widths;
  }

  -- what contracts see of a cache is sound, and a bucket of its lists is one of the flat parts
  module _ {cache : Cache} (view : the_cache used order words ≡ cache) where
    pub view-sound : IsSoundCache ways cache
    view-sound = rw (← view) flat_sound

    pub in-flat : {b : ℕ} → b < length cache.lists → b < length used
    in-flat {b} h = subst (λ n. b < n) (ap (λ x. length x.lists) (sym view) ∙ length-lists_in ways kw used order words) h

    -- a number of ways in use, as it is read
    pub read-used : {b n : ℕ} → b < length cache.lists → n ≡ get_or used b n → n ≡ get_or used b 0
    read-used {b} {n} h e = get_or_read used b n (in-flat h) e 0

-- what a vector holds whose items were lent and are now others
abbrev pub held : ℕ → List ℕ → List ℕ → List ℕ
held long items now = take long (now ++ drop (length now) items)

pub now-holds : {long : ℕ} (items now : List ℕ) → length now ≡ long → held long items now ≡ now
now-holds {long} items now l = take_at now (drop (length now) items) long l
