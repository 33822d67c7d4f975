-- A pipe that represents a machine still represents it after an epoch was closed.
use Rattle.std.proofs.Common.{◌≡◌, ℕ, zero, suc, ◌-◌, ◌<◌, ◌≤◌, List, [], ◌∷◌, ◌++◌, Some, length, take, drop, sym, ap, ◌∙◌, subst}
use Rattle.std.proofs.{Common.arith, lemmas.{Bool.lt-ltb, List.drop-append-le}, Math.Seq.{take-append_seam, drop-append_seam}}
use Rattle.std.specs.Prelude.{slice_get}
use Rattle.epoch_model.specs.Machine.{Epoch, Machine, open_in, evict, last_alone}
use Rattle.bucket_cache.specs.{Buckets.{Pair, places_of}, Caches.{Cache, list_at, entry_at, IsSoundCache}, Touches.IsLeast}
use Rattle.switch_core.specs.Lanes.{Standing, PairStands, CacheStands, RecordStands, RecordsStand, PipeStands}
use Rattle.switch_core.proofs.{SideBySide.all_got, Standing.{pairs_long, last_pair}}

records_more : (stands : Standing) (kw : ℕ) (records : List (List ℕ)) (epochs : List Epoch) (words : List ℕ) (epoch : Epoch)
    → RecordsStand stands kw records epochs → RecordStands stands kw words epoch
    → RecordsStand stands kw (records ++ words ∷ []) (epochs ++ epoch ∷ [])
records_more stands kw [] [] words epoch s r = (r, tt)
records_more stands kw [] (e ∷ es) words epoch s r = absurd s
records_more stands kw (w ∷ ws) [] words epoch s r = absurd s
records_more stands kw (w ∷ ws) (e ∷ es) words epoch s r = (s.0, records_more stands kw ws es words epoch s.1 r)

-- a key's words and then those of an entry are a record
record_of : (stands : Standing) (kw : ℕ) (pair : Pair) (entry : List ℕ) (epoch : Epoch) → length pair.key ≡ kw → pair.key ≡ epoch.key
    → stands entry epoch.rows → RecordStands stands kw (pair.key ++ entry) epoch
record_of stands kw pair entry epoch long key s =
    let front : take kw (pair.key ++ entry) ≡ pair.key = rw long at (take-append_seam pair.key entry) in
    let back : drop kw (pair.key ++ entry) ≡ entry = rw long at (drop-append_seam pair.key entry) in
    (front ∙ key, rw back s)

pub evict_closes : (m : Machine) (bucket : ℕ) → 0 < length (open_in m bucket) → (evict m bucket).closed ≡ m.closed
    ++ last_alone (open_in m bucket)
evict_closes m bucket h = let some = lt-ltb 0 (length (open_in m bucket)) h in rw some

pub evict_merged : (m : Machine) (bucket : ℕ) → 0 < length (open_in m bucket) → (evict m bucket).merged ≡ m.merged
evict_merged m bucket h = let some = lt-ltb 0 (length (open_in m bucket)) h in rw some

-- the record of the least recently used pair goes last
pub pipe_evicted : (stands : Standing) (ways : ℕ) (cache : Cache) (bucket place : ℕ) (records more : List (List ℕ))
    → IsSoundCache ways cache → 0 < length (list_at cache bucket) → IsLeast (list_at cache bucket) place
    → ((b i : ℕ) (pair : Pair) → slice_get (list_at cache b) i ≡ Some pair → pair.place ≡ place → more ≡ records
    ++ (pair.key ++ entry_at cache place) ∷ [])
    → (m : Machine) → CacheStands stands cache m → m.merged ≤ length m.closed → PipeStands stands cache.key_words records m
    → PipeStands stands cache.key_words more (evict m bucket)
pipe_evicted stands ways cache bucket place records more sound some least pushed m s few p =
    let list = list_at cache bucket in
    let epochs = open_in m bucket in
    let long = pairs_long (PairStands stands cache) list epochs (s.each bucket) in
    let last = last_pair (PairStands stands cache) list epochs (s.each bucket) some in
    let pair = last.0 in
    let epoch = last.1 in
    let at : pair.place ≡ place = least_place_is list (length list - 1) pair place last.2 least in
    let added : more ≡ records ++ (pair.key ++ entry_at cache place) ∷ [] = pushed bucket (length list - 1) pair last.2 at in
    let long_key : length pair.key ≡ cache.key_words = all_got (λ p. length p.key ≡ cache.key_words) list (length list - 1) pair
    (sound.words bucket) last.2 in
    let stood : RecordStands stands cache.key_words (pair.key ++ entry_at cache place) epoch =
    record_of stands cache.key_words pair (entry_at cache place) epoch long_key last.4.0
    (subst (λ n. stands (entry_at cache n) epoch.rows) at last.4.1) in
    let grown : drop m.merged (evict m bucket).closed ≡ drop m.merged m.closed ++ epoch ∷ [] =
    ap (drop m.merged) (evict_closes m bucket (omega arith) ∙ ap (λ es. m.closed ++ es) last.3)
    ∙ drop-append-le m.merged m.closed (epoch ∷ []) few in
    subst (λ n. RecordsStand stands cache.key_words more (drop n (evict m bucket).closed)) (sym (evict_merged m bucket (omega arith)))
    (subst (RecordsStand stands cache.key_words more) (sym grown) (subst
    (λ rs. RecordsStand stands cache.key_words rs (drop m.merged m.closed ++ epoch ∷ [])) (sym added)
    (records_more stands cache.key_words records (drop m.merged m.closed) (pair.key ++ entry_at cache place) epoch p stood)))
  where
    same : (x y : ℕ) → Some x ≡ Some y → x ≡ y
    same x y e = cc

    least_place_is : (pairs : List Pair) (i : ℕ) (pair : Pair) (place : ℕ) → slice_get pairs i ≡ Some pair
        → slice_get (places_of pairs) i ≡ Some place → pair.place ≡ place
    least_place_is [] i pair place e f = cc
    least_place_is (q ∷ pairs) zero pair place e f = cc
    least_place_is (q ∷ pairs) (suc i) pair place e f = least_place_is pairs i _ _ e f
