-- Which epochs are merged by a loop over what represents them.
use Rattle.std.proofs.Common.{◌≡◌, ◌<◌, ◌≤◌, ◌+◌, ℕ, zero, suc, List, [], ◌∷◌, ◌++◌, Some, None, length, take, drop, get_or, flat_map}
use Rattle.std.proofs.Common.{reverse, refl, sym, ap, ◌∙◌, subst, arith, append-nil, append_assoc}
use Rattle.std.proofs.lemmas.List.{reverse-append, take_more, Concat.flat_map-append, Elements.{All-head, All-tail}}
use Rattle.std.specs.Prelude.{slice_get, All}
use Rattle.epoch_model.specs.{Keys.Key, Machine.Epoch}
use Rattle.bucket_cache.specs.Buckets.{Pair, places_of}
use Rattle.switch_core.specs.Lanes.{Standing, RecordStands, RecordsStand, PairsStand}

pub records_long : (stands : Standing) (kw : ℕ) (records : List (List ℕ)) (epochs : List Epoch) → RecordsStand stands kw records epochs
    → length records ≡ length epochs
records_long stands kw [] [] s = refl
records_long stands kw [] (e ∷ epochs) s = absurd s
records_long stands kw (r ∷ records) [] s = absurd s
records_long stands kw (r ∷ records) (e ∷ epochs) s = ap (λ n. suc n) (records_long stands kw records epochs s.1)

-- the record at a place represents the epoch that comes next
pub record_next : (stands : Standing) (kw : ℕ) (records : List (List ℕ)) (epochs : List Epoch) (i : ℕ)
    → RecordsStand stands kw records epochs → i < length records
    → (e : Epoch) × (take (i + 1) epochs ≡ take i epochs ++ e ∷ []) × RecordStands stands kw (get_or records i []) e
record_next stands kw records epochs i s below =
    let found = at records epochs i s below in
    (found.0, ap (λ n. take n epochs) (let q : i + 1 ≡ suc i = omega arith in q) ∙ found.1, found.2)
  where
    at : (records : List (List ℕ)) (epochs : List Epoch) (i : ℕ) → RecordsStand stands kw records epochs → i < length records
        → (e : Epoch) × (take (suc i) epochs ≡ take i epochs ++ e ∷ []) × RecordStands stands kw (get_or records i []) e
    at [] epochs i s below = absurd (omega arith)
    at (r ∷ records) [] i s below = absurd s
    at (r ∷ records) (e ∷ epochs) zero s below = (e, refl, s.0)
    at (r ∷ records) (e ∷ epochs) (suc i) s below = let rest = at records epochs i s.1 (omega arith)
        in (rest.0, ap (λ es. e ∷ es) rest.1, rest.2)

pub pairs_long : (R : Pair → Epoch → Type 0) (pairs : List Pair) (epochs : List Epoch) → PairsStand R pairs epochs
    → length pairs ≡ length epochs
pairs_long R [] [] s = refl
pairs_long R [] (e ∷ epochs) s = absurd s
pairs_long R (p ∷ pairs) [] s = absurd s
pairs_long R (p ∷ pairs) (e ∷ epochs) s = ap (λ n. suc n) (pairs_long R pairs epochs s.1)

-- the pair of a place represents the epoch before those after it
pub pair_before : (R : Pair → Epoch → Type 0) (pairs : List Pair) (epochs : List Epoch) (i place : ℕ) → PairsStand R pairs epochs
    → slice_get (places_of pairs) i ≡ Some place
    → (p : Pair) × (e : Epoch) × (slice_get pairs i ≡ Some p) × (p.place ≡ place) × R p e × (drop i epochs ≡ e ∷ drop (i + 1) epochs)
pair_before R pairs epochs i place s found =
    let here = at pairs epochs i s found in
    (here.0, here.1, here.2, here.3, here.4, here.5 ∙ ap (λ n. here.1 ∷ drop n epochs) (let q : suc i ≡ i + 1 = omega arith in q))
  where
    at : (pairs : List Pair) (epochs : List Epoch) (i : ℕ) → PairsStand R pairs epochs → slice_get (places_of pairs) i ≡ Some place
        → (p : Pair) × (e : Epoch) × (slice_get pairs i ≡ Some p) × (p.place ≡ place) × R p e × (drop i epochs ≡ e ∷ drop (suc i) epochs)
    at [] epochs i s found = absurd (none found)
      where
        none : None ≡ Some place → ⊥
        none e = cc
    at (p ∷ pairs) [] i s found = absurd s
    at (p ∷ pairs) (e ∷ epochs) zero s found = (p, e, refl, (let q : p.place ≡ place = cc in q), s.0, refl)
    at (p ∷ pairs) (e ∷ epochs) (suc i) s found = at pairs epochs i s.1 found

-- where there is no such pair there are no more epochs
pub none_after : (R : Pair → Epoch → Type 0) (pairs : List Pair) (epochs : List Epoch) (i : ℕ) → PairsStand R pairs epochs
    → slice_get (places_of pairs) i ≡ None → length epochs ≤ i
none_after R [] [] i s none = omega arith
none_after R [] (e ∷ epochs) i s none = absurd s
none_after R (p ∷ pairs) [] i s none = absurd s
none_after R (p ∷ pairs) (e ∷ epochs) zero s none = absurd (some none)
  where
    some : Some p.place ≡ None → ⊥
    some e = cc
none_after R (p ∷ pairs) (e ∷ epochs) (suc i) s none = let rest = none_after R pairs epochs i s.1 none in omega arith

-- a place that a pair has
pub place_is_there : (pairs : List Pair) (n i place : ℕ) → All (λ pair. pair.place < n) pairs → slice_get (places_of pairs) i ≡ Some place
    → place < n
place_is_there [] n i place all found = absurd (none found)
  where
    none : None ≡ Some place → ⊥
    none e = cc
place_is_there (p ∷ pairs) n zero place all found =
    let same : p.place ≡ place = cc in subst (λ x. x < n) same (All-head (λ (pair : Pair). pair.place < n) p pairs all)
place_is_there (p ∷ pairs) n (suc i) place all found = place_is_there pairs n i place
    (All-tail (λ (pair : Pair). pair.place < n) p pairs all) found

-- one epoch more, from the end of the bucket's epochs
pub one_before : (epochs opened : List Epoch) (i j : ℕ) (e : Epoch) (key : Key) → key ≡ e.key → drop j opened ≡ e ∷ drop i opened
    → (epochs ++ reverse (drop i opened)) ++ record { key = key; rows = e.rows } ∷ [] ≡ epochs ++ reverse (drop j opened)
one_before epochs opened i j e key same split =
    let this : record { key = key; rows = e.rows } ≡ e = ap (λ k. record { key = k; rows = e.rows }) same in
    ap (λ x. (epochs ++ reverse (drop i opened)) ++ x ∷ []) this
    ∙ (append_assoc epochs (reverse (drop i opened)) (e ∷ [])
    ∙ ap (λ es. epochs ++ es) (sym (ap (λ es. reverse es) split ∙ reverse-append (e ∷ []) (drop i opened))))

-- one record more
pub one_after : (epochs waiting : List Epoch) (i : ℕ) (e : Epoch) (key : Key) → key ≡ e.key → take (i + 1) waiting ≡ take i waiting ++ e
    ∷ []
    → (epochs ++ take i waiting) ++ record { key = key; rows = e.rows } ∷ [] ≡ epochs ++ take (i + 1) waiting
one_after epochs waiting i e key same split =
    let this : record { key = key; rows = e.rows } ≡ e = ap (λ k. record { key = k; rows = e.rows }) same in
    ap (λ x. (epochs ++ take i waiting) ++ x ∷ []) this ∙ (append_assoc epochs (take i waiting) (e ∷ [])
    ∙ ap (λ es. epochs ++ es) (sym split))

-- one bucket more
pub bucket_after : (epochs : List Epoch) (recent : List (List Epoch)) (bucket : ℕ) → bucket < length recent
    → (epochs ++ flat_map (λ es. reverse es) (take bucket recent)) ++ reverse (get_or recent bucket []) ≡ epochs
    ++ flat_map (λ es. reverse es) (take (bucket + 1) recent)
bucket_after epochs recent bucket below =
    let opened = get_or recent bucket [] in
    append_assoc epochs (flat_map (λ es. reverse es) (take bucket recent)) (reverse opened)
    ∙ ap (λ es. epochs ++ es) (sym (ap (flat_map (λ es. reverse es)) (take_more recent bucket [] below)
    ∙ (flat_map-append (λ es. reverse es) (take bucket recent) (opened ∷ [])
    ∙ ap (λ es. flat_map (λ es. reverse es) (take bucket recent) ++ es) (append-nil (reverse opened)))))
