-- Which epochs are closed once all buckets are emptied.
use Rattle.std.proofs.Common.{◌≡◌, ◌≤◌, ◌<◌, ◌-◌, ℕ, zero, suc, true, List, [], ◌∷◌, ◌++◌, length, take, drop, get_or, set, map, flat_map}
use Rattle.std.proofs.Common.{reverse, refl, sym, ap, ap₂, ◌∙◌, arith, append-nil, append_assoc, get_or-set_same, length-take}
use Rattle.std.proofs.lemmas.{Bool.{lt-ltb, ltb-true, ltb-false}, List.{length-map, map-append, get_or_past, get_or_at, set_at, set-set}}
use Rattle.std.proofs.lemmas.List.{set-get_or, nil_from_length, take_all, drop_all, Concat.flat_map-append}
use Rattle.std.{proofs.Math.Seq.{take-suc, drop-cons}, specs.Prelude.nat_lt}
use Rattle.epoch_model.specs.Machine.{Epoch, Machine, open_in, evict, evict_times, empty_bucket, empty_buckets}
use Rattle.live_view.{specs.Views.all_epochs, proofs.Lists.{by_test, last_first}}

abbrev machine : List (List Epoch) → List Epoch → ℕ → Machine
machine recent closed merged = record { recent = recent; closed = closed; merged = merged }

-- one epoch is closed
evict_one : (n : ℕ) (m : Machine) (bucket : ℕ) → length (open_in m bucket) ≡ suc n
    → evict m bucket ≡ machine (set m.recent bucket (take n (open_in m bucket))) (m.closed ++ drop n (open_in m bucket)) m.merged
evict_one n m bucket long =
    let some : nat_lt 0 (length (open_in m bucket)) ≡ true = lt-ltb 0 (length (open_in m bucket)) (omega arith) in
    let less : length (open_in m bucket) - 1 ≡ n = omega arith in
    rw (some, less) refl

is_there : (n : ℕ) (m : Machine) (bucket : ℕ) → length (open_in m bucket) ≡ suc n → bucket < length m.recent
is_there n m bucket long = by_test (nat_lt bucket (length m.recent))
    (λ h. ltb-true bucket (length m.recent) h)
    (λ h. let past = ltb-false bucket (length m.recent) h in
    let none = ap (λ (es : List Epoch). length es) (get_or_past m.recent bucket [] past) in absurd (omega arith))

-- all epochs of a bucket are closed, the last one first
evict_all : (n : ℕ) (m : Machine) (bucket : ℕ) → length (open_in m bucket) ≡ n
    → evict_times n m bucket ≡ machine (set m.recent bucket []) (m.closed ++ reverse (open_in m bucket)) m.merged
evict_all zero m bucket none =
    let nothing : open_in m bucket ≡ [] = nil_from_length (open_in m bucket) none in
    let kept : set m.recent bucket [] ≡ m.recent = ap (set m.recent bucket) (sym nothing) ∙ set-get_or m.recent bucket [] in
    let same : m.closed ++ reverse (open_in m bucket) ≡ m.closed = ap (λ es. m.closed ++ reverse es) nothing ∙ append-nil m.closed in
    ap₂ (λ r c. machine r c m.merged) (sym kept) (sym same)
evict_all (suc n) m bucket long =
    let epochs = open_in m bucket in
    let first = machine (set m.recent bucket (take n epochs)) (m.closed ++ drop n epochs) m.merged in
    let rest : open_in first bucket ≡ take n epochs = get_or-set_same m.recent bucket (take n epochs) [] (is_there n m bucket long) in
    let shorter : length (open_in first bucket) ≡ n = ap length rest ∙ (length-take n epochs ∙ (omega arith)) in
    let recent : set (set m.recent bucket (take n epochs)) bucket [] ≡ set m.recent bucket [] =
    set-set m.recent bucket (take n epochs) [] in
    let closed : (m.closed ++ drop n epochs) ++ reverse (open_in first bucket) ≡ m.closed ++ reverse epochs =
    ap (λ es. (m.closed ++ drop n epochs) ++ reverse es) rest ∙ (append_assoc m.closed (drop n epochs) (reverse (take n epochs))
    ∙ ap (λ es. m.closed ++ es) (last_first n epochs long)) in
    ap (λ x. evict_times n x bucket) (evict_one n m bucket long) ∙ (evict_all n first bucket shorter
    ∙ ap₂ (λ r c. machine r c m.merged) recent closed)

-- the buckets below a number are emptied
empty_below : (n : ℕ) (m : Machine) → n ≤ length m.recent
    → empty_buckets n m ≡ machine (map (λ epochs. []) (take n m.recent) ++ drop n m.recent)
    (m.closed ++ flat_map (λ epochs. reverse epochs) (take n m.recent)) m.merged
empty_below zero m below = ap (λ c. machine m.recent c m.merged) (sym (append-nil m.closed))
empty_below (suc n) m below =
    let emptied = map (λ (epochs : List Epoch). []) (take n m.recent) in
    let epochs = get_or m.recent n [] in
    let before = machine (emptied ++ drop n m.recent) (m.closed ++ flat_map (λ es. reverse es) (take n m.recent)) m.merged in
    let here : n < length m.recent = omega arith in
    let long : length emptied ≡ n = length-map (take n m.recent) (λ epochs. []) ∙ (length-take n m.recent ∙ (omega arith)) in
    let split : emptied ++ drop n m.recent ≡ emptied ++ epochs ∷ drop (suc n) m.recent =
    ap (λ rs. emptied ++ rs) (drop-cons m.recent n [] here) in
    let found : open_in before n ≡ epochs = ap (λ rs. get_or rs n []) split ∙ get_or_at emptied epochs (drop (suc n) m.recent) [] n long in
    let next : take (suc n) m.recent ≡ take n m.recent ++ epochs ∷ [] = take-suc m.recent n [] here in
    let recent : set (emptied ++ drop n m.recent) n [] ≡ map (λ es. []) (take (suc n) m.recent) ++ drop (suc n) m.recent =
    ap (λ rs. set rs n []) split ∙ (set_at emptied epochs (drop (suc n) m.recent) [] n long
    ∙ (sym (append_assoc emptied ([] ∷ []) (drop (suc n) m.recent))
    ∙ ap (λ rs. rs ++ drop (suc n) m.recent) (sym (ap (map (λ (es : List Epoch). [])) next
    ∙ map-append (λ es. []) (take n m.recent) (epochs ∷ []))))) in
    let closed : (m.closed ++ flat_map (λ es. reverse es) (take n m.recent)) ++ reverse (open_in before n) ≡ m.closed
    ++ flat_map (λ es. reverse es) (take (suc n) m.recent) =
    ap (λ es. (m.closed ++ flat_map (λ es. reverse es) (take n m.recent)) ++ reverse es) found
    ∙ (append_assoc m.closed (flat_map (λ es. reverse es) (take n m.recent)) (reverse epochs)
    ∙ ap (λ es. m.closed ++ es) (sym (ap (flat_map (λ es. reverse es)) next
    ∙ (flat_map-append (λ es. reverse es) (take n m.recent) (epochs ∷ [])
    ∙ ap (λ es. flat_map (λ es. reverse es) (take n m.recent) ++ es) (append-nil (reverse epochs)))))) in
    ap (λ x. empty_bucket x n) (empty_below n m (omega arith)) ∙ (evict_all (length (open_in before n)) before n refl
    ∙ ap₂ (λ r c. machine r c m.merged) recent closed)

-- Once all buckets are emptied no epoch is open, and each epoch that was open is closed after the closed ones.
pub empty_all : (m : Machine) (buckets : ℕ) → length m.recent ≡ buckets
    → empty_buckets buckets m ≡ machine (map (λ epochs. []) m.recent) (all_epochs m) m.merged
empty_all m buckets long =
    let whole : take buckets m.recent ≡ m.recent = take_all buckets m.recent (omega arith) in
    let nothing : drop buckets m.recent ≡ [] = drop_all buckets m.recent (omega arith) in
    empty_below buckets m (omega arith)
    ∙ ap₂ (λ r c. machine r c m.merged)
    (ap₂ (λ rs rest. map (λ epochs. []) rs ++ rest) whole nothing ∙ append-nil (map (λ epochs. []) m.recent))
    (ap (λ rs. m.closed ++ flat_map (λ es. reverse es) rs) whole)
