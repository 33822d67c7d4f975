-- What a packet does to the row lists of a key, and to the keys of its bucket.
use Rattle.std.proofs.Common.{◌≡◌, ℕ, suc, ◌-◌, ◌<◌, min, true, false, ◌||◌, List, [], ◌∷◌, ◌++◌, length, take, refl, sym, ap, ◌∙◌, subst}
use Rattle.std.proofs.{Common.{arith, append-nil, take_all, take-take, length-take}, lemmas.List.length-map}
use Rattle.std.{proofs.lemmas.Bool.{true≢false, ltb-true, ltb-false, lt-ltb}, specs.Prelude.nat_lt}
use Rattle.epoch_model.specs.{Keys.{Key, ArgRow, key_eq, bucket_of, others, has}, Epochs.{Geometry, onto_last}, Machine.{Epoch, Machine}}
use Rattle.epoch_model.specs.Machine.{open_in, is_open, with_row, with_new, all_but_last, set_open, evict, packet, lists_of, row_lists}
use Rattle.epoch_model.{specs.Machine.{rows_in_epochs, without}, proofs.KeyLists.{by_test, key_eq-true, IsDistinct, has-others_same}}
use Rattle.epoch_model.proofs.{KeyLists.{has-others_false, others-distinct, front_known, front_new}, EpochLists.{keys_of, is_open-has}}
use Rattle.epoch_model.proofs.EpochLists.{keys_of-without, lists_of-absent, lists_of-open, has-front, onto_last-append}
use Rattle.epoch_model.proofs.EpochLists.{lists_of-with_row_same, lists_of-with_row_other, lists_of-with_new_same, lists_of-with_new_other}
use Rattle.epoch_model.proofs.MachineSteps.{IsTidy, bucket_of-lt, open_in-set_same, open_in-set_other, set-tidy, row_lists-set_own}
use Rattle.epoch_model.proofs.MachineSteps.{row_lists-set_alike, in_range, close_last, evict_is, evict_empty, keys_of-all_but_last}
use Rattle.epoch_model.proofs.MachineSteps.{evict-tidy, evict-lists}

abbrev pub own : Geometry → Key → ℕ
own g k = bucket_of g.buckets k

pub packet_open : (g : Geometry) (m : Machine) (k : Key) (row : ArgRow) → is_open k (open_in m (own g k)) ≡ true
    → packet g m k row ≡ set_open m (own g k) (with_row k row (open_in m (own g k)))
packet_open g m k row h = rw h refl

pub packet_free : (g : Geometry) (m : Machine) (k : Key) (row : ArgRow) → is_open k (open_in m (own g k)) ≡ false
    → nat_lt (length (open_in m (own g k))) g.ways ≡ true → packet g m k row ≡ set_open m (own g k) (with_new k row (open_in m (own g k)))
packet_free g m k row h l = rw (h, l) refl

pub packet_full : (g : Geometry) (m : Machine) (k : Key) (row : ArgRow) → is_open k (open_in m (own g k)) ≡ false
    → nat_lt (length (open_in m (own g k))) g.ways ≡ false
    → packet g m k row ≡ set_open (evict m (own g k)) (own g k) (with_new k row (open_in (evict m (own g k)) (own g k)))
packet_full g m k row h l = rw (h, l) refl

-- a fact about the machine after a packet, by the three cases
pub packet_cases : (g : Geometry) (m : Machine) (k : Key) (row : ArgRow) (P : Machine → Type 0)
    → (is_open k (open_in m (own g k)) ≡ true → P (set_open m (own g k) (with_row k row (open_in m (own g k)))))
    → (is_open k (open_in m (own g k)) ≡ false → nat_lt (length (open_in m (own g k))) g.ways ≡ true
    → P (set_open m (own g k) (with_new k row (open_in m (own g k)))))
    → (is_open k (open_in m (own g k)) ≡ false → nat_lt (length (open_in m (own g k))) g.ways ≡ false
    → P (set_open (evict m (own g k)) (own g k) (with_new k row (open_in (evict m (own g k)) (own g k))))) → P (packet g m k row)
packet_cases g m k row P known free full = by_test _ (λ h. subst P (sym (packet_open g m k _ h)) (known h)) (λ h. by_test _
    (λ l. subst P (sym (packet_free g m k _ h l)) (free h l)) (λ l. subst P (sym (packet_full g m k _ h l)) (full h l)))

pub in_own : {g : Geometry} {m : Machine} (k : Key) → IsTidy g m → 0 < g.buckets → own g k < length m.recent
in_own {g} k t h = let l = bucket_of-lt _ k h in let s = t.shape in omega arith

-- a key of another bucket is another key
other_bucket : (g : Geometry) (k j : Key) → (own g j ≡ own g k → ⊥) → key_eq k j ≡ false
other_bucket g k j n = by_test _ (λ e. absurd (n (sym (ap (bucket_of g.buckets) (key_eq-true k j e))))) (λ e. e)

with_row-tidy : {g : Geometry} {m : Machine} (k : Key) (row : ArgRow) → IsTidy g m → 0 < g.buckets
    → IsTidy g (set_open m (own g k) (with_row k row (open_in m (own g k))))
with_row-tidy {g} {m} k row t h =
    let epochs = open_in m (own g k) in
    set-tidy _ t (in_own k t h) (subst (λ ks. IsDistinct (k ∷ ks)) (sym (keys_of-without k _))
    (has-others_same k _, others-distinct k _ (t.distinct (own g k))))
    (λ j n. ap (λ b. b || has j (keys_of (without k epochs))) (other_bucket g k j n)
    ∙ (ap (has j) (keys_of-without k _) ∙ has-others_false k j _ (t.home (own g k) j n)))

with_new-tidy : {g : Geometry} {m : Machine} (k : Key) (row : ArgRow) → IsTidy g m → 0 < g.buckets
    → has k (keys_of (open_in m (own g k))) ≡ false → IsTidy g (set_open m (own g k) (with_new k row (open_in m (own g k))))
with_new-tidy {g} {m} k row t h a =
    let epochs = open_in m (own g k) in
    set-tidy _ t (in_own k t h) (a, t.distinct (own g k))
    (λ j n. ap (λ b. b || has j (keys_of epochs)) (other_bucket g k j n) ∙ t.home (own g k) j n)

-- what is left of the bucket after an eviction from a bucket that isn't empty
pub evict-open_same : (m : Machine) (bucket : ℕ) → nat_lt 0 (length (open_in m bucket)) ≡ true
    → open_in (evict m bucket) bucket ≡ all_but_last (open_in m bucket)
evict-open_same m bucket h = ap (λ n. open_in n bucket) (evict_is m bucket h) ∙ open_in-set_same (close_last m bucket) (in_range m h)

pub evict-open_other : (m : Machine) (bucket other : ℕ) → (other ≡ bucket → ⊥) → open_in (evict m bucket) other ≡ open_in m other
evict-open_other m bucket other n = by_test (nat_lt 0 (length (open_in m bucket)))
    (λ h. ap (λ x. open_in x other) (evict_is m bucket h) ∙ open_in-set_other (close_last m bucket) (all_but_last (open_in m bucket)) n)
    (λ h. ap (λ x. open_in x other) (evict_empty m bucket h))

evict-absent : (m : Machine) (bucket : ℕ) (k : Key) → has k (keys_of (open_in m bucket)) ≡ false
    → has k (keys_of (open_in (evict m bucket) bucket)) ≡ false
evict-absent m bucket k a = by_test _ (λ h. ap (λ es. has k (keys_of es)) (evict-open_same m _ h) ∙ (ap (has k) (keys_of-all_but_last _)
    ∙ has-front _ k _ a)) (λ h. ap (λ x. has k (keys_of (open_in x bucket))) (evict_empty m _ h) ∙ a)

absent : (k : Key) (epochs : List Epoch) → is_open k epochs ≡ false → has k (keys_of epochs) ≡ false
absent k epochs h = sym (is_open-has k _) ∙ h

pub packet-tidy : {g : Geometry} {m : Machine} (k : Key) (row : ArgRow) → IsTidy g m → 0 < g.buckets → IsTidy g (packet g m k row)
packet-tidy {g} {m} k row t h = packet_cases g m k row (IsTidy g) (λ e. with_row-tidy k row t h)
    (λ e l. with_new-tidy k row t h (absent k (open_in m (own g k)) e)) (λ e l. with_new-tidy k row (evict-tidy (own g k) t) h
    (evict-absent m (own g k) k (absent k (open_in m (own g k)) e)))

with_new-lists_other : {g : Geometry} {m : Machine} (k j : Key) (row : ArgRow) → IsTidy g m → 0 < g.buckets → key_eq k j ≡ false
    → row_lists g (set_open m (own g k) (with_new k row (open_in m (own g k)))) j ≡ row_lists g m j
with_new-lists_other {g} {m} k j row t h n = row_lists-set_alike g m j _ (in_own k t h) (λ _. lists_of-with_new_other k j _ _ n)

-- a packet of another key changes no row list of this one
pub packet-lists_other : {g : Geometry} {m : Machine} (k j : Key) (row : ArgRow) → IsTidy g m → 0 < g.buckets → key_eq k j ≡ false
    → row_lists g (packet g m k row) j ≡ row_lists g m j
packet-lists_other {g} {m} k j row t h n = packet_cases g m k row (λ x. row_lists g x j ≡ row_lists g m j)
    (λ e. row_lists-set_alike g m j (with_row k row (open_in m (own g k))) (in_own k t h)
    (λ _. lists_of-with_row_other k j row (open_in m (own g k)) n)) (λ e l. with_new-lists_other k j row t h n)
    (λ e l. with_new-lists_other k j row (evict-tidy (own g k) t) h n ∙ evict-lists (own g k) j t)

-- the row lists of an open key end in its open rows
pub row_lists-open : {g : Geometry} {m : Machine} (k : Key) → IsTidy g m → is_open k (open_in m (own g k)) ≡ true
    → row_lists g m k ≡ lists_of k m.closed ++ rows_in_epochs k (open_in m (own g k)) ∷ []
unfolding row_lists
row_lists-open {g} {m} k t e = ap (λ ls. lists_of k m.closed ++ ls) (lists_of-open k _ (t.distinct (own g k)) (sym (is_open-has k _) ∙ e))

-- a packet of an open key gives its last list one more row
pub packet-lists_open : {g : Geometry} {m : Machine} (k : Key) (row : ArgRow) → IsTidy g m → 0 < g.buckets
    → is_open k (open_in m (own g k)) ≡ true → row_lists g (packet g m k row) k ≡ onto_last row (row_lists g m k)
packet-lists_open {g} {m} k row t h e =
    let epochs = open_in m (own g k) in
    ap (λ x. row_lists g x k) (packet_open g m k _ e) ∙ (row_lists-set_own g m k _ (in_own k t h)
    ∙ (ap (λ ls. lists_of k m.closed ++ ls) (lists_of-with_row_same k _ _)
    ∙ (sym (onto_last-append _ _ _) ∙ ap (onto_last row) (sym (row_lists-open k t e)))))

with_new-lists_same : {g : Geometry} {m : Machine} (k : Key) (row : ArgRow) → IsTidy g m → 0 < g.buckets
    → has k (keys_of (open_in m (own g k))) ≡ false
    → row_lists g (set_open m (own g k) (with_new k row (open_in m (own g k)))) k ≡ row_lists g m k ++ (row ∷ []) ∷ []
unfolding row_lists
with_new-lists_same {g} {m} k row t h a =
    let epochs = open_in m (own g k) in
    let none = lists_of-absent k _ a in
    row_lists-set_own g m k _ (in_own k t h)
    ∙ (ap (λ ls. lists_of k m.closed ++ ls) (lists_of-with_new_same k _ ∙ ap (λ ls. (row ∷ []) ∷ ls) none)
    ∙ (ap (λ ls. ls ++ (row ∷ []) ∷ []) (sym (append-nil (lists_of k m.closed)) ∙ ap (λ ls. lists_of k m.closed ++ ls) (sym none))))

-- a packet of a key that isn't open begins a new list
pub packet-lists_new : {g : Geometry} {m : Machine} (k : Key) (row : ArgRow) → IsTidy g m → 0 < g.buckets
    → is_open k (open_in m (own g k)) ≡ false → row_lists g (packet g m k row) k ≡ row_lists g m k ++ (row ∷ []) ∷ []
packet-lists_new {g} {m} k row t h e = packet_cases g m k row (λ x. row_lists g x k ≡ row_lists g m k ++ (row ∷ []) ∷ [])
    (λ o. absurd (true≢false (sym o ∙ e))) (λ o l. with_new-lists_same k row t h (absent k (open_in m (own g k)) e))
    (λ o l. with_new-lists_same k row (evict-tidy (own g k) t) h (evict-absent m (own g k) k (absent k (open_in m (own g k)) e))
    ∙ ap (λ ls. ls ++ (row ∷ []) ∷ []) (evict-lists (own g k) k t))

pub packet-open_other : (g : Geometry) (m : Machine) (k : Key) (row : ArgRow) {bucket : ℕ} → (bucket ≡ own g k → ⊥)
    → open_in (packet g m k row) bucket ≡ open_in m bucket
packet-open_other g m k row {bucket} n = packet_cases g m k row (λ x. open_in x bucket ≡ open_in m bucket)
    (λ e. open_in-set_other m (with_row k row (open_in m (own g k))) n)
    (λ e l. open_in-set_other m (with_new k row (open_in m (own g k))) n)
    (λ e l. open_in-set_other (evict m (own g k)) (with_new k row (open_in (evict m (own g k)) (own g k))) n
    ∙ evict-open_other m (own g k) bucket n)

-- the first w keys, where the first w + 1 don't have the key
front_of : (w : ℕ) (k : Key) (xs : List Key) → has k (take (suc w) xs) ≡ false → take w (others k xs) ≡ take w xs
front_of w k xs h =
    let shorter : take w (take (suc w) xs) ≡ take w xs = take-take w (suc w) xs (omega arith) in
    front_new w k _ (subst (λ ks. has k ks ≡ false) shorter (has-front w k _ h))

-- the keys of the bucket after a packet
pub packet-keys : {g : Geometry} {m : Machine} {k : Key} (row : ArgRow) {w : ℕ} (xs : List Key) → IsTidy g m → 0 < g.buckets
    → g.ways ≡ suc w → keys_of (open_in m (own g k)) ≡ take (suc w) xs → IsDistinct xs
    → keys_of (open_in (packet g m k row) (own g k)) ≡ k ∷ take w (others k xs)
packet-keys {g} {m} {k} row {w} xs t h s e d =
    let b = own g k in
    let epochs = open_in m b in
    let size : length epochs ≡ length (take (suc w) xs) = sym (length-map epochs (λ (x : Epoch). x.key)) ∙ ap length e in
    let long : length (take (suc w) xs) ≡ min (suc w) (length xs) = length-take (suc w) xs in
    packet_cases g m k row (λ x. keys_of (open_in x b) ≡ k ∷ take w (others k xs)) (λ o. ap keys_of (open_in-set_same m (in_own k t h))
    ∙ (ap (λ ks. k ∷ ks) (keys_of-without k epochs ∙ (ap (others k) e ∙ front_known w k xs d
    (ap (has k) (sym e) ∙ (sym (is_open-has k epochs) ∙ o)))))) (λ o l. let few = ltb-true (length epochs) g.ways l in
    ap keys_of (open_in-set_same m (in_own k t h))
    ∙ ap (λ ks. k ∷ ks) (e ∙ (take_all (suc w) xs (omega arith) ∙ (sym (take_all w xs (omega arith))
    ∙ sym (front_of w k xs (ap (has k) (sym e) ∙ absent k epochs o)))))) (λ o l. let many = ltb-false (length epochs) g.ways l in
    let some : nat_lt 0 (length epochs) ≡ true = lt-ltb 0 (length epochs) (omega arith) in
    let t' = evict-tidy b t in
    let one : length epochs - 1 ≡ w = omega arith in
    ap keys_of (open_in-set_same (evict m b) (in_own k t' h))
    ∙ ap (λ ks. k ∷ ks) (ap keys_of (evict-open_same m b some) ∙ (keys_of-all_but_last epochs
    ∙ (ap (λ n. take n (keys_of epochs)) one ∙ (ap (take w) e ∙ (take-take w (suc w) xs (omega arith)
    ∙ sym (front_of w k xs (ap (has k) (sym e) ∙ absent k epochs o))))))))
