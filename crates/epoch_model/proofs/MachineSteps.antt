-- What each event does to the row lists of a key, and to the keys of a bucket.
use Rattle.std.proofs.Common.{◌≡◌, ℕ, ◌-◌, ◌<◌, true, false, List, [], ◌++◌, length, take, refl, sym, ap, ◌∙◌, subst, ⊎_elim, arith}
use Rattle.std.proofs.{Common.{append-nil, append_assoc, length-set}, lemmas.Bool.{cases_eq, ltb-true, ltb-false}}
use Rattle.std.{proofs.lemmas.List.{take-map, get_or-set_same, get_or-set_other, get_or_past}, specs.Prelude.nat_lt}
use Rattle.epoch_model.specs.{Keys.{Key, bucket_of, has}, Epochs.Geometry}
use Rattle.epoch_model.specs.Machine.{Epoch, Machine, open_in, all_but_last, last_alone, set_open, evict, merge, lists_of, row_lists}
use Rattle.epoch_model.proofs.KeyLists.{by_test, IsDistinct}
use Rattle.epoch_model.proofs.EpochLists.{keys_of, lists_of-append, lists_of-closing, lists_of-last_absent, has-front, distinct-take}

-- each bucket has distinct keys, all of that bucket
pub record IsTidy (g : Geometry) (m : Machine) : Type 0 where
  pub shape : length m.recent ≡ g.buckets
  pub distinct : (bucket : ℕ) → IsDistinct (keys_of (open_in m bucket))
  pub home : (bucket : ℕ) (k : Key) → (bucket_of g.buckets k ≡ bucket → ⊥) → has k (keys_of (open_in m bucket)) ≡ false

pub bucket_of-lt : (buckets : ℕ) (k : Key) → 0 < buckets → bucket_of buckets k < buckets
unfolding bucket_of
bucket_of-lt buckets k h = omega arith

pub open_in-set_same : (m : Machine) {bucket : ℕ} {epochs : List Epoch} → bucket < length m.recent
    → open_in (set_open m bucket epochs) bucket ≡ epochs
open_in-set_same m {bucket} {epochs} h = get_or-set_same m.recent bucket epochs [] h

pub open_in-set_other : (m : Machine) {bucket other : ℕ} (epochs : List Epoch) → (other ≡ bucket → ⊥)
    → open_in (set_open m bucket epochs) other ≡ open_in m other
open_in-set_other m {bucket} {other} epochs h = get_or-set_other m.recent bucket other epochs [] h

pub set-tidy : {g : Geometry} {m : Machine} {bucket : ℕ} (epochs : List Epoch) → IsTidy g m → bucket < length m.recent
    → IsDistinct (keys_of epochs)
    → ((k : Key) → (bucket_of g.buckets k ≡ bucket → ⊥) → has k (keys_of epochs) ≡ false) → IsTidy g (set_open m bucket epochs)
set-tidy {m} {bucket} epochs t l d h = record {
  shape = length-set m.recent bucket epochs ∙ t.shape;
  distinct = λ b. ⊎_elim (λ (e : b ≡ bucket). subst (λ x. IsDistinct (keys_of (open_in (set_open m bucket epochs) x))) (sym e)
      (subst (λ es. IsDistinct (keys_of es)) (sym (open_in-set_same m l)) d))
      (λ (n : b ≡ bucket → ⊥). subst (λ es. IsDistinct (keys_of es)) (sym (open_in-set_other m _ n)) (t.distinct b)) (cases_eq b bucket);
  home = λ b k n. ⊎_elim (λ (e : b ≡ bucket). subst (λ x. has k (keys_of (open_in (set_open m bucket epochs) x)) ≡ false) (sym e)
      (ap (λ es. has k (keys_of es)) (open_in-set_same m l) ∙ h k (λ p. n (p ∙ sym e))))
      (λ (o : b ≡ bucket → ⊥). ap (λ es. has k (keys_of es)) (open_in-set_other m _ o) ∙ t.home b k n) (cases_eq b bucket);
}

-- the row lists after a write to the key's own bucket, and to another
pub row_lists-set_own : (g : Geometry) (m : Machine) (k : Key) (epochs : List Epoch) → bucket_of g.buckets k < length m.recent
    → row_lists g (set_open m (bucket_of g.buckets k) epochs) k ≡ lists_of k m.closed ++ lists_of k epochs
unfolding row_lists
row_lists-set_own g m k epochs l = ap (λ es. lists_of k m.closed ++ lists_of k es) (open_in-set_same m l)

pub row_lists-set_other : (g : Geometry) (m : Machine) {bucket : ℕ} (k : Key) (epochs : List Epoch) → (bucket_of g.buckets k ≡ bucket → ⊥)
    → row_lists g (set_open m bucket epochs) k ≡ row_lists g m k
unfolding row_lists
row_lists-set_other g m k epochs n = ap (λ es. lists_of k m.closed ++ lists_of k es) (open_in-set_other m _ n)

pub row_lists-set_alike : (g : Geometry) (m : Machine) {bucket : ℕ} (k : Key) (epochs : List Epoch) → bucket < length m.recent
    → (bucket_of g.buckets k ≡ bucket → lists_of k epochs ≡ lists_of k (open_in m bucket))
    → row_lists g (set_open m bucket epochs) k ≡ row_lists g m k
unfolding row_lists
row_lists-set_alike g m {bucket} k epochs l h = ⊎_elim (λ (e : bucket_of g.buckets k ≡ bucket).
    let l' : bucket_of g.buckets k < length m.recent = subst (λ b. b < length m.recent) (sym e) l in
    subst (λ b. row_lists g (set_open m b epochs) k ≡ row_lists g m k) e
    (row_lists-set_own g m k _ l' ∙ ap (λ ls. lists_of k m.closed ++ ls) (h e ∙ ap (λ b. lists_of k (open_in m b)) (sym e))))
    (row_lists-set_other g m k _) (cases_eq (bucket_of g.buckets k) bucket)

-- an open epoch is in a bucket of the machine
pub in_range : (m : Machine) {bucket : ℕ} → nat_lt 0 (length (open_in m bucket)) ≡ true → bucket < length m.recent
in_range m {bucket} h = by_test (nat_lt bucket (length m.recent)) (λ t. ltb-true bucket (length m.recent) t)
    (λ f. let past = ltb-false bucket (length m.recent) f in
    let none : length (open_in m bucket) ≡ 0 = ap length (get_or_past m.recent bucket [] past) in
    let some = ltb-true 0 (length (open_in m bucket)) h in
    absurd (omega arith))

abbrev pub close_last : Machine → ℕ → Machine
close_last m bucket = record { recent = m.recent; closed = m.closed ++ last_alone (open_in m bucket); merged = m.merged }

pub evict_is : (m : Machine) (bucket : ℕ) → nat_lt 0 (length (open_in m bucket)) ≡ true
    → evict m bucket ≡ set_open (close_last m bucket) bucket (all_but_last (open_in m bucket))
evict_is m bucket h = rw h refl

pub evict_empty : (m : Machine) (bucket : ℕ) → nat_lt 0 (length (open_in m bucket)) ≡ false → evict m bucket ≡ m
evict_empty m bucket h = rw h refl

pub keys_of-all_but_last : (epochs : List Epoch) → keys_of (all_but_last epochs) ≡ take (length epochs - 1) (keys_of epochs)
keys_of-all_but_last epochs = sym (take-map (λ epoch. epoch.key) (length epochs - 1) epochs)

close_last-tidy : {g : Geometry} {m : Machine} (bucket : ℕ) → IsTidy g m → IsTidy g (close_last m bucket)
close_last-tidy bucket t = record { shape = t.shape; distinct = t.distinct; home = t.home }

pub evict-tidy : {g : Geometry} {m : Machine} (bucket : ℕ) → IsTidy g m → IsTidy g (evict m bucket)
evict-tidy {g} {m} bucket t = by_test (nat_lt 0 (length (open_in m bucket))) (λ h. subst (IsTidy g) (sym (evict_is m _ h))
    (set-tidy _ (close_last-tidy _ t) (in_range m h) (subst IsDistinct (sym (keys_of-all_but_last _)) (distinct-take _
    _ (t.distinct bucket))) (λ k n. ap (has k) (keys_of-all_but_last _) ∙ has-front _ k _
    (t.home bucket k n)))) (λ h. subst (IsTidy g) (sym (evict_empty m _ h)) t)

-- eviction moves a row list and keeps their order
evict_some-lists : {g : Geometry} {m : Machine} {bucket : ℕ} (k : Key) → IsTidy g m → bucket < length m.recent
    → row_lists g (set_open (close_last m bucket) bucket (all_but_last (open_in m bucket))) k ≡ row_lists g m k
unfolding row_lists
evict_some-lists {g} {m} {bucket} k t l =
    let epochs = open_in m bucket in
    ⊎_elim (λ (e : bucket_of g.buckets k ≡ bucket).
    let l' : bucket_of g.buckets k < length m.recent = subst (λ b. b < length m.recent) (sym e) l in
    subst (λ b. row_lists g (set_open (close_last m b) b (all_but_last (open_in m b))) k ≡ row_lists g m k) e
    (let own = open_in m (bucket_of g.buckets k) in
    row_lists-set_own g (close_last m (bucket_of g.buckets k)) k (all_but_last own) l'
    ∙ (ap (λ ls. ls ++ lists_of k (all_but_last own)) (lists_of-append k m.closed (last_alone own))
    ∙ (append_assoc (lists_of k m.closed) (lists_of k (last_alone own)) (lists_of k (all_but_last own))
    ∙ ap (λ ls. lists_of k m.closed ++ ls) (lists_of-closing k own (t.distinct (bucket_of g.buckets k)))))))
    (λ (n : bucket_of g.buckets k ≡ bucket → ⊥). row_lists-set_other g (close_last m bucket) k (all_but_last epochs) n
    ∙ ap (λ ls. ls ++ lists_of k (open_in m (bucket_of g.buckets k)))
    (lists_of-append k m.closed (last_alone epochs) ∙ (ap (λ ls. lists_of k m.closed ++ ls)
    (lists_of-last_absent k epochs (t.home bucket k n)) ∙ append-nil (lists_of k m.closed)))) (cases_eq (bucket_of g.buckets k) bucket)

pub evict-lists : {g : Geometry} {m : Machine} (bucket : ℕ) (k : Key) → IsTidy g m → row_lists g (evict m bucket) k ≡ row_lists g m k
evict-lists {g} {m} bucket k t = by_test (nat_lt 0 (length (open_in m bucket)))
    (λ h. ap (λ n. row_lists g n k) (evict_is m _ h) ∙ evict_some-lists k t (in_range m h))
    (λ h. ap (λ n. row_lists g n k) (evict_empty m _ h))

pub merge-tidy : {g : Geometry} {m : Machine} → IsTidy g m → IsTidy g (merge m)
merge-tidy {m} t = by_test (nat_lt m.merged (length m.closed))
    (λ h. rw h (record { shape = t.shape; distinct = t.distinct; home = t.home })) (λ h. rw h t)

pub merge-open : (m : Machine) (bucket : ℕ) → open_in (merge m) bucket ≡ open_in m bucket
merge-open m bucket = by_test (nat_lt m.merged (length m.closed)) (λ h. rw h refl) (λ h. rw h refl)

pub merge-lists : (g : Geometry) (m : Machine) (k : Key) → row_lists g (merge m) k ≡ row_lists g m k
unfolding row_lists
merge-lists g m k = by_test (nat_lt m.merged (length m.closed)) (λ h. rw h refl) (λ h. rw h refl)
