-- The machine stays well formed.
use Rattle.std.proofs.Common.{◌≡◌, ℕ, suc, ◌-◌, ◌<◌, ◌≤◌, true, false, List, [], ◌∷◌, length, refl, sym, ap, ◌∙◌, subst, ⊎_elim, arith}
use Rattle.std.proofs.{Common.{length-take, length-append, le_trans}, lemmas.List.{Elements.All-from_recursion, length-map}}
use Rattle.std.{proofs.lemmas.Bool.{true≢false, false≢true, cases_eq, ltb-true, ltb-false, lt-ltb}, specs.Prelude.nat_lt}
use Rattle.std.specs.List.{AllByRecursion}
use Rattle.epoch_model.specs.{Keys.{Key, ArgRow, key_eq, bucket_of, others, distinct, has}, Epochs.Geometry}
use Rattle.epoch_model.specs.{Laws.{HasRoom, MachinesAreWellFormed}, Machine.{Epoch, Machine, Event, Packet, Evict, Merge, empty_machine}}
use Rattle.epoch_model.specs.Machine.{open_in, is_open, with_row, with_new, without, set_open, last_alone, evict, packet, merge, run}
use Rattle.epoch_model.proofs.KeyLists.{by_test, key_eq-refl, IsDistinct, absent_head, others_absent}
use Rattle.epoch_model.proofs.{EpochLists.{keys_of, is_open-has, keys_of-without}, MachineSteps.{IsTidy, open_in-set_same}}
use Rattle.epoch_model.proofs.MachineSteps.{open_in-set_other, evict_is, evict_empty, evict-tidy, merge-tidy, merge-open}
use Rattle.epoch_model.proofs.PacketSteps.{own, packet_cases, in_own, packet-tidy, evict-open_same, evict-open_other}
use Rattle.epoch_model.proofs.Following.{starts-tidy, empty_open}

record IsSmall (g : Geometry) (m : Machine) : Type 0 where
  tidy : IsTidy g m
  few : (bucket : ℕ) → length (open_in m bucket) ≤ g.ways
  merged : m.merged ≤ length m.closed

others-shorter_or_same : (k : Key) (xs : List Key) → length (others k xs) ≤ length xs
others-shorter_or_same k [] = omega arith
others-shorter_or_same k (x ∷ xs) = let rest = others-shorter_or_same k xs in by_test (key_eq x k) (λ e. rw e (omega arith))
    (λ e. rw e (omega arith))

others-shorter : (k : Key) (xs : List Key) → has k xs ≡ true → length (others k xs) < length xs
others-shorter k [] h = absurd (false≢true h)
others-shorter k (x ∷ xs) h = by_test (key_eq x k) (λ e. let rest = others-shorter_or_same k xs in rw e (omega arith))
    (λ e. let rest = others-shorter k xs (rw e at h) in rw e (omega arith))

with_row-few : (k : Key) (row : ArgRow) (epochs : List Epoch) → is_open k epochs ≡ true → length (with_row k row epochs) ≤ length epochs
with_row-few k row epochs h =
    let fewer = others-shorter k (keys_of epochs) (sym (is_open-has k epochs) ∙ h) in
    let whole = length-map epochs (λ (x : Epoch). x.key) in
    let rest = length-map (without k epochs) (λ (x : Epoch). x.key) in
    let same = ap length (keys_of-without k epochs) in
    omega arith

set-few : (m : Machine) {n bucket : ℕ} (epochs : List Epoch) → bucket < length m.recent → length epochs ≤ n
    → ((b : ℕ) → length (open_in m b) ≤ n) → (b : ℕ) → length (open_in (set_open m bucket epochs) b) ≤ n
set-few m {n} {bucket} epochs l s h b = ⊎_elim (λ (e : b ≡ bucket). subst (λ x. length (open_in (set_open m bucket epochs) x) ≤ n) (sym e)
    (subst (λ es. length es ≤ n) (sym (open_in-set_same m l)) s))
    (λ (d : b ≡ bucket → ⊥). subst (λ es. length es ≤ n) (sym (open_in-set_other m _ d)) (h b)) (cases_eq b bucket)

evict-fewer : (m : Machine) (bucket b : ℕ) → length (open_in (evict m bucket) b) ≤ length (open_in m b)
evict-fewer m bucket b = ⊎_elim (λ (e : b ≡ bucket). subst (λ x. length (open_in (evict m bucket) x) ≤ length (open_in m x)) (sym e)
    (by_test _
    (λ h. let l = ap length (evict-open_same m _ h) ∙ length-take (length (open_in m bucket) - 1) (open_in m bucket) in omega arith)
    (λ h. let l = ap (λ x. length (open_in x bucket)) (evict_empty m _ h) in omega arith)))
    (λ (d : b ≡ bucket → ⊥). let l = ap length (evict-open_other m _ b d) in omega arith) (cases_eq b bucket)

evict-merged : (m : Machine) (bucket : ℕ) → m.merged ≤ length m.closed → (evict m bucket).merged ≤ length (evict m bucket).closed
evict-merged m bucket h = by_test _ (λ e. subst (λ x. x.merged ≤ length x.closed) (sym (evict_is m _ e))
    (let l = length-append m.closed (last_alone (open_in m bucket)) in omega arith))
    (λ e. subst (λ x. x.merged ≤ length x.closed) (sym (evict_empty m _ e)) h)

evict-small : {g : Geometry} {m : Machine} (bucket : ℕ) → IsSmall g m → IsSmall g (evict m bucket)
evict-small {m} bucket s = record {
  tidy = evict-tidy _ s.tidy;
  few = λ b. le_trans (evict-fewer m _ b) (s.few b);
  merged = evict-merged m _ s.merged;
}

packet-small : {g : Geometry} {m : Machine} (k : Key) (row : ArgRow) → HasRoom g → IsSmall g m → IsSmall g (packet g m k row)
packet-small {g} {m} k row room s =
    let here = in_own k s.tidy room.0 in
    record {
      tidy = packet-tidy k row s.tidy room.0;
      few = packet_cases g m k row (λ x. (b : ℕ) → length (open_in x b) ≤ g.ways)
          (λ e. set-few m (with_row k row (open_in m (own g k))) here
          (le_trans (with_row-few k row (open_in m (own g k)) e) (s.few (own g k))) s.few)
          (λ e l. set-few m (with_new k row (open_in m (own g k))) here
          (let h = ltb-true (length (open_in m (own g k))) g.ways l in omega arith) s.few)
          (λ e l. set-few (evict m (own g k)) (with_new k row (open_in (evict m (own g k)) (own g k)))
          (in_own k (evict-tidy (own g k) s.tidy) room.0)
          (shorter m (own g k) g.ways (let h = ltb-false (length (open_in m (own g k))) g.ways l in let w = room.1 in omega arith)
          (s.few (own g k))) (evict-small (own g k) s).few);
      merged = packet_cases g m k row (λ x. x.merged ≤ length x.closed) (λ e. s.merged) (λ e l. s.merged)
          (λ e l. (evict-small (own g k) s).merged);
    }
  where
    shorter : (m : Machine) (bucket n : ℕ) → 0 < length (open_in m bucket) → length (open_in m bucket) ≤ n
        → suc (length (open_in (evict m bucket) bucket)) ≤ n
    shorter m bucket n h l =
        let same = ap length (evict-open_same m bucket (lt-ltb 0 (length (open_in m bucket)) h))
        ∙ length-take (length (open_in m bucket) - 1) (open_in m bucket) in omega arith

merge-small : {g : Geometry} {m : Machine} → IsSmall g m → IsSmall g (merge m)
merge-small {g} {m} s = record {
  tidy = merge-tidy s.tidy;
  few = λ b. subst (λ es. length es ≤ g.ways) (sym (merge-open m b)) (s.few b);
  merged = by_test _ (λ h. let l = ltb-true m.merged (length m.closed) h in rw h (omega arith)) (λ h. rw h s.merged);
}

run-small : {g : Geometry} (events : List Event) {m : Machine} → HasRoom g → IsSmall g m → IsSmall g (run g events m)
run-small [] room s = s
run-small (Packet k row ∷ events) room s = run-small events room (packet-small k row room s)
run-small (Evict bucket ∷ events) room s = run-small events room (evict-small bucket s)
run-small (Merge ∷ events) room s = run-small events room (merge-small s)

once_lem : (xs : List Key) → IsDistinct xs → distinct xs ≡ xs
once_lem [] d = refl
once_lem (x ∷ xs) d = ap (λ ks. x ∷ ks) (ap (others x) (once_lem xs d.1) ∙ others_absent x xs d.0)

-- where each other bucket's keys are absent, each epoch has a key of this one
home_lem : (buckets : ℕ) {bucket : ℕ} (epochs : List Epoch) → ((k : Key) → (bucket_of buckets k ≡ bucket → ⊥)
    → has k (keys_of epochs) ≡ false) → AllByRecursion (λ epoch. bucket_of buckets epoch.key ≡ bucket) epochs
home_lem buckets [] h = tt
home_lem buckets {bucket} (e ∷ es) h = (
  ⊎_elim (λ (p : bucket_of buckets e.key ≡ bucket). p) (λ (n : bucket_of buckets e.key ≡ bucket → ⊥). absurd (true≢false
      (sym (key_eq-refl e.key) ∙ (absent_head e.key e.key (keys_of es) (h e.key n)).0))) (cases_eq (bucket_of buckets e.key) bucket),
  home_lem buckets es (λ k n. (absent_head k e.key (keys_of es) (h k n)).1),
)

pub machines_are_well_formed_lem : MachinesAreWellFormed
machines_are_well_formed_lem g events room =
    let m = run g events (empty_machine g) in
    let s = run-small events room (record {
      tidy = starts-tidy g;
      few = λ b. subst (λ es. length es ≤ g.ways) (sym (empty_open g b)) (omega arith);
      merged = omega arith;
    }) in
    record {
      buckets = s.tidy.shape;
      few = s.few;
      once = λ b. once_lem (keys_of (open_in m b)) (s.tidy.distinct b);
      home = λ b. All-from_recursion (λ epoch. bucket_of g.buckets epoch.key ≡ b) (open_in m b)
          (home_lem g.buckets (open_in m b) (s.tidy.home b));
      merged = s.merged;
    }
