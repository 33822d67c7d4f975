-- The machine follows the uses: its row lists are the epochs so far, and its buckets have the last few distinct keys.
use Rattle.std.proofs.Common.{◌≡◌, ℕ, zero, suc, ◌-◌, ◌<◌, ◌≤◌, true, false, List, [], ◌∷◌, ◌++◌, take, replicate, refl, sym, ap, ◌∙◌}
use Rattle.std.proofs.Common.{subst, ⊎_elim, arith, take_all}
use Rattle.std.proofs.lemmas.Bool.{cases_eq, ltb-true, ltb-false, lt-leb, eq-eqb, ne_eqb, and_right}
use Rattle.std.{proofs.lemmas.List.{get_or-replicate, get_or_past, length-replicate}, specs.Prelude.{nat_lt, nat_le, ◌==◌}}
use Rattle.epoch_model.specs.Keys.{Key, ArgRow, key_eq, bucket_of, distinct, has}
use Rattle.epoch_model.specs.Epochs.{Use, Geometry, refresh_between, goes_on, onto_last, epochs_back}
use Rattle.epoch_model.specs.{Machine.{Epoch, Machine, empty_machine, open_in, is_open, packet, lists_of, row_lists}, Laws.HasRoom}
use Rattle.epoch_model.proofs.KeyLists.{by_test, key_eq-true, key_eq-refl, IsDistinct, distinct-distinct}
use Rattle.epoch_model.proofs.StackDistance.{is_fresh, fresh_keys, recent_keys, AtMost, IsDescending, hit-goes_on}
use Rattle.epoch_model.proofs.{EpochLists.{keys_of, is_open-has}, MachineSteps.{IsTidy, bucket_of-lt}, PacketSteps.{own, packet-tidy}}
use Rattle.epoch_model.proofs.PacketSteps.{packet-lists_other, packet-lists_open, packet-lists_new, packet-open_other, packet-keys}

-- the row lists are the epochs of the uses, which come from the latest one back
pub record Keeps (g : Geometry) (earlier : List Use) (m : Machine) : Type 0 where
  pub tidy : IsTidy g m
  pub lists : (k : Key) → row_lists g m k ≡ epochs_back g earlier k

pub record Follows (g : Geometry) (now : ℕ) (earlier : List Use) (m : Machine) : Type 0 where
  pub keeps : Keeps g earlier m
  pub recent : (bucket : ℕ) → bucket < g.buckets → keys_of (open_in m bucket) ≡ recent_keys g now bucket earlier
  pub order : IsDescending earlier
  pub latest : AtMost now earlier

pub take_nothing : (n : ℕ) → take n (distinct []) ≡ []
take_nothing n = take_all n [] (omega arith)

pub empty_open : (g : Geometry) (bucket : ℕ) → open_in (empty_machine g) bucket ≡ []
empty_open g bucket = by_test _ (λ h. get_or-replicate g.buckets bucket [] [] (ltb-true bucket g.buckets h))
    (λ h. let past = ltb-false bucket g.buckets h in
    let long = length-replicate {A = List Epoch} g.buckets [] in
    get_or_past (replicate g.buckets []) bucket [] (omega arith))

pub starts-tidy : (g : Geometry) → IsTidy g (empty_machine g)
starts-tidy g = record {
  shape = length-replicate g.buckets [];
  distinct = λ bucket. subst (λ es. IsDistinct (keys_of es)) (sym (empty_open g _)) tt;
  home = λ bucket k n. ap (λ es. has k (keys_of es)) (empty_open g _);
}

pub starts-lists : (g : Geometry) (k : Key) → row_lists g (empty_machine g) k ≡ []
unfolding row_lists
starts-lists g k = ap (lists_of k) (empty_open g _)

pub starts : {g : Geometry} → Follows g 1 [] (empty_machine g)
starts {g} = record {
  keeps = record { tidy = starts-tidy g; lists = starts-lists g };
  recent = λ bucket l. ap keys_of (empty_open g _) ∙ sym (take_nothing _);
  order = tt;
  latest = tt;
}

pub refresh_between-none : (refresh : ℕ) {p : ℕ} (now : ℕ) → now ≤ p → refresh_between refresh p now ≡ false
refresh_between-none refresh zero l = refl
refresh_between-none refresh {p} (suc n) l = let h : nat_le p n ≡ false =
    lt-leb p n (omega arith) in rw h (refresh_between-none _ n (omega arith))

packet-lists_self : {g : Geometry} {now : ℕ} {earlier : List Use} {m : Machine} (k : Key) (row : ArgRow) → HasRoom g
    → Follows g now earlier m → row_lists g (packet g m k row) k ≡ epochs_back g (record { packet = now; key = k; row = row } ∷ earlier) k
packet-lists_self {g} {now} {earlier} {m} k row room f =
    let this : Use = record { packet = now; key = k; row = row } in
    let open_here : is_open k (open_in m (own g k)) ≡ goes_on g earlier this =
    is_open-has k (open_in m (own g k)) ∙ (ap (has k) (f.recent (own g k) (bucket_of-lt g.buckets k room.0))
    ∙ hit-goes_on g now k row earlier f.order) in
    let own_use : key_eq k k ≡ true = key_eq-refl k in
    by_test (goes_on g earlier this)
    (λ h. rw (own_use, h) (packet-lists_open k row f.keeps.tidy room.0 (open_here ∙ h) ∙ ap (onto_last row) (f.keeps.lists k)))
    (λ h. rw (own_use, h) (packet-lists_new k row f.keeps.tidy room.0 (open_here ∙ h) ∙ ap (λ ls. ls ++ (row ∷ []) ∷ []) (f.keeps.lists k)))

pub follows-packet : {g : Geometry} {now : ℕ} {earlier : List Use} {m : Machine} {k : Key} {row : ArgRow} → HasRoom g
    → Follows g now earlier m → Follows g now (record { packet = now; key = k; row = row } ∷ earlier) (packet g m k row)
follows-packet {g} {now} {earlier} {m} {k} {row} room f =
    let this : Use = record { packet = now; key = k; row = row } in
    record {
      keeps = record {
        tidy = packet-tidy k row f.keeps.tidy room.0;
        lists = λ j. by_test (key_eq k j)
            (λ e. subst (λ x. row_lists g (packet g m k row) x ≡ epochs_back g (this ∷ earlier) x) (key_eq-true k j e)
            (packet-lists_self k row room f)) (λ e. rw e (packet-lists_other k j row f.keeps.tidy room.0 e ∙ f.keeps.lists j));
      };
      recent = λ bucket l. ⊎_elim
          (λ (e : bucket ≡ own g k). subst (λ b. keys_of (open_in (packet g m k row) b) ≡ recent_keys g now b (this ∷ earlier)) (sym e)
          (keys_here (g.ways - 1) (let w = room.1 in omega arith) (subst (λ b. b < g.buckets) e l))) (λ (n : bucket ≡ own g k → ⊥).
          let away : (bucket_of g.buckets k == bucket) ≡ false = ne_eqb (bucket_of g.buckets k) bucket (λ p. n (sym p)) in
          ap keys_of (packet-open_other g m k row n) ∙ (f.recent bucket l ∙ rw (away, and_right (is_fresh g now this) false refl) refl))
          (cases_eq bucket (own g k));
      order = (f.latest, f.order);
      latest = (omega arith, f.latest);
    }
  where
    keys_here : (w : ℕ) → g.ways ≡ suc w → own g k < g.buckets → keys_of (open_in (packet g m k row) (own g k)) ≡ recent_keys g now
        (own g k) (record { packet = now; key = k; row = row } ∷ earlier)
    keys_here w s l =
        let xs = distinct (fresh_keys g now (own g k) earlier) in
        let fresh : refresh_between g.refresh now now ≡ false = refresh_between-none g.refresh now (omega arith) in
        let here : (bucket_of g.buckets k == own g k) ≡ true = eq-eqb (bucket_of g.buckets k) (own g k) refl in
        packet-keys row xs f.keeps.tidy room.0 s (f.recent (own g k) l ∙ ap (λ n. take n xs) s)
        (distinct-distinct (fresh_keys g now (own g k) earlier)) ∙ rw (s, fresh, here) refl
