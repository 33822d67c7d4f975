-- Where merges fall makes no difference to epochs.
use Rattle.std.{proofs.Common.{◌≡◌, ℕ, [], ◌∷◌, length, refl, sym, ap, ap₂, ◌∙◌}, specs.Prelude.nat_lt}
use Rattle.epoch_model.specs.{Keys.{Key, ArgRow, bucket_of}, Epochs.Geometry, Laws.{SameEpochs, MergesDecideNothing}}
use Rattle.epoch_model.specs.Machine.{Machine, Packet, Evict, Merge, open_in, is_open, set_open, with_new, evict, packet, merge}
use Rattle.epoch_model.proofs.KeyLists.{by_test}

-- the machine with another number of merged epochs
abbrev pub with_merged : ℕ → Machine → Machine
with_merged n m = record { recent = m.recent; closed = m.closed; merged = n }

same_by : {m n : Machine} → with_merged 0 m ≡ with_merged 0 n → SameEpochs m n
same_by h = record { recent = ap (λ x. x.recent) h; closed = ap (λ x. x.closed) h }

same_machine : {m n : Machine} → SameEpochs m n → with_merged 0 m ≡ with_merged 0 n
same_machine s = ap₂ (λ r c. record { recent = r; closed = c; merged = 0 }) s.recent s.closed

evict_kept : (m : Machine) (bucket : ℕ) → with_merged 0 (evict m bucket) ≡ with_merged 0 (evict (with_merged 0 m) bucket)
evict_kept m bucket = by_test (nat_lt 0 (length (open_in m bucket))) (λ h. rw h refl) (λ h. rw h refl)

packet_kept : (g : Geometry) (m : Machine) (key : Key) (row : ArgRow) → with_merged 0 (packet g m key row) ≡ with_merged 0
    (packet g (with_merged 0 m) key row)
packet_kept g m key row =
    let bucket = bucket_of g.buckets key in
    by_test (is_open key (open_in m bucket)) (λ h. rw h refl) (λ h. by_test (nat_lt (length (open_in m bucket)) g.ways)
    (λ l. rw (h, l) refl)
    (λ l. rw (h, l) (ap (λ x. with_merged 0 (set_open x bucket (with_new key row (open_in x bucket)))) (evict_kept m _))))

pub packet-alike : (g : Geometry) (m n : Machine) (key : Key) (row : ArgRow) → SameEpochs m n
    → SameEpochs (packet g m key row) (packet g n key row)
packet-alike g m n key row s = same_by (packet_kept g m _ _
    ∙ (ap (λ x. with_merged 0 (packet g x key row)) (same_machine s) ∙ sym (packet_kept g n _ _)))

pub evict-alike : (m n : Machine) (bucket : ℕ) → SameEpochs m n → SameEpochs (evict m bucket) (evict n bucket)
evict-alike m n bucket s = same_by (evict_kept m _ ∙ (ap (λ x. with_merged 0 (evict x bucket)) (same_machine s) ∙ sym (evict_kept n _)))

pub merge-alike : (m n : Machine) → SameEpochs m n → SameEpochs (merge m) n
merge-alike m n s = by_test (nat_lt m.merged (length m.closed)) (λ h. rw h (record { recent = s.recent; closed = s.closed })) (λ h. rw h s)

pub merges_decide_nothing_lem : MergesDecideNothing
merges_decide_nothing_lem g [] m n s = s
merges_decide_nothing_lem g (Packet key row ∷ events) m n s = merges_decide_nothing_lem g events (packet g m key row) (packet g n key row)
    (packet-alike g m n _ _ s)
merges_decide_nothing_lem g (Evict bucket ∷ events) m n s = merges_decide_nothing_lem g events (evict m bucket) (evict n bucket)
    (evict-alike m n _ s)
merges_decide_nothing_lem g (Merge ∷ events) m n s = merges_decide_nothing_lem g events (merge m) n (merge-alike m n s)
