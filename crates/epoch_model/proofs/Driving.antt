-- What a program needs that makes the events of a trace in sequence.
use Rattle.std.proofs.Common.{◌≡◌, ◌<◌, ◌≤◌, ◌-◌, ℕ, zero, suc, true, false, List, [], ◌∷◌, length, refl, sym, ap, ap₂, ◌∙◌, subst, arith}
use Rattle.std.proofs.{Common.{length-set, length-take}, lemmas.List.{get_or_past, length-replicate}}
use Rattle.std.proofs.lemmas.Bool.{ltb-true, ltb-false, lt-ltb, ne_eqb, eq-eqb}
use Rattle.std.specs.Prelude.{nat_lt, ◌==◌, ◌+◌, Option, Some, None, slice_index_or}
use Rattle.epoch_model.specs.{Keys.{Key, ArgRow}, Timeline.IsSwept, Epochs.{Use, Geometry, is_refresh}, Machine.{Machine, Event, Packet}}
use Rattle.epoch_model.specs.Machine.{Evict, Merge, open_in, evict, packet, merge, run, evict_times, empty_bucket, empty_buckets}
use Rattle.epoch_model.specs.{Machine.{merge_times, packets_of, after_packets, end_of}, Laws.{StartsFrom, EndsBy, SameEpochs}}
use Rattle.epoch_model.specs.Driving.{EventsKeepAlike, BucketsEmptyByEvictions, PacketsFollowTheTrace, SweepsReachTheEnd}
use Rattle.epoch_model.{specs.Driving.{TakenUsesAreInTrace, Taken, uses_taken, event_of, after_packet}, proofs.KeyLists.by_test}
use Rattle.epoch_model.proofs.{MachineSteps.evict_empty, EndOfTrace.empty_buckets-empties, PacketSteps.{evict-open_same, packet_cases, own}}
use Rattle.epoch_model.proofs.Merges.{packet-alike, evict-alike, merge-alike}

-- alike machines stay alike

evict_times-alike : (times : ℕ) {m n : Machine} (bucket : ℕ) → SameEpochs m n
    → SameEpochs (evict_times times m bucket) (evict_times times n bucket)
evict_times-alike zero bucket s = s
evict_times-alike (suc times) {m} {n} bucket s = evict_times-alike times bucket (evict-alike m n bucket s)

empty_bucket-alike : (m n : Machine) (bucket : ℕ) → SameEpochs m n → SameEpochs (empty_bucket m bucket) (empty_bucket n bucket)
empty_bucket-alike m n bucket s =
    subst (λ times. SameEpochs (evict_times (length (open_in m bucket)) m bucket) (evict_times times n bucket))
    (ap (λ r. length (slice_index_or r bucket [])) s.recent) (evict_times-alike (length (open_in m bucket)) bucket s)

empty_buckets-alike : (m n : Machine) (buckets : ℕ) → SameEpochs m n → SameEpochs (empty_buckets buckets m) (empty_buckets buckets n)
empty_buckets-alike m n zero s = s
empty_buckets-alike m n (suc bucket) s = empty_bucket-alike (empty_buckets bucket m) (empty_buckets bucket n) bucket
    (empty_buckets-alike m n bucket s)

pub events_keep_alike_lem : EventsKeepAlike
events_keep_alike_lem = record {
  start = λ m. record { recent = refl; closed = refl };
  on_packet = packet-alike;
  on_evict = evict-alike;
  on_merge = merge-alike;
  on_bucket = empty_bucket-alike;
  on_sweep = empty_buckets-alike;
}

-- a bucket is emptied by evictions

evict_times-none : (times : ℕ) {m : Machine} (bucket : ℕ) → open_in m bucket ≡ [] → evict_times times m bucket ≡ m
evict_times-none zero bucket e = refl
evict_times-none (suc times) {m} bucket e =
    let same : evict m bucket ≡ m = evict_empty m bucket (ap (λ es. nat_lt 0 (length es)) e) in
    ap (λ x. evict_times times x bucket) same ∙ evict_times-none times bucket e

first_eviction : (m : Machine) (bucket : ℕ) → empty_bucket (evict m bucket) bucket ≡ empty_bucket m bucket
first_eviction m bucket = by_test (nat_lt 0 (length (open_in m bucket)))
    (λ h. let shorter = ap length (evict-open_same m _ h) ∙ length-take (length (open_in m bucket) - 1) (open_in m bucket) in
    let some = ltb-true 0 (length (open_in m bucket)) h in
    let count : suc (length (open_in (evict m bucket) bucket)) ≡ length (open_in m bucket) = omega arith in
    ap (λ times. evict_times times m bucket) count) (λ h. ap (λ x. empty_bucket x bucket) (evict_empty m bucket h))

evict-shape : (m : Machine) (bucket : ℕ) → length (evict m bucket).recent ≡ length m.recent
evict-shape m bucket = by_test (nat_lt 0 (length (open_in m bucket))) (λ h. rw h (length-set m.recent bucket _)) (λ h. rw h refl)

evict_times-shape : (times : ℕ) (m : Machine) (bucket : ℕ) → length (evict_times times m bucket).recent ≡ length m.recent
evict_times-shape zero m bucket = refl
evict_times-shape (suc times) m bucket = evict_times-shape times (evict m bucket) bucket ∙ evict-shape m bucket

empty_buckets-shape : (buckets : ℕ) (m : Machine) → length (empty_buckets buckets m).recent ≡ length m.recent
empty_buckets-shape zero m = refl
empty_buckets-shape (suc bucket) m = evict_times-shape (length (open_in (empty_buckets bucket m) bucket)) (empty_buckets bucket m) bucket
    ∙ empty_buckets-shape bucket m

sweep-empties : (m : Machine) (buckets : ℕ) → length m.recent ≡ buckets → IsSwept (empty_buckets buckets m)
sweep-empties m buckets shape bucket = by_test (nat_lt bucket buckets) (λ l. empty_buckets-empties buckets m (ltb-true bucket buckets l))
    (λ l. let past = ltb-false bucket buckets l in
    let kept = empty_buckets-shape buckets m in
    get_or_past (empty_buckets buckets m).recent bucket [] (omega arith))

pub buckets_empty_by_evictions_lem : BucketsEmptyByEvictions
buckets_empty_by_evictions_lem = record {
  start = λ m. refl;
  first = first_eviction;
  done = λ m bucket e. evict_times-none (length (open_in m bucket)) bucket e;
  next = λ m bucket. refl;
  swept = sweep-empties;
}

-- packet by packet

packet-shape : (g : Geometry) (m : Machine) (key : Key) (row : ArgRow) → length (packet g m key row).recent ≡ length m.recent
packet-shape g m key row = packet_cases g m key row (λ x. length x.recent ≡ length m.recent) (λ h. length-set m.recent (own g key) _)
    (λ h l. length-set m.recent (own g key) _) (λ h l. length-set (evict m (own g key)).recent (own g key) _ ∙ evict-shape m (own g key))

merge-shape : (m : Machine) → length (merge m).recent ≡ length m.recent
merge-shape m = by_test (nat_lt m.merged (length m.closed)) (λ h. rw h refl) (λ h. rw h refl)

run-shape : (g : Geometry) (events : List Event) (m : Machine) → length (run g events m).recent ≡ length m.recent
run-shape g [] m = refl
run-shape g (Packet key row ∷ events) m = run-shape g events (packet g m key row) ∙ packet-shape g m key row
run-shape g (Evict bucket ∷ events) m = run-shape g events (evict m bucket) ∙ evict-shape m bucket
run-shape g (Merge ∷ events) m = run-shape g events (merge m) ∙ merge-shape m

after_packet-shape : (g : Geometry) (number : ℕ) (events : List Event) (m : Machine)
    → length (after_packet g number events m).recent ≡ length m.recent
after_packet-shape g number events m = by_test (is_refresh g.refresh number)
    (λ r. rw r (empty_buckets-shape g.buckets (run g events m) ∙ run-shape g events m)) (λ r. rw r (run-shape g events m))

after_packets-next : (g : Geometry) (uses : List Use) (number : ℕ) → after_packets g uses (suc number) ≡ after_packet g (suc number)
    (packets_of (suc number) uses) (after_packets g uses number)
unfolding after_packets
after_packets-next g uses number = refl

after_packets-shape : (g : Geometry) (uses : List Use) (number : ℕ) → length (after_packets g uses number).recent ≡ g.buckets
unfolding after_packets
after_packets-shape g uses zero = length-replicate g.buckets []
after_packets-shape g uses (suc number) = after_packet-shape g (suc number) (packets_of (suc number) uses) (after_packets g uses number)
    ∙ after_packets-shape g uses number

pub packets_follow_the_trace_lem : PacketsFollowTheTrace
unfolding after_packets
packets_follow_the_trace_lem = record {
  start = λ g uses. refl;
  next = λ g uses number. refl;
  buckets = after_packets-shape;
}

-- the end of the trace

merge_times-alike : (times : ℕ) {m : Machine} → SameEpochs (merge_times times m) m
merge_times-alike zero = record { recent = refl; closed = refl }
merge_times-alike (suc times) {m} =
    let later = merge_times-alike times in
    let this = merge-alike m m (record { recent = refl; closed = refl }) in
    record { recent = later.recent ∙ this.recent; closed = later.closed ∙ this.closed }

merge_times-merged : (times : ℕ) (m : Machine) → times + m.merged ≡ length m.closed → (merge_times times m).merged ≡ length m.closed
merge_times-merged zero m e = omega arith
merge_times-merged (suc times) m e =
    let more : nat_lt m.merged (length m.closed) ≡ true = lt-ltb m.merged (length m.closed) (omega arith) in
    let this : (merge m).merged ≡ m.merged + 1 = rw more refl in
    let same : (merge m).closed ≡ m.closed = rw more refl in
    let lengths = ap length same in
    merge_times-merged times (merge m) (omega arith) ∙ lengths

evict_times-merged : (times : ℕ) (m : Machine) (bucket : ℕ) → (evict_times times m bucket).merged ≡ m.merged
evict_times-merged zero m bucket = refl
evict_times-merged (suc times) m bucket = evict_times-merged times (evict m bucket) bucket ∙ evict-merged m bucket
  where
    evict-merged : (m : Machine) (bucket : ℕ) → (evict m bucket).merged ≡ m.merged
    evict-merged m bucket = by_test (nat_lt 0 (length (open_in m bucket))) (λ h. rw h refl) (λ h. rw h refl)

empty_buckets-merged : (buckets : ℕ) (m : Machine) → (empty_buckets buckets m).merged ≡ m.merged
empty_buckets-merged zero m = refl
empty_buckets-merged (suc bucket) m = evict_times-merged (length (open_in (empty_buckets bucket m) bucket)) (empty_buckets bucket m) bucket
    ∙ empty_buckets-merged bucket m

packet-merged : (g : Geometry) (m : Machine) (key : Key) (row : ArgRow) → (packet g m key row).merged ≡ m.merged
packet-merged g m key row = packet_cases g m key row (λ x. x.merged ≡ m.merged) (λ h. refl) (λ h l. refl)
    (λ h l. evict_times-merged 1 m (own g key))

packets-merged : (g : Geometry) (number : ℕ) (uses : List Use) (m : Machine) → (run g (packets_of number uses) m).merged ≡ m.merged
packets-merged g number [] m = refl
packets-merged g number (u ∷ uses) m = by_test (u.packet == number)
    (λ e. rw e (packets-merged g number uses (packet g m u.key u.row) ∙ packet-merged g m u.key u.row))
    (λ e. rw e (packets-merged g number uses m))

after_packets-merged : (g : Geometry) (uses : List Use) (number : ℕ) → (after_packets g uses number).merged ≡ 0
unfolding after_packets
after_packets-merged g uses zero = refl
after_packets-merged g uses (suc number) =
    let m = run g (packets_of (suc number) uses) (after_packets g uses number) in
    let none : m.merged ≡ 0 = packets-merged g (suc number) uses (after_packets g uses number) ∙ after_packets-merged g uses number in
    by_test (is_refresh g.refresh (suc number)) (λ r. rw r (empty_buckets-merged g.buckets m ∙ none)) (λ r. rw r none)

-- the machine that is swept after the last packet
abbrev pub last_swept : Geometry → List Use → ℕ → Machine
last_swept g uses packets = empty_buckets g.buckets (after_packets g uses packets)

end-alike : (g : Geometry) (uses : List Use) (packets : ℕ) → SameEpochs (end_of g uses packets) (last_swept g uses packets)
unfolding end_of
end-alike g uses packets = let m = last_swept g uses packets in merge_times-alike (length m.closed - m.merged)

end-merged : (g : Geometry) (uses : List Use) (packets : ℕ) → (end_of g uses packets).merged ≡ length (end_of g uses packets).closed
unfolding end_of
end-merged g uses packets =
    let m = last_swept g uses packets in
    let none : m.merged ≡ 0 = empty_buckets-merged g.buckets (after_packets g uses packets) ∙ after_packets-merged g uses packets in
    merge_times-merged (length m.closed - m.merged) m (omega arith) ∙ ap length (sym (end-alike g uses packets).closed)

end-swept : (g : Geometry) (uses : List Use) (packets : ℕ) → IsSwept (end_of g uses packets)
end-swept g uses packets bucket = ap (λ r. slice_index_or r bucket []) (end-alike g _ _).recent
    ∙ sweep-empties _ _ (after_packets-shape g _ _) bucket

whole_end : (g : Geometry) (uses : List Use) (packets : ℕ) (m : Machine) → SameEpochs m (last_swept g uses packets)
    → m.merged ≡ length m.closed → m ≡ end_of g uses packets
whole_end g uses packets m s all =
    let end = end-alike g _ _ in
    let closed : m.closed ≡ (end_of g uses packets).closed = s.closed ∙ sym end.closed in
    let recent : m.recent ≡ (end_of g uses packets).recent = s.recent ∙ sym end.recent in
    let merged : m.merged ≡ (end_of g uses packets).merged = all ∙ (ap length closed ∙ sym (end-merged g _ _)) in
    ap₂ (λ r c. record { recent = r; closed = c; merged = m.merged }) recent closed
    ∙ ap (λ n. record { recent = (end_of g uses packets).recent; closed = (end_of g uses packets).closed; merged = n }) merged

pub sweeps_reach_the_end_lem : SweepsReachTheEnd
sweeps_reach_the_end_lem = record {
  closed = λ g uses packets m s. s.closed ∙ sym (end-alike g _ _).closed;
  whole = whole_end;
  swept = end-swept;
  merged = end-merged;
}

-- uses taken packet by packet

starts-later : {first number : ℕ} (uses : List Use) → first ≤ number → StartsFrom number uses → StartsFrom first uses
starts-later [] h s = tt
starts-later (u ∷ uses) h s = let l = s.0 in (omega arith, s.1)

taken-start : (number : ℕ) (packets : List (Option Taken)) → StartsFrom number (uses_taken number packets)
taken-start number [] = tt
taken-start number (None ∷ packets) = starts-later (uses_taken (suc number) packets) (omega arith) (taken-start (suc number) packets)
taken-start number (Some t ∷ packets) = (
  omega arith,
  starts-later (uses_taken (suc number) packets) (omega arith) (taken-start (suc number) packets),
)

taken-end : (number : ℕ) {last : ℕ} (packets : List (Option Taken)) → number + length packets ≤ suc last
    → EndsBy last (uses_taken number packets)
taken-end number [] h = tt
taken-end number (None ∷ packets) h = taken-end (suc number) packets (omega arith)
taken-end number (Some t ∷ packets) h = (omega arith, taken-end (suc number) packets (omega arith))

-- no use of later packets is of an earlier one
taken-earlier : {number wanted : ℕ} (packets : List (Option Taken)) → wanted < number → packets_of wanted (uses_taken number packets) ≡ []
taken-earlier [] h = refl
taken-earlier (None ∷ packets) h = taken-earlier packets (omega arith)
taken-earlier {number} {wanted} (Some t ∷ packets) h =
    let other : (number == wanted) ≡ false = ne_eqb number wanted (λ e. omega arith) in
    rw other (taken-earlier packets (omega arith))

taken-event : (number i : ℕ) (packets : List (Option Taken)) → i < length packets
    → packets_of (i + number) (uses_taken number packets) ≡ event_of (slice_index_or packets i None)
taken-event number i [] h = absurd (omega arith)
taken-event number zero (None ∷ packets) h = taken-earlier packets (omega arith)
taken-event number zero (Some t ∷ packets) h =
    let this : number ≡ 0 + number = omega arith in
    let same : (number == 0 + number) ≡ true = ap (λ n. number == n) (sym this) ∙ eq-eqb number number refl in
    rw same (ap (λ es. Packet t.key t.row ∷ es) (taken-earlier packets (omega arith)))
taken-event number (suc i) (None ∷ packets) h =
    let later : suc i + number ≡ i + suc number = omega arith in
    ap (λ n. packets_of n (uses_taken (suc number) packets)) later ∙ taken-event (suc number) i packets (omega arith)
taken-event number (suc i) (Some t ∷ packets) h =
    let later : suc i + number ≡ i + suc number = omega arith in
    let other : (number == suc i + number) ≡ false = ne_eqb number (suc i + number) (λ e. omega arith) in
    rw other (ap (λ n. packets_of n (uses_taken (suc number) packets)) later ∙ taken-event (suc number) i packets (omega arith))

pub taken_uses_are_in_trace_lem : TakenUsesAreInTrace
taken_uses_are_in_trace_lem = record {
  order = λ packets. record { order = taken-start 1 packets; within = taken-end 1 packets (omega arith) };
  event = λ packets i h. let number : suc i ≡ i + 1 = omega arith in ap (λ n. packets_of n (uses_taken 1 packets)) number
      ∙ taken-event 1 i packets h;
}
