-- The events of a sweep lead a machine to one whose buckets were emptied.
use Rattle.std.proofs.Common.{◌≡◌, ℕ, zero, suc, ◌+◌, ◌-◌, ◌<◌, true, false, List, [], ◌∷◌, ◌++◌, length, map, get_or, refl, sym, ap, ◌∙◌}
use Rattle.std.{proofs.{Common.{arith, length-take-le}, lemmas.Bool.{lt-ltb, le-ltb}}, specs.Prelude.nat_lt}
use Rattle.epoch_model.specs.{Driving.{EventsKeepAlike, BucketsEmptyByEvictions}, Epochs.Geometry, Laws.SameEpochs}
use Rattle.epoch_model.specs.Machine.{Epoch, Machine, Event, Evict, Merge, empty_bucket, empty_buckets, evict, open_in, run}
use Rattle.epoch_model.proofs.{MachineSteps.evict_empty, PacketSteps.{evict-open_same, evict-open_other}}
use Rattle.bucket_cache.specs.{Buckets.Pair, Caches.Cache}
use Rattle.switch_core.specs.Lanes.{CacheStands, Standing}
use Rattle.switch_core.specs.Upkeeps.{counts_of, left_waiting, room_events, sweep_events, sweep_from, tries}
use Rattle.switch_core.proofs.Standing.{by_test, pairs_long}
use Rattle.evict_pipe.specs.Pipes.{Pipe}

pub alike_along : (m n o : Machine) → SameEpochs m n → SameEpochs n o → SameEpochs m o
alike_along m n o a b = record { recent = a.recent ∙ b.recent; closed = a.closed ∙ b.closed }

run_on : (g : Geometry) (xs ys : List Event) (m : Machine) → run g (xs ++ ys) m ≡ run g ys (run g xs m)
run_on g [] ys m = refl
run_on g (x ∷ xs) ys m = run_on g xs ys _

-- a bucket after an eviction from it
one_fewer : (m : Machine) (bucket fewer : ℕ) → length (open_in m bucket) ≡ suc fewer → length (open_in (evict m bucket) bucket) ≡ fewer
one_fewer m bucket fewer many =
    let some = lt-ltb 0 (length (open_in m bucket)) (omega arith) in
    ap length (evict-open_same m _ some) ∙
    (length-take-le (length (open_in m bucket) - 1) (open_in m bucket) (omega arith) ∙
    (let e : length (open_in m bucket) - 1 ≡ fewer = omega arith in e))

none_evicted : (m : Machine) (bucket : ℕ) → length (open_in m bucket) ≡ 0 → evict m bucket ≡ m
none_evicted m bucket none = evict_empty m _ (le-ltb 0 (length (open_in m bucket)) (omega arith))

no_epochs : (epochs : List Epoch) → length epochs ≡ 0 → epochs ≡ []
no_epochs [] e = refl
no_epochs (x ∷ epochs) e = absurd (omega arith)

module _ (alike : EventsKeepAlike) (emptied : BucketsEmptyByEvictions) (g : Geometry) (m : Machine) (places : ℕ) where
  -- a merge where the pipe is full changes no epoch
  room_alike : (waiting : ℕ) (n : Machine) → SameEpochs (run g (room_events places waiting) n) n
  room_alike waiting n = by_test (nat_lt waiting places)
      (λ t. rw (none t) (alike.start n))
      (λ t. rw (one t) (alike.on_merge n n (alike.start n)))
    where
      none : nat_lt waiting places ≡ true → room_events places waiting ≡ []
      none t = rw t

      one : nat_lt waiting places ≡ false → room_events places waiting ≡ Merge ∷ []
      one t = rw t

  -- the buckets from this one on have as many open epochs as these numbers say
  abbrev Counts : ℕ → List ℕ → Machine → Type 0
  Counts bucket counts n = (i : ℕ) → i < length counts → length (open_in n (bucket + i)) ≡ get_or counts i 0

  -- and so they do in an alike machine
  counts_alike : (bucket : ℕ) (counts : List ℕ) (n o : Machine) → SameEpochs n o → Counts bucket counts o → Counts bucket counts n
  counts_alike bucket counts n o same c i h = ap (λ r. length (get_or r (bucket + i) [])) same.recent ∙ c i h

  -- the machine after an eviction with room for its record
  after_try : ℕ → ℕ → Machine → Machine
  after_try bucket waiting n = evict (run g (room_events places waiting) n) bucket

  try_alike : (bucket waiting : ℕ) (n : Machine) → SameEpochs (after_try bucket waiting n) (evict n bucket)
  unfolding after_try
  try_alike bucket waiting n = alike.on_evict (run g (room_events places waiting) n) n bucket (room_alike waiting n)

  try_runs : (bucket waiting : ℕ) (more : List Event) (n : Machine)
      → run g (room_events places waiting ++ Evict bucket ∷ more) n ≡ run g more (after_try bucket waiting n)
  unfolding after_try
  try_runs bucket waiting more n = run_on g (room_events places waiting) (Evict bucket ∷ more) n

  -- the counts after an eviction that finds an epoch
  counts_found : (bucket waiting fewer : ℕ) (rest : List ℕ) (n : Machine) → Counts bucket (suc fewer ∷ rest) n → Counts bucket
      (fewer ∷ rest) (after_try bucket waiting n)
  counts_found bucket waiting fewer rest n c =
      let here = ap (λ b. length (open_in n b)) (let z : bucket ≡ bucket + 0 = omega arith in z)
      ∙ c 0 (omega arith) in
      counts_alike _ (fewer ∷ rest) _ _ (try_alike bucket waiting n) (λ i h. at here i h)
    where
      at : length (open_in n bucket) ≡ suc fewer → (i : ℕ) → i < length (fewer ∷ rest) → length (open_in (evict n bucket) (bucket + i))
          ≡ get_or (fewer ∷ rest) i 0
      at here zero h = ap (λ b. length (open_in (evict n bucket) b)) (let z : bucket + 0 ≡ bucket = omega arith in z)
          ∙ one_fewer n bucket fewer here
      at here (suc i) h = ap length (evict-open_other n _ _ (λ e. absurd (omega arith))) ∙ c (suc i) h

  -- what a sweep of the buckets from one on comes to
  abbrev SweepsFrom : ℕ → List ℕ → Machine → Type 0
  SweepsFrom bucket counts end = (waiting : ℕ) (n : Machine) → Counts bucket counts n → SameEpochs n (empty_buckets bucket m)
      → SameEpochs (run g (sweep_events places waiting (tries bucket counts)) n) end

  -- on the way through a bucket
  sweep_on : (bucket epochs : ℕ) (rest : List ℕ) (end : Machine) → SweepsFrom (suc bucket) rest end
      → (waiting : ℕ) (n : Machine) → Counts bucket (epochs ∷ rest) n → SameEpochs (empty_bucket n bucket) (empty_buckets (suc bucket) m)
      → SameEpochs (run g (sweep_events places waiting (tries bucket (epochs ∷ rest))) n) end
  sweep_on bucket zero rest end next waiting n c led =
      let here = ap (λ b. length (open_in n b)) (let z : bucket ≡ bucket + 0 = omega arith in z) ∙ c 0
      (omega arith) in
      let later = after_try bucket waiting n in
      let same : SameEpochs later n = rw (none_evicted n bucket here) at (try_alike bucket waiting n) in
      let done : SameEpochs n (empty_buckets (suc bucket) m) =
      rw (emptied.done n bucket (no_epochs (open_in n bucket) here)) at led in
      let left = left_waiting places waiting + 0 in
      let others = counts_alike _ _ _ n same
      (λ i h. ap (λ b. length (open_in n b)) (let z : suc bucket + i ≡ bucket + suc i = omega arith in z) ∙ c (suc i) (omega arith)) in
      rw (try_runs bucket waiting (sweep_events places left (tries (suc bucket) rest)) n)
      (next left later others (alike_along later n (empty_buckets (suc bucket) m) same done))
  sweep_on bucket (suc fewer) rest end next waiting n c led =
      let later = after_try bucket waiting n in
      let left = left_waiting places waiting + 1 in
      let on = alike.on_bucket later (evict n bucket) bucket
      (try_alike bucket waiting n) in
      let still : SameEpochs (empty_bucket (evict n bucket) bucket) (empty_buckets (suc bucket) m) =
      rw (emptied.first n bucket) led in
      rw (try_runs bucket waiting (sweep_events places left (tries bucket (fewer ∷ rest))) n)
      (sweep_on bucket fewer rest end next left later (counts_found bucket waiting fewer rest n c)
      (alike_along (empty_bucket later bucket) (empty_bucket (evict n bucket) bucket) (empty_buckets (suc bucket) m) on still))

  sweep_next : (bucket : ℕ) (counts : List ℕ) → SweepsFrom bucket counts (empty_buckets (bucket + length counts) m)
  sweep_next bucket [] waiting n c same = rw (let z : bucket ≡ bucket + 0 = omega arith in z) at same
  sweep_next bucket (epochs ∷ rest) waiting n c same =
      let all = length (epochs ∷ rest) in
      let next : SweepsFrom (suc bucket) rest (empty_buckets (bucket + all) m) =
      rw (let z : suc bucket + length rest ≡ bucket + all = omega arith in z) at (sweep_next (suc bucket) rest) in
      sweep_on _ epochs _ _ next waiting n c
      (rw (emptied.next m bucket) (alike.on_bucket n (empty_buckets bucket m) bucket same))

-- the numbers of pairs are those of open epochs
count_at : (lists : List (List Pair)) (i : ℕ) → i < length lists → get_or (map (λ pairs. length pairs) lists) i 0 ≡ length
    (get_or lists i [])
count_at [] i h = absurd (omega arith)
count_at (x ∷ lists) zero h = refl
count_at (x ∷ lists) (suc i) h = count_at lists i (omega arith)

counted : (lists : List (List Pair)) → length (map (λ pairs. length pairs) lists) ≡ length lists
counted [] = refl
counted (x ∷ lists) = ap suc (counted lists)

-- a sweep of a cache leads a machine that it represents to one with the epochs of the machine with all buckets emptied
pub sweep_alike : EventsKeepAlike → BucketsEmptyByEvictions → (means : Standing) (g : Geometry) (cache : Cache) (pipe : Pipe) (m : Machine)
    → CacheStands means cache m
    → SameEpochs (run g (sweep_from 0 cache pipe) m) (empty_buckets (length cache.lists) m)
sweep_alike alike emptied means g cache pipe m s =
    let long = counted cache.lists in
    let led = sweep_next alike emptied g m pipe.places 0 (counts_of cache) (length pipe.records) m
    (λ i h. ap (λ b. length (open_in m b)) (let z : 0 + i ≡ i = omega arith in z)
    ∙ (sym (pairs_long _ _ _ (s.each i)) ∙ sym (count_at cache.lists i (omega arith))))
    (rw (emptied.start m) (alike.start m)) in
    rw (let z : 0 + length (counts_of cache) ≡ length cache.lists = omega arith in z) at led
