-- The events of a sweep in order, as they are made and as they are still to come.
use Rattle.std.proofs.Common.{◌≡◌, ℕ, zero, suc, ◌+◌, ◌-◌, ◌*◌, ◌<◌, ◌≤◌, true, false, Ok, Result, List, [], ◌∷◌, ◌++◌, length, map, take}
use Rattle.std.proofs.Common.{drop, set, get_or, refl, sym, ap, ◌∙◌, arith, append_assoc, get_or-set_same, length-take-le}
use Rattle.std.specs.{Prelude.nat_lt, declared.alloc.AllocError.AllocError}
use Rattle.epoch_model.specs.{Machine.{Event, Evict, Merge}, Tables.Folding}
use Rattle.bucket_cache.specs.{Buckets.Pair, Caches.{Cache, list_at, with_list}}
use Rattle.evict_pipe.specs.Pipes.{Pipe}
use Rattle.switch_core.specs.{FrontEvents.{Carries, CarriesAll, CarriesUpTo}, FrontParts.LaneOf, Lanes.Standing}
use Rattle.switch_core.specs.{Upkeeps.{counts_of, left_waiting, room_events, sweep_events, sweep_from, tries}, declared.front.Merged.Merged}
use Rattle.switch_core.{specs.declared.front.Merged.TheVariants.{Done, Empty}, proofs.Carrying.{carries_on, up_to_on}}

abbrev count : List Pair → ℕ
count pairs = length pairs

-- the counts from a bucket on

counts_here : (lists : List (List Pair)) (bucket : ℕ) → bucket < length lists
    → drop bucket (map count lists) ≡ length (get_or lists bucket []) ∷ drop (suc bucket) (map count lists)
counts_here [] bucket h = absurd (omega arith)
counts_here (x ∷ xs) zero h = refl
counts_here (x ∷ xs) (suc b) h = counts_here xs b (omega arith)

counts_set : (lists : List (List Pair)) (bucket : ℕ) (pairs : List Pair) → bucket < length lists
    → drop bucket (map count (set lists bucket pairs)) ≡ length pairs ∷ drop (suc bucket) (map count lists)
counts_set [] bucket pairs h = absurd (omega arith)
counts_set (x ∷ xs) zero pairs h = refl
counts_set (x ∷ xs) (suc b) pairs h = counts_set xs b pairs (omega arith)

counts_past : (lists : List (List Pair)) (bucket : ℕ) → length lists ≤ bucket → drop bucket (map count lists) ≡ []
counts_past [] zero h = refl
counts_past [] (suc b) h = refl
counts_past (x ∷ xs) zero h = absurd (omega arith)
counts_past (x ∷ xs) (suc b) h = counts_past xs b (omega arith)

-- with the same places, records and counts the events are the same
same_events : (p q v w bucket : ℕ) (xs ys : List ℕ) → p ≡ q → v ≡ w → xs ≡ ys → sweep_events p v (tries bucket xs) ≡ sweep_events q w
    (tries bucket ys)
same_events p q v w bucket xs ys a b e = cc

-- one eviction, with a merge before it where the pipe is full
abbrev pub try_events : ℕ → Pipe → List Event
try_events bucket pipe = room_events pipe.places (length pipe.records) ++ Evict bucket ∷ []

-- an eviction that finds an epoch, and the events after it
pub next_found : (bucket : ℕ) (was new : Cache) (old later : Pipe) → bucket < length was.lists → 0 < length (list_at was bucket)
    → new ≡ with_list was bucket (take (length (list_at was bucket) - 1) (list_at was bucket)) → later.places ≡ old.places
    → length later.records ≡ left_waiting old.places (length old.records) + 1
    → sweep_from bucket was old ≡ try_events bucket old ++ sweep_from bucket new later
next_found bucket was new old later within some is places records =
    let list = list_at was bucket in
    let fewer = length list - 1 in
    let rest = drop (suc bucket) (counts_of was) in
    let many : length list ≡ suc fewer = omega arith in
    let left = length-take-le fewer list (omega arith) in
    let here = counts_here was.lists bucket within ∙ ap (λ n. n ∷ rest) many in
    let there =
    ap (λ c. drop bucket (counts_of c)) is ∙ (counts_set was.lists bucket (take _ _) within ∙ ap (λ n. n ∷ rest) left) in
    let after = sweep_events old.places (left_waiting old.places (length old.records) + 1) (tries bucket (fewer ∷ rest)) in
    let same = same_events old.places later.places (left_waiting old.places (length old.records) + 1)
    (length later.records) bucket (fewer ∷ rest) (drop bucket (counts_of new)) (sym places) (sym records) (sym there) in
    ap (λ cs. sweep_events old.places (length old.records) (tries bucket cs)) here
    ∙ (ap (λ es. room_events old.places (length old.records) ++ Evict bucket ∷ es) same
    ∙ sym (append_assoc (room_events old.places (length old.records)) (Evict bucket ∷ []) (sweep_from bucket new later)))

-- an eviction that finds the bucket empty, and the events after it
pub next_empty : (bucket : ℕ) (was : Cache) (old later : Pipe) → bucket < length was.lists → length (list_at was bucket) ≡ 0
    → later.places ≡ old.places → length later.records ≡ left_waiting old.places (length old.records)
    → sweep_from bucket was old ≡ try_events bucket old ++ sweep_from (suc bucket) was later
next_empty bucket was old later within none places records =
    let rest = drop (suc bucket) (counts_of was) in
    let here = counts_here was.lists bucket within ∙ ap (λ n. n ∷ rest) none in
    let left = left_waiting old.places (length old.records) in
    let none_more : left + 0 ≡ length later.records = omega arith in
    let same =
    same_events old.places later.places (left + 0) (length later.records) (suc bucket) rest rest (sym places) none_more refl in
    ap (λ cs. sweep_events old.places (length old.records) (tries bucket cs)) here
    ∙ (ap (λ es. room_events old.places (length old.records) ++ Evict bucket ∷ es) same
    ∙ sym (append_assoc (room_events old.places (length old.records)) (Evict bucket ∷ []) (sweep_from (suc bucket) was later)))

-- past the last bucket there are no more events
pub next_none : (bucket : ℕ) (cache : Cache) (pipe : Pipe) → length cache.lists ≤ bucket → sweep_from bucket cache pipe ≡ []
next_none bucket cache pipe past = ap (λ cs. sweep_events pipe.places (length pipe.records) (tries bucket cs))
    (counts_past cache.lists bucket past)

-- a merge where the pipe is full

pub room_none : (places waiting : ℕ) → nat_lt waiting places ≡ true → room_events places waiting ≡ []
room_none places waiting t = rw t

pub room_one : (places waiting : ℕ) → nat_lt waiting places ≡ false → room_events places waiting ≡ Merge ∷ []
room_one places waiting t = rw t

pub left_same : (places waiting : ℕ) → nat_lt waiting places ≡ true → left_waiting places waiting ≡ waiting
left_same places waiting t = rw t

pub left_fewer : (places waiting : ℕ) → nat_lt waiting places ≡ false → left_waiting places waiting ≡ waiting - 1
left_fewer places waiting t = rw t

-- An eviction with room made for its record, on the way through the events of a sweep.
pub one_try : {K : Type 0} (means : K → Standing) (folding : K → Folding) (ways bucket : ℕ) (all coming : List Event)
    (first was ready new : LaneOf K)
    → CarriesUpTo means folding ways all (sweep_from bucket was.cache was.pipe) first was
    → CarriesAll means folding ways (room_events was.pipe.places (length was.pipe.records)) was ready → Carries means folding ways
    (Evict bucket) ready new
    → sweep_from bucket was.cache was.pipe ≡ try_events bucket was.pipe ++ coming → CarriesUpTo means folding ways all coming first new
one_try means folding ways bucket all coming first was ready new up room made e =
    let room_for = room_events was.pipe.places (length was.pipe.records) in
    up_to_on _ _ _ _ _ _ first was new
    (rw e at up)
    (carries_on _ _ _ _ _ was ready new room (new, made, refl))

-- a bucket's list after an eviction from it
pub evicted_shorter : (old new : Cache) (bucket : ℕ) → bucket < length old.lists → 0 < length (list_at old bucket)
    → new ≡ with_list old bucket (take (length (list_at old bucket) - 1) (list_at old bucket))
    → suc (length (list_at new bucket)) ≡ length (list_at old bucket)
evicted_shorter old new bucket within some is =
    let list = list_at old bucket in
    let left = ap (λ x. list_at x bucket) is ∙ get_or-set_same old.lists bucket
    (take _ _) [] within in
    let long = ap length left ∙ length-take-le (length list - 1) list (omega arith) in
    omega arith

-- merges until a pipe is empty

-- a merge that found a record
pub not_empty : (r : Result Merged AllocError) (found : Merged) → r ≡ Ok found → found ≡ Done → r ≡ Ok Empty → ⊥
not_empty r found was is empty = cc

-- one merge more is within what as many as there were records take
pub merges_more : (start was new total waiting left merging : ℕ) → waiting ≡ suc left → new ≤ was + merging
    → was + waiting * merging ≤ start + total * merging
    → new + left * merging ≤ start + total * merging
merges_more start was new total waiting left merging one a h =
    let more = ap (λ n. n * merging) one in
    omega arith

-- and so is one that finds none, with one more
pub merges_within : (start was new total waiting merging : ℕ) → new ≤ was + merging → was + waiting * merging ≤ start + total * merging
    → new ≤ start + suc total * merging
merges_within start was new total waiting merging a h = omega arith
