-- Each operator keeps the order of the packets.
use Rattle.std.proofs.Common.{◌≡◌, ℕ, zero, suc, ◌+◌, ◌<◌, ◌≤◌, Bool, List, [], ◌∷◌, ◌++◌, length, Option, Some, None, slice_index, subst}
use Rattle.std.proofs.Common.{arith}
use Rattle.std.specs.{Prelude.{All, map, filter, find, fold, ◌==◌}, List.Sorted.IsStrictlyIncreasing}
use Rattle.query_lang.specs.Streams.{Tuple, numbered, zip_stream, group_stream, tuples_at, made_of, stream}
use Rattle.query_laws.proofs.{Terms.{TypedFold, TypedOp, Filter, Map, Zip, Group, TypedQuery, TypedStream}, Steps.{by_test, by_option}}
use Rattle.query_laws.specs.TupleLaws.{packet_numbers}

-- the packets' numbers rise from this one on, and stay below that one
abbrev pub Rises : ℕ → ℕ → List Tuple → Type 0
Rises _ _ [] = Unit {0}
Rises from end (t ∷ tuples) = (from ≤ t.packet) × (t.packet < end) × Rises (suc t.packet) end tuples

rises_before : {before from : ℕ} (end : ℕ) (tuples : List Tuple) → before ≤ from → Rises from end tuples → Rises before end tuples
rises_before end [] le h = tt
rises_before end (t ∷ tuples) le h = (omega (arith, h.0), h.1, h.2)

-- ---- operators

numbered_rise : (n : ℕ) {end : ℕ} (packets : List (List ℕ)) → n + length packets ≤ end → Rises n end (numbered n packets)
numbered_rise n [] le = tt
numbered_rise n (words ∷ packets) le = (omega arith, omega arith, numbered_rise (suc n) packets (omega arith))

filter_rises : (test : Tuple → Bool) (from end : ℕ) (tuples : List Tuple) → Rises from end tuples → Rises from end (filter test tuples)
filter_rises _ _ _ [] h = tt
filter_rises test from end (t ∷ tuples) h =
    let more = filter_rises test (suc t.packet) end tuples h.2 in
    by_test (test t) (λ is. rw is (h.0, h.1, more)) (λ is. rw is (rises_before end (filter test tuples) (omega (arith, h.0)) more))

map_rises : (new : Tuple → List ℕ) (from end : ℕ) (tuples : List Tuple) → Rises from end tuples
    → Rises from end (map (λ t. record { packet = t.packet; row = new t }) tuples)
map_rises _ _ _ [] h = tt
map_rises new _ end (t ∷ tuples) h = (h.0, h.1, map_rises new (suc t.packet) end tuples h.2)

zip_rises : (slots : List ℕ) (right : List Tuple) (from end : ℕ) (left : List Tuple) → Rises from end left
    → Rises from end (zip_stream slots left right)
zip_rises _ _ _ _ [] h = tt
zip_rises slots right from end (t ∷ left) h =
    let more = zip_rises slots right (suc t.packet) end left h.2 in
    by_option (find (λ (other : Tuple). other.packet == t.packet) right)
    (λ is. rw is (rises_before end (zip_stream slots left right) (omega (arith, h.0)) more)) (λ _ is. rw is (h.0, h.1, more))

group_rises : (f : Option TypedFold) (keys args : List ℕ) (from end : ℕ) (tuples : List Tuple) → Rises from end tuples
    → Rises from end (group_stream f keys args tuples)
group_rises None _ _ _ _ _ h = tt
group_rises (Some f) _ _ _ _ _ h = map_rises _ _ _ _ (filter_rises _ _ _ _ h)

-- ---- all streams

abbrev AllRise : ℕ → List (List Tuple) → Type 0
AllRise _ [] = Unit {0}
AllRise end (one ∷ streams) = Rises 1 end one × AllRise end streams

rise_at : (end : ℕ) (streams : List (List Tuple)) (number : ℕ) → AllRise end streams → Rises 1 end (tuples_at streams number)
rise_at _ [] _ h = tt
rise_at _ (_ ∷ _) zero h = h.0
rise_at end (_ ∷ streams) (suc number) h = rise_at end streams number h.1

rise_last : (end : ℕ) (streams : List (List Tuple)) (one : List Tuple) → AllRise end streams → Rises 1 end one
    → AllRise end (streams ++ one ∷ [])
rise_last _ [] _ h k = (k, tt)
rise_last end (_ ∷ streams) one h k = (h.0, rise_last end streams one h.1 k)

made_rises : (folds : List TypedFold) (end : ℕ) (streams : List (List Tuple)) (op : TypedOp) → AllRise end streams
    → Rises 1 end (made_of folds streams op)
made_rises _ _ _ (Filter _ _) h = filter_rises _ 1 _ _ (rise_at _ _ _ h)
made_rises _ _ _ (Map _ _) h = map_rises _ 1 _ _ (rise_at _ _ _ h)
made_rises _ _ _ (Zip _ _ _) h = zip_rises _ _ 1 _ _ (rise_at _ _ _ h)
made_rises _ _ _ (Group _ _ f _) h = group_rises _ _ _ 1 _ _ (rise_at _ _ _ h)

rise_along : (folds : List TypedFold) (end : ℕ) (list : List TypedStream) (streams : List (List Tuple)) → AllRise end streams
    → AllRise end (fold (λ streams one. streams ++ made_of folds streams one.op ∷ []) streams list)
rise_along _ _ [] _ h = h
rise_along folds end (one ∷ list) streams h = rise_along folds end list (streams ++ made_of folds streams one.op ∷ [])
    (rise_last end streams (made_of folds streams one.op) h (made_rises folds end streams one.op h))

-- the packets' numbers of a stream rise
pub stream_rises : (q : TypedQuery) (number : ℕ) (packets : List (List ℕ)) → Rises 1 (1 + length packets) (stream q number packets)
stream_rises q number packets =
    let end = 1 + length packets in
    rise_at end _ number (rise_along q.folds end q.streams (numbered 1 packets ∷ []) (numbered_rise 1 packets (omega arith), tt))

-- ---- what that says of the numbers

pub increasing : (from end : ℕ) (tuples : List Tuple) → Rises from end tuples → IsStrictlyIncreasing (packet_numbers tuples)
increasing _ _ [] h = λ k lt. absurd (omega (arith, lt))
increasing _ _ (t ∷ []) h = λ k lt. absurd (omega (arith, lt))
increasing _ end (t ∷ u ∷ tuples) h = go (increasing (suc t.packet) end (u ∷ tuples) h.2)
  where
    go : IsStrictlyIncreasing (packet_numbers (u ∷ tuples)) → IsStrictlyIncreasing (packet_numbers (t ∷ u ∷ tuples))
    go _ zero _ = omega (arith, h.2.0)
    go more (suc k) lt =
        subst (λ next. slice_index (packet_numbers (t ∷ u ∷ tuples)) (suc k) < slice_index (packet_numbers (t ∷ u ∷ tuples)) next)
        (let same : suc (k + 1) ≡ suc k + 1 = omega arith in same) (more k (omega (arith, lt)))

-- these numbers lie between those two, which are included
abbrev LieBetween : ℕ → ℕ → List ℕ → Type 0
LieBetween from last numbers = All (λ n. (from ≤ n) × (n ≤ last)) numbers

pub within : {from last : ℕ} (tuples : List Tuple) → Rises from (1 + last) tuples → LieBetween from last (packet_numbers tuples)
within [] h = λ k d lt. absurd (omega (arith, lt))
within {from} {last} (t ∷ tuples) h = go (within tuples h.2)
  where
    go : LieBetween (suc t.packet) last (packet_numbers tuples) → LieBetween from last (packet_numbers (t ∷ tuples))
    go _ zero d _ = (h.0, omega (arith, h.1))
    go more (suc k) d lt = let m = more k d (omega (arith, lt)) in (omega (arith, m.0, h.0), m.1)
