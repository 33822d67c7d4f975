-- The packets of a trace, taken one by one.
use Rattle.std.proofs.Common.{◌≡◌, ℕ, suc, ◌<◌, ◌≤◌, List, [], ◌∷◌, None, Some, length, map, drop, get_or, sym, ap, ◌∙◌, arith, length-drop}
use Rattle.std.{proofs.{lemmas.{List.{get_or-map, length-map}, Option.get_or_from_slice_get}, Math.Seq.drop-cons}, specs.List.slice_get}
use Rattle.marple_base.specs.declared.field.Packet.{Packet}
use Rattle.epoch_model.specs.{Driving.{PacketsFollowTheTrace, TakenUsesAreInTrace, after_packet, event_of}, Epochs.Geometry}
use Rattle.epoch_model.specs.Machine.{after_packets, packets_of}
use Rattle.stage_plan.specs.{Planned.taken, Sound.PlanParts}
use Rattle.switch_core.specs.Ends.{uses_by}
use Rattle.trace_drive.specs.Drives.{words_of}

pub made_next : (made : List Packet) (at : ℕ) (p : Packet) → at < length made → slice_get made at ≡ Some p → drop at made ≡ p
    ∷ drop (suc at) made
made_next made at p within e = drop-cons made at p within ∙ ap (λ x. x ∷ drop (suc at) made) (get_or_from_slice_get made at p p e)

pub more_left : (all : List Packet) (count : ℕ) (p : Packet) (rest : List Packet) → drop count all ≡ p ∷ rest → count < length all
more_left all count p rest left = omega (arith, length-drop {A = Packet} count all, ap length left)

-- the next packet of the list, and those after it
pub next_left : (all : List Packet) (count : ℕ) (p : Packet) (rest : List Packet) → drop count all ≡ p ∷ rest → (get_or all count p ≡ p)
    × (rest ≡ drop (suc count) all)
next_left all count p rest left =
    let parts = drop-cons all count p (more_left all count p rest left) in
    let first : get_or all count p ≡ p = cc in
    let others : rest ≡ drop (suc count) all = cc in
    (first, others)

pub all_taken : (all : List Packet) (count : ℕ) → drop count all ≡ [] → count ≤ length all → count ≡ length all
all_taken all count left within = omega (arith, length-drop {A = Packet} count all, ap length left)

-- what is taken of the packet at this place is its event
event_at : TakenUsesAreInTrace → (plan : PlanParts) (i : ℕ) (all : List Packet) (count : ℕ) (p : Packet) → count < length all
    → get_or all count p ≡ p
    → packets_of (suc count) (uses_by plan i (words_of all)) ≡ event_of (taken plan i p.words)
event_at law plan i all count p within is =
    let words = words_of all in
    let long : length words ≡ length all = length-map all (λ x. x.words) in
    let inside : count < length words = omega arith in
    let many : length (map (taken plan i) words) ≡ length words = length-map words (taken plan i) in
    law.event (map (taken plan i) words) count (omega arith)
    ∙ ap event_of (get_or-map (taken plan i) words count p.words None inside
    ∙ ap (taken plan i) (get_or-map (λ (x : Packet). x.words) all count p p.words within ∙ ap (λ x. x.words) is))

-- the machine of a groupby after one packet more
pub after_next : PacketsFollowTheTrace → TakenUsesAreInTrace → (g : Geometry) (plan : PlanParts) (i : ℕ) (all : List Packet) (count : ℕ)
    (p : Packet) (rest : List Packet) → drop count all ≡ p ∷ rest
    → after_packet g (suc count) (event_of (taken plan i p.words)) (after_packets g (uses_by plan i (words_of all)) count) ≡ after_packets g
    (uses_by plan i (words_of all)) (suc count)
after_next follow law g plan i all count p rest left =
    let uses = uses_by plan i (words_of all) in
    let event = event_at law plan i all count p (more_left all count p rest left) (next_left all count p rest left).0 in
    ap (λ events. after_packet g (suc count) events (after_packets g uses count)) (sym event) ∙ sym (follow.next g uses count)

-- the machine of a groupby after a turn, where plan, buckets and refresh are those of the trace
pub after_turn : PacketsFollowTheTrace → TakenUsesAreInTrace → (g : Geometry) (plan here : PlanParts) (buckets refresh : ℕ)
    (all : List Packet) (count : ℕ) (p : Packet) (rest : List Packet) → drop count all ≡ p ∷ rest
    → here ≡ plan → buckets ≡ g.buckets → refresh ≡ g.refresh → (i : ℕ)
    → after_packet (record { buckets = buckets; ways = g.ways; refresh = refresh }) (suc count) (event_of (taken here i p.words))
    (after_packets g (uses_by plan i (words_of all)) count) ≡ after_packets g (uses_by plan i (words_of all)) (suc count)
after_turn follow law g plan here buckets refresh all count p rest left same b r i =
    let m = after_packets g (uses_by plan i (words_of all)) count in
    ap (λ n. after_packet (record { buckets = n; ways = g.ways; refresh = refresh }) (suc count) (event_of (taken here i p.words)) m) b
    ∙ (ap (λ n. after_packet (record { buckets = g.buckets; ways = g.ways; refresh = n }) (suc count) (event_of (taken here i p.words)) m) r
    ∙ (ap (λ x. after_packet g (suc count) (event_of (taken x i p.words)) m) same
    ∙ after_next follow law g plan i all count p rest left))
