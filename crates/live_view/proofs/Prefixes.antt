-- A machine after the first packets doesn't depend on those after them.
use Rattle.std.proofs.Common.{◌≡◌, ◌≤◌, ◌<◌, ℕ, zero, suc, List, length, take, refl, sym, ap, ap₂, ◌∙◌, arith, length-take}
use Rattle.std.{proofs.lemmas.List.get_or-take, specs.Prelude.{Option, None}}
use Rattle.epoch_model.specs.Driving.{PacketsFollowTheTrace, SweepsReachTheEnd, TakenUsesAreInTrace, Taken, uses_taken, event_of}
use Rattle.epoch_model.specs.{Driving.after_packet, Epochs.Geometry, Laws.SameEpochs}
use Rattle.epoch_model.specs.Machine.{packets_of, after_packets, empty_buckets, merge_all, end_of}
use Rattle.live_view.{specs.{Laws.ViewsEndTheTrace, Views.all_closed}, proofs.Emptied.empty_all}

-- the events of a packet among the first ones
same_events : TakenUsesAreInTrace → (packets : List (Option Taken)) (number i : ℕ) → number ≤ length packets → i < number
    → packets_of (suc i) (uses_taken 1 (take number packets)) ≡ packets_of (suc i) (uses_taken 1 packets)
same_events taken packets number i within below =
    let long : length (take number packets) ≡ number = length-take number packets ∙ (omega arith) in
    taken.event (take number packets) i (omega arith)
    ∙ (ap event_of (get_or-take number packets i None below) ∙ sym (taken.event packets i (omega arith)))

same_after : TakenUsesAreInTrace → PacketsFollowTheTrace → (g : Geometry) (packets : List (Option Taken)) (number i : ℕ)
    → number ≤ length packets → i ≤ number
    → after_packets g (uses_taken 1 (take number packets)) i ≡ after_packets g (uses_taken 1 packets) i
same_after taken follow g packets number zero within below = follow.start g (uses_taken 1 (take number packets))
    ∙ sym (follow.start g (uses_taken 1 packets))
same_after taken follow g packets number (suc i) within below =
    follow.next g (uses_taken 1 (take number packets)) i
    ∙ (ap₂ (λ events m. after_packet g (suc i) events m) (same_events taken packets number i within (omega arith))
    (same_after taken follow g packets number i within (omega arith))
    ∙ sym (follow.next g (uses_taken 1 packets) i))

same_end : TakenUsesAreInTrace → PacketsFollowTheTrace → (g : Geometry) (packets : List (Option Taken)) (number : ℕ)
    → number ≤ length packets
    → end_of g (uses_taken 1 packets) number ≡ end_of g (uses_taken 1 (take number packets)) number
unfolding end_of
same_end taken follow g packets number within = ap (λ m. merge_all (empty_buckets g.buckets m))
    (sym (same_after taken follow g packets number number within (omega arith)))

pub views_end : TakenUsesAreInTrace → PacketsFollowTheTrace → SweepsReachTheEnd → ViewsEndTheTrace
views_end taken follow reach g packets number m within same =
    let after = after_packets g (uses_taken 1 packets) number in
    let swept = empty_all m g.buckets (ap length same.recent ∙ follow.buckets g (uses_taken 1 packets) number) in
    let from = empty_all after g.buckets (follow.buckets g (uses_taken 1 packets) number) in
    let closed = all_closed m in
    let alike : SameEpochs closed (empty_buckets g.buckets after) = record {
      recent = ap (λ r. (all_closed (record { recent = r; closed = m.closed; merged = m.merged })).recent) same.recent
          ∙ sym (ap (λ x. x.recent) from);
      closed = ap₂ (λ r c. (all_closed (record { recent = r; closed = c; merged = m.merged })).closed) same.recent same.closed
          ∙ sym (ap (λ x. x.closed) from);
    } in
    reach.whole g (uses_taken 1 packets) number closed alike refl ∙ same_end taken follow g packets number within
