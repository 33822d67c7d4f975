-- The text of the generator's packets, written in pieces.
use Rattle.std.proofs.Common.{◌≡◌, ℕ, suc, zero, ◌+◌, ◌-◌, ◌≤◌, List, [], ◌++◌, subst, sym, ap, ◌∙◌, Option, arith, append_assoc}
use Rattle.std.proofs.Common.{append-nil}
use Rattle.marple_base.{specs.{Pieces.TakesAllBut, Sink.TakesFront}, proofs.Pieces.{front_taken, goes_on}}
use Rattle.queue_sim.specs.{Following.nth_packet, Generator.simulated, TraceText.{line, packet_texts, trace_text}}
use Rattle.queue_sim.proofs.{FollowingFacts.simulated_more, TextFacts.trace_push}

-- one packet more
pub text_more : (start capacity n : ℕ) → trace_text (simulated (n + 1) start capacity) ≡ trace_text (simulated n start capacity)
    ++ line (packet_texts (nth_packet start capacity n))
text_more start capacity n = ap trace_text (simulated_more start capacity n)
    ∙ trace_push (simulated n start capacity) (nth_packet start capacity n)

-- the text of more packets begins with that of fewer
text_begins : (start capacity n more : ℕ) → (rest : List ℕ) × (trace_text (simulated (n + more) start capacity) ≡ trace_text
    (simulated n start capacity) ++ rest)
text_begins start capacity n zero =
    let same : n + 0 ≡ n = omega arith in
    ([], ap (λ k. trace_text (simulated k start capacity)) same ∙ sym (append-nil (trace_text (simulated n start capacity))))
text_begins start capacity n (suc more) =
    let before = text_begins start capacity n more in
    let last = line (packet_texts (nth_packet start capacity (n + more))) in
    let next : n + suc more ≡ n + more + 1 = omega arith in (
      before.0 ++ last,
      ap (λ k. trace_text (simulated k start capacity)) next ∙ text_more start capacity (n + more) ∙ ap (λ t. t ++ last) before.1
          ∙ append_assoc (trace_text (simulated n start capacity)) before.0 last,
    )

-- it breaks off after the text of n packets, of which some bytes waited
pub broken_off : (old mid new : Option (List ℕ)) (waiting : List ℕ) (start capacity n all : ℕ) → n ≤ all
    → TakesAllBut old mid waiting (trace_text (simulated n start capacity)) → TakesFront mid new waiting
    → TakesFront old new (trace_text (simulated all start capacity))
broken_off old mid new waiting start capacity n all few first next =
    let rest = text_begins start capacity n (all - n) in
    let is : n + (all - n) ≡ all = omega arith in
    subst (TakesFront old new) (sym rest.1 ∙ ap (λ k. trace_text (simulated k start capacity)) is)
    (goes_on old new _ rest.0 (front_taken old mid new waiting _ first next))
