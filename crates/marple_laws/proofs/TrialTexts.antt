-- The text of generated packets, read for the trial's query.
use Rattle.marple_laws.proofs.Words
use Words.{◌≡◌, ℕ, List, [], ◌∷◌, length, map, None, refl, ap, ap₂, ◌∙◌, arith, All-nil, All-cons, all_fields, FieldSet, Packet, FIELDS}
use Words.{query_text, ArePackets, trace_text, reads_of, AreWhole, words_of, zeroed, all_as_read, TrialsRunOverTexts}
use Rattle.marple_laws.proofs.ReadFewer.{whole, every, read_fewer}
use Rattle.marple_laws.proofs.{TraceSizes.{made_packets, made_many, text_fits}, TrialSlots.{trial_is_plain, text_kept}}
use Rattle.queue_sim.{specs.Generator.simulated, proofs.ReadBackFacts.texts_read_back_lem}
use Rattle.trace_reader.specs.Traces.{Contents, contents}

words_as_read : (reads : FieldSet) (list : List Packet) → words_of (all_as_read reads list) ≡ map (zeroed reads all_fields) (words_of list)
words_as_read reads [] = refl
words_as_read reads (packet ∷ list) = ap (λ l. zeroed reads all_fields packet.words ∷ l) (words_as_read reads list)

are_whole : (list : List Packet) → ArePackets list → AreWhole (words_of list)
are_whole [] are = All-nil _
are_whole (packet ∷ list) are = All-cons (λ (words : List ℕ). length words ≡ FIELDS) packet.words (words_of list) are.0
    (are_whole list are.2)

pub run_over_texts : TrialsRunOverTexts
run_over_texts q count start capacity e few =
    let made : List Packet = simulated count start capacity in
    let text : List ℕ = trace_text (simulated count start capacity) in
    let are = made_packets start capacity count few in
    let back = texts_read_back_lem made whole are every (omega (arith, made_many start capacity count few))
    (text_fits start capacity count few) in
    let all : contents text whole ≡ record { packets = made; fault = None } =
    ap₂ (λ ps f. record { packets = ps; fault = f }) back.0 back.1 in
    let fewer = read_fewer text (reads_of q) made all in
    record {
      accepted = ap (λ (c : Contents). c.fault) fewer;
      written = λ g. ap (λ (c : Contents). query_text q g (words_of c.packets)) fewer
          ∙ ap (query_text q g) (words_as_read (reads_of q) made) ∙ text_kept q (trial_is_plain q e) g (words_of made) (are_whole made are);
    }
