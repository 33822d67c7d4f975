-- The line of a packet from its end to its beginning, and the text of packets.
use Rattle.std.proofs.Common.{◌≡◌, ℕ, suc, zero, ◌+◌, ◌<◌, ◌≤◌, List, [], ◌∷◌, ◌++◌, length, get_or, drop, map, slice_index, refl, sym, ap}
use Rattle.std.{proofs.{Common.{◌∙◌, append_assoc, append-nil, arith}, lemmas.List.drop_all}, specs.Prelude.flat_map}
use Rattle.marple_base.specs.{Field.number_of, declared.field.{Field.{Field, TheVariants.Switch}, Packet.Packet}}
use Rattle.queue_sim.specs.TraceText.{continued, fields_line, header, line, packet_texts, trace_text, word_text, word_texts}

length-texts : (text : Field → List ℕ) (fields : List Field) → length (map text fields) ≡ length fields
length-texts text [] = refl
length-texts text (f ∷ fields) = ap suc (length-texts text fields)

-- the texts of fields from a place on
pub texts_from : (text : Field → List ℕ) (fields : List Field) (i : ℕ) → i < length fields
    → drop i (map text fields) ≡ text (get_or fields i Switch) ∷ drop (i + 1) (map text fields)
texts_from text [] i within = absurd (omega arith)
texts_from text (f ∷ fields) zero within = refl
texts_from text (f ∷ fields) (suc i) within =
    let more : suc i + 1 ≡ suc (i + 1) = omega arith in
    rw more (texts_from text fields i (omega arith))

pub texts_end : (text : Field → List ℕ) (fields : List Field) (i : ℕ) → length fields ≤ i → drop i (map text fields) ≡ []
texts_end text fields i all = drop_all i (map text fields) (omega (arith, length-texts text fields, all))

-- the text of a packet's word of a field
abbrev pub word_at : List ℕ → Field → List ℕ
word_at words field = word_text field (slice_index words (number_of field))

-- what is written from a word on, before the end
abbrev pub text_from : List Field → ℕ → List ℕ → List ℕ
text_from fields i words = continued (drop i (word_texts words fields)) ++ 10 ∷ []

-- nothing but the end
pub none_left : (fields : List Field) (words : List ℕ) (i : ℕ) → length fields ≤ i → text_from fields i words ≡ 10 ∷ []
none_left fields words i all = ap (λ parts. continued parts ++ 10 ∷ []) (texts_end (word_at words) fields i all)

-- one word more, and a comma before it
pub one_before : (fields : List Field) (words : List ℕ) (i : ℕ) → i < length fields
    → text_from fields i words ≡ 44 ∷ (word_at words (get_or fields i Switch) ++ text_from fields (i + 1) words)
one_before fields words i within =
    let text = word_at words (get_or fields i Switch) in
    ap (λ parts. continued parts ++ 10 ∷ []) (texts_from (word_at words) fields i within)
    ∙ ap (λ rest. 44 ∷ rest) (append_assoc text (continued (drop (i + 1) (word_texts words fields))) (10 ∷ []))

-- the first word, and the line is whole
pub whole_line : (fields : List Field) (words : List ℕ) → 0 < length fields
    → word_at words (get_or fields 0 Switch) ++ text_from fields 1 words ≡ fields_line fields words
whole_line [] words some = absurd (omega arith)
whole_line (f ∷ fields) words some = sym (append_assoc (word_at words f) (continued (word_texts words fields)) (10 ∷ []))

-- one packet more
pub trace_push : (packets : List Packet) (packet : Packet) → trace_text (packets ++ packet ∷ []) ≡ trace_text packets
    ++ line (packet_texts packet)
trace_push packets packet =
    ap (λ rest. line header ++ rest) (lines packets) ∙ sym (append_assoc (line header) (flat_map (λ p. line (packet_texts p)) packets)
    (line (packet_texts packet)))
  where
    lines : (ps : List Packet) → flat_map (λ p. line (packet_texts p)) (ps ++ packet ∷ []) ≡ flat_map (λ p. line (packet_texts p)) ps
        ++ line (packet_texts packet)
    lines [] = append-nil (line (packet_texts packet))
    lines (p ∷ ps) = ap (λ rest. line (packet_texts p) ++ rest) (lines ps)
        ∙ sym (append_assoc (line (packet_texts p)) (flat_map (λ p. line (packet_texts p)) ps) (line (packet_texts packet)))
