-- The records of a written trace, and what a reader finds in them.
use Rattle.std.proofs.Common.{◌≡◌, ℕ, ◌+◌, ◌<◌, ◌≤◌, ◌^◌, zero, suc, false, List, [], ◌∷◌, ◌++◌, length, map, slice_index, Ok, Option, Some}
use Rattle.std.{proofs.{Common.{None, refl, sym, ap, ◌∙◌, lit<, arith}, lemmas.Bool.Decides.nat_tests}, specs.Prelude.{⊤, flat_map, nat_lt}}
use Rattle.std.specs.List.{list_any}
use Rattle.csv.specs.{Quoting.needs_byte, Reading.strip_bom, Records.field_at, Writing.{default_writer, fields_text, is_blank, row_text}}
use Rattle.csv.proofs.RoundTrip.{rows_text}
use Rattle.marple_base.specs.{Field.{HasField, all_fields, field_name, number_of}, declared.field.Field.{Field, TheVariants.{Switch, Qid}}}
use Rattle.marple_base.specs.declared.field.Field.TheVariants.{Uid, SrcIp, DstIp, SrcPort, DstPort, Proto, PktLen, PayloadLen, TcpSeq, Tin}
use Rattle.marple_base.specs.declared.field.{Field.TheVariants.{Tout, QSize}, FieldSet.FieldSet, Packet.Packet, TheConstants.FIELDS}
use Rattle.trace_reader.specs.Reading.{records}
use Rattle.trace_reader.specs.Traces.{Contents, Layout, columns_of_fields, contents, contents_from, each, packet_of, words_in_columns}
use Rattle.trace_reader.{specs.declared.fault.TheConstants.MAX_RECORDS, proofs.TraceFacts.contents_good}
use Rattle.queue_sim.specs.ReadBack.{ArePackets, ArePacketWords, TextsReadBack}
use Rattle.queue_sim.specs.TraceText.{continued, fields_line, header, line, packet_texts, trace_text, word_texts}
use Rattle.queue_sim.proofs.{DigitFacts.{word_plain, word_read}, WrittenFacts.{AllMany, records-rows_text}}

-- no field needs quotes
abbrev ArePlain : List (List ℕ) → Type 0
ArePlain [] = ⊤
ArePlain (text ∷ texts) = (list_any (needs_byte default_writer) text ≡ false) × ArePlain texts

plain_fields : (texts : List (List ℕ)) → ArePlain texts → fields_text default_writer texts ≡ continued texts
unfolding fields_text
plain_fields [] plain = refl
plain_fields (text ∷ texts) plain = rw plain.0 (ap (λ rest. 44 ∷ (text ++ rest)) (plain_fields texts plain.1))

plain_row : (x y : List ℕ) (ys : List (List ℕ)) → ArePlain (x ∷ y ∷ ys) → row_text default_writer (x ∷ y ∷ ys) ≡ line (x ∷ y ∷ ys)
unfolding is_blank
plain_row x y ys plain = rw plain.0 (ap (λ rest. (x ++ rest) ++ 10 ∷ []) (plain_fields (y ∷ ys) plain.1))

pub word_small : (words : List ℕ) (k : ℕ) → ArePacketWords words → slice_index words k < 2 ^ 64
word_small [] k are = lit< tt
word_small (word ∷ words) zero are = are.0
word_small (word ∷ words) (suc k) are = word_small words k are.1

plain_texts : (fields : List Field) (words : List ℕ) → ArePacketWords words → ArePlain (word_texts words fields)
plain_texts [] words small = tt
plain_texts (f ∷ fields) words small =
    (word_plain f (slice_index words (number_of f)) (word_small words (number_of f) small), plain_texts fields words small)

-- the line of a packet is the text of its record
packet_row : (words : List ℕ) → ArePacketWords words → row_text default_writer (word_texts words all_fields) ≡ fields_line all_fields words
packet_row words small = plain_row _ _ _ (plain_texts all_fields words small)

abbrev rows_of : List Packet → List (List (List ℕ))
rows_of sent = map packet_texts sent

lines_rows : (sent : List Packet) → ArePackets sent → rows_text (rows_of sent) ≡ flat_map (λ packet. line (packet_texts packet)) sent
unfolding rows_text
lines_rows [] are = refl
lines_rows (packet ∷ sent) are = rw (packet_row packet.words are.1, lines_rows sent are.2) refl

header_plain : ArePlain header
header_plain = (refl, (refl, (refl, (refl, (refl, (refl, (refl, (refl, (refl, (refl, (refl, (refl, (refl, (refl, tt))))))))))))))

header_row : row_text default_writer header ≡ line header
header_row =
    plain_row (field_name Switch) (field_name Qid)
    (map field_name (Uid ∷ SrcIp ∷ DstIp ∷ SrcPort ∷ DstPort ∷ Proto ∷ PktLen ∷ PayloadLen ∷ TcpSeq ∷ Tin ∷ Tout ∷ QSize ∷ [])) header_plain

-- the text is that of the records
text_rows : (sent : List Packet) → ArePackets sent → rows_text (header ∷ rows_of sent) ≡ trace_text sent
unfolding rows_text
text_rows sent are = ap (λ t. t ++ rows_text (rows_of sent)) header_row ∙ ap (λ t. line header ++ t) (lines_rows sent are)

many_rows : (sent : List Packet) → ArePackets sent → AllMany (rows_of sent)
many_rows [] are = tt
many_rows (packet ∷ sent) are = many_rows sent are.2

no_mark : (sent : List Packet) → strip_bom (trace_text sent) ≡ trace_text sent
unfolding strip_bom
no_mark sent = refl

-- the records of the text
text_records : (sent : List Packet) → ArePackets sent → records (trace_text sent) ≡ header ∷ rows_of sent
text_records sent are =
    let same = text_rows sent are in
    ap records (sym same) ∙ records-rows_text (header ∷ rows_of sent) (many_rows sent are) (ap strip_bom same ∙ no_mark sent ∙ sym same)

-- the places of the fields in the header
abbrev places : List (Option ℕ)
places = Some 0 ∷ Some 1 ∷ Some 2 ∷ Some 3 ∷ Some 4 ∷ Some 5 ∷ Some 6 ∷ Some 7 ∷ Some 8 ∷ Some 9 ∷ Some 10 ∷ Some 11 ∷ Some 12 ∷ Some 13
    ∷ []

header_columns : (reads : FieldSet) → ((field : Field) → HasField reads field) → Ok places ≡ columns_of_fields reads header
unfolding each
header_columns reads all =
    rw (
      all Switch,
      all Qid,
      all Uid,
      all SrcIp,
      all DstIp,
      all SrcPort,
      all DstPort,
      all Proto,
      all PktLen,
      all PayloadLen,
      all TcpSeq,
      all Tin,
      all Tout,
      all QSize,
    ) refl

-- the words that a record gives
row_words : (words : List ℕ) → length words ≡ FIELDS → ArePacketWords words → words_in_columns places (word_texts words all_fields) ≡ Ok words
unfolding each field_at
row_words (a ∷ b ∷ c ∷ d ∷ e ∷ f ∷ g ∷ h ∷ i ∷ j ∷ k ∷ l ∷ m ∷ n ∷ []) size small =
    let at = λ (place : ℕ). word_small (a ∷ b ∷ c ∷ d ∷ e ∷ f ∷ g ∷ h ∷ i ∷ j ∷ k ∷ l ∷ m ∷ n ∷ []) place small in
    rw (
      word_read Switch a (at 0),
      word_read Qid b (at 1),
      word_read Uid c (at 2),
      word_read SrcIp d (at 3),
      word_read DstIp e (at 4),
      word_read SrcPort f (at 5),
      word_read DstPort g (at 6),
      word_read Proto h (at 7),
      word_read PktLen i (at 8),
      word_read PayloadLen j (at 9),
      word_read TcpSeq k (at 10),
      word_read Tin l (at 11),
      word_read Tout m (at 12),
      word_read QSize n (at 13),
    )
    refl
row_words words size small = absurd (omega (arith, size))

-- the layout of a trace with the whole header
abbrev full : Layout
full = record { width = FIELDS; columns = places }

packet_read : (packet : Packet) (n : ℕ) → length packet.words ≡ FIELDS → ArePacketWords packet.words → n ≤ MAX_RECORDS
    → packet_of full n (packet_texts packet) ≡ Ok packet
unfolding packet_of
packet_read packet n size small within =
    let few : nat_lt MAX_RECORDS n ≡ false = grind (arith, nat_tests) in
    rw (few, row_words packet.words size small) refl

sent_read : (sent : List Packet) (n : ℕ) → ArePackets sent → n + length sent ≤ MAX_RECORDS + 1
    → contents_from full n (rows_of sent) ≡ record { packets = sent; fault = None }
unfolding contents_from
sent_read [] n are within = refl
sent_read (packet ∷ sent) n are within =
    rw (packet_read packet n are.0 are.1 (omega arith), sent_read sent (n + 1) are.2 (omega arith)) refl

pub texts_read_back_lem : TextsReadBack
texts_read_back_lem sent reads are all few short =
    let is : contents (trace_text sent) reads ≡ record { packets = sent; fault = None } =
    contents_good (trace_text sent) reads header (rows_of sent) places short (text_records sent are) (header_columns reads all)
    ∙ sent_read sent 1 are (omega arith) in
    (ap (λ (c : Contents). c.packets) is, ap (λ (c : Contents). c.fault) is)
