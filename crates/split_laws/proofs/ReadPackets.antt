-- The packets of a trace of any length read back from a text of the fields that are read.
use Rattle.std.proofs.Common.{◌≡◌, ℕ, ◌+◌, ◌-◌, ◌*◌, ◌^◌, ◌<◌, Bool, true, false, cond, not, List, [], ◌∷◌, length, map, filter, Option}
use Rattle.std.proofs.Common.{None, Some, Result, Ok, Err, refl, sym, ap, ap₂, ◌∙◌, arith, if◌then◌else◌}
use Rattle.std.{proofs.lemmas.List.Elements.{All-nil, All-cons, All-head, All-tail, All-append}, specs.Prelude.{◌==◌, All, codes}}
use Rattle.std.specs.{List.{slice_split, zip}, Option.{ok_or, option_and_then, option_map}, Str.bytes_eq}
use Rattle.epoch_model.proofs.KeyLists.{by_test}
use Rattle.marple_base.specs.{Field.{all_fields, has_field}, declared.field.Field.Field}
use Rattle.marple_base.specs.declared.field.Field.TheVariants as f
use Rattle.marple_base.specs.declared.field.{FieldSet.FieldSet, Packet.Packet, TheConstants.FIELDS}
use Rattle.trace_reader.specs.Numbers.{decimal_word, first_some, further_word, infinity_word, is_dot, octet_word, quad_of, without_blanks}
use Rattle.trace_reader.specs.{Numbers.word_of_text, Reading.records, Traces.{Contents, Layout, column_of_field, columns_of_fields, each}}
use Rattle.trace_reader.specs.Traces.{layout_of, layout_with, packet_with, rest_of, field_text_at, with_packet, word_at, words_in_columns}
use Rattle.trace_reader.{specs.declared.fault.TraceFault.TraceFault, proofs.NumberFacts.number_parts}
use Rattle.queue_sim.specs.ReadBack.{ArePackets, ArePacketWords}
use Rattle.trace_drive.{specs.Kept.kept_of, proofs.{EachPacket.{HoldsOfRead, first_ok, not_ok}, KeptFacts.kept_words_are}}
use Rattle.trace_drive.proofs.WholePackets.{is_long}
use Rattle.trace_pieces.specs.Wholes.{all_contents, all_packets, contents_by, contents_of, record_packet}
use Rattle.trace_split.specs.Traces.{packets_of_all}
use Rattle.part_texts.specs.Laws.{as_read}

-- ---- the words of numbers

octet_small : (text : List ℕ) (n : ℕ) → octet_word text ≡ Some n → n < 256
octet_small text n e = let p = number_parts 3 256 n text e in omega (arith, p.3, p.4)

abbrev IsSmall : Option ℕ → Type 0
IsSmall o = (m : ℕ) → o ≡ Some m → m < 256

quad_small : (octets : List (List ℕ)) (n : ℕ) → quad_of octets ≡ Some n → n < 2 ^ 64
quad_small [] n e = cc e
quad_small (a ∷ []) n e = cc e
quad_small (a ∷ b ∷ []) n e = cc e
quad_small (a ∷ b ∷ c ∷ []) n e = cc e
quad_small (a ∷ b ∷ c ∷ d ∷ e ∷ rest) n is = cc is
quad_small (a ∷ b ∷ c ∷ d ∷ []) n e =
    by (octet_word a) (octet_word b) (octet_word c) (octet_word d) (octet_small a) (octet_small b) (octet_small c) (octet_small d) e
  where
    by : (w x y z : Option ℕ) → IsSmall w → IsSmall x → IsSmall y → IsSmall z
        → option_and_then (λ i. option_and_then (λ j. option_and_then (λ k. option_map (λ l. ((i * 256 + j) * 256 + k) * 256 + l) z) y) x) w
        ≡ Some n → n < 2 ^ 64
    by None x y z p q r s e = cc e
    by (Some i) None y z p q r s e = cc e
    by (Some i) (Some j) None z p q r s e = cc e
    by (Some i) (Some j) (Some k) None p q r s e = cc e
    by (Some i) (Some j) (Some k) (Some l) p q r s e =
        let is : ((i * 256 + j) * 256 + k) * 256 + l ≡ n = cc e in
        omega (arith, is, p i refl, q j refl, r k refl, s l refl)

infinity_small : (text : List ℕ) (n : ℕ) → infinity_word text ≡ Some n → n < 2 ^ 64
infinity_small text n e = by (bytes_eq text (codes "inf")) e
  where
    by : (b : Bool) → cond b (Some (2 ^ 64 - 1)) None ≡ Some n → n < 2 ^ 64
    by true e = let is : 2 ^ 64 - 1 ≡ n = cc e in omega (arith, is)
    by false e = cc e

further_small : (field : Field) (text : List ℕ) (n : ℕ) → further_word field text ≡ Some n → n < 2 ^ 64
further_small f.Switch text n e = cc e
further_small f.Qid text n e = cc e
further_small f.Uid text n e = cc e
further_small f.SrcIp text n e = quad_small (slice_split is_dot text) n e
further_small f.DstIp text n e = quad_small (slice_split is_dot text) n e
further_small f.SrcPort text n e = cc e
further_small f.DstPort text n e = cc e
further_small f.Proto text n e = cc e
further_small f.PktLen text n e = cc e
further_small f.PayloadLen text n e = cc e
further_small f.TcpSeq text n e = cc e
further_small f.Tin text n e = cc e
further_small f.Tout text n e = infinity_small text n e
further_small f.QSize text n e = cc e

word_small : (field : Field) (text : List ℕ) (n : ℕ) → word_of_text field text ≡ Some n → n < 2 ^ 64
word_small field text n = by (decimal_word text) refl
  where
    by : (o : Option ℕ) → decimal_word text ≡ o → first_some o (further_word field text) ≡ Some n → n < 2 ^ 64
    by None is e = further_small field text n e
    by (Some m) is e =
        let same : m ≡ n = cc e in
        let p = number_parts 20 (2 ^ 64) m text is in
        omega (arith, same, p.3, p.4)

-- ---- the words of a record

at_column : (fields : List (List ℕ)) (field : Field) (o : Option ℕ) (word : ℕ) → word_at fields field o ≡ Ok word → word < 2 ^ 64
at_column fields field None word e = let is : 0 ≡ word = cc e in omega (arith, is)
at_column fields field (Some column) word e = by (word_of_text field (without_blanks (field_text_at fields column))) refl e
  where
    by : (o : Option ℕ) → word_of_text field (without_blanks (field_text_at fields column)) ≡ o → ok_or o field ≡ Ok word → word < 2 ^ 64
    by None is e = cc e
    by (Some n) is e =
        let same : n ≡ word = cc e in
        let small = word_small field (without_blanks (field_text_at fields column)) n is in
        omega (arith, same, small)

are_words : (fields : List (List ℕ)) (places : List (Field × Option ℕ)) (words : List ℕ)
    → each (λ p. word_at fields p.0 p.1) places ≡ Ok words → ArePacketWords words
unfolding each
are_words fields [] words e = let none : [] ≡ words = cc e in rw (sym none) tt
are_words fields (place ∷ places) words e =
    let first = first_ok (word_at fields place.0 place.1) (each (λ p. word_at fields p.0 p.1) places) words e in
    rw first.4 (at_column fields place.0 place.1 first.0 first.2, are_words fields places first.1 first.3)

unread : (is_read : Bool) (column : Result (Option ℕ) TraceFault) (fields : List (List ℕ)) (field : Field) (o : Option ℕ) (word : ℕ)
    → (if is_read then column else Ok None) ≡ Ok o → word_at fields field o ≡ Ok word → (if is_read then word else 0) ≡ word
unread true column fields field o word c w = refl
unread false column fields field o word c w =
    let none : o ≡ None = cc in
    let zero : word_at fields field None ≡ Ok word = rw none at w in
    let is : 0 ≡ word = cc in
    is

-- a word whose field isn't read is 0
words_if : (reads : FieldSet) (header fields : List (List ℕ)) (fs : List Field) (columns : List (Option ℕ)) (words : List ℕ)
    → each (column_of_field reads header) fs ≡ Ok columns
    → each (λ p. word_at fields p.0 p.1) (zip fs columns) ≡ Ok words
    → map (λ p. if has_field reads p.0 then p.1 else 0) (zip fs words) ≡ words
unfolding each
words_if reads header fields [] columns words c w = let none : [] ≡ words = cc in none
words_if reads header fields (field ∷ fs) columns words c w =
    let column = first_ok (column_of_field reads header field) (each (column_of_field reads header) fs) columns c in
    let given = rw column.4 at w in
    let word = first_ok (word_at fields field column.0) (each (λ p. word_at fields p.0 p.1) (zip fs column.1)) words given in
    let here = unread (has_field reads field) _ fields field column.0 word.0 column.2 word.2 in
    rw word.4 (ap₂ (λ x xs. x ∷ xs) here (words_if reads header fields fs column.1 word.1 column.3 word.3))

-- ---- each packet

pub record ReadsBack (reads : FieldSet) (packet : Packet) : Type 0 where
  pub long : length packet.words ≡ FIELDS
  pub words : ArePacketWords packet.words
  pub same : as_read reads packet ≡ packet

kept_same : (reads : FieldSet) (packet : Packet) → as_read reads packet ≡ kept_of reads packet
unfolding kept_of
kept_same reads packet = refl

reads_back : (reads : FieldSet) → HoldsOfRead reads (ReadsBack reads)
reads_back reads header fields columns packet c w =
    let long = is_long reads header fields columns packet c w in
    record {
      long = long;
      words = are_words fields (zip all_fields columns) packet.words w;
      same = kept_same reads packet ∙ (kept_words_are reads packet long ∙ ap (λ words. let p : Packet = record { words = words } in p)
          (words_if reads header fields all_fields columns packet.words c w));
    }

with_words : (n : ℕ) (words : Result (List ℕ) Field) (packet : Packet) → packet_with n words ≡ Ok packet → words ≡ Ok packet.words
with_words n (Err field) packet e = absurd (not_ok _ packet e)
with_words n (Ok ws) packet e = let is : record { words = ws } ≡ packet = cc e in ap (λ (p : Packet). Ok p.words) is

record_words : (layout : Layout) (n : ℕ) (fields : List (List ℕ)) (packet : Packet) → record_packet layout n fields ≡ Ok packet
    → words_in_columns layout.columns fields ≡ Ok packet.words
unfolding record_packet
record_words layout n fields packet e = by_test (not (length fields == layout.width))
    (λ t. absurd (not_ok _ packet (rw t at e)))
    (λ t. with_words n (words_in_columns layout.columns fields) packet (rw t at e))

module _ (reads : FieldSet) where
  with_one : (one : Result Packet TraceFault) (more : Contents) → ((packet : Packet) → one ≡ Ok packet → ReadsBack reads packet)
      → All (ReadsBack reads) more.packets → All (ReadsBack reads) (with_packet one more).packets
  with_one (Err found) more here rest = All-nil (ReadsBack reads)
  with_one (Ok packet) more here rest = All-cons (ReadsBack reads) packet more.packets (here packet refl) rest

  each_record : (header : List (List ℕ)) (layout : Layout) (n : ℕ) (left : List (List (List ℕ)))
      → columns_of_fields reads header ≡ Ok layout.columns → All (ReadsBack reads) (contents_of layout n left).packets
  unfolding contents_of
  each_record header layout n [] is = All-nil (ReadsBack reads)
  each_record header layout n (fields ∷ left) is =
      with_one (record_packet layout n fields) (contents_of layout (n + 1) left)
      (λ packet e. reads_back reads header fields layout.columns packet is (record_words layout n fields packet e))
      (each_record header layout (n + 1) left is)

  by_header : (header : List (List ℕ)) (columns : Result (List (Option ℕ)) TraceFault) (left : List (List (List ℕ)))
      → columns_of_fields reads header ≡ columns
      → All (ReadsBack reads) (contents_by (layout_with (length header) columns) left).packets
  by_header header (Err found) left is = All-nil (ReadsBack reads)
  by_header header (Ok columns) left is = each_record header (record { width = length header; columns = columns }) 1 left is

  by_records : (all : List (List (List ℕ))) → All (ReadsBack reads) (contents_by (layout_of all reads) (rest_of all)).packets
  by_records [] = All-nil (ReadsBack reads)
  by_records (header ∷ left) = by_header header (columns_of_fields reads header) left refl

  one_trace : (text : List ℕ) → All (ReadsBack reads) (all_packets text reads)
  unfolding all_contents
  one_trace text = by_records (records text)

  -- the packets of these traces
  pub all_traces : (traces : List (List ℕ)) → All (ReadsBack reads) (packets_of_all traces reads)
  all_traces [] = All-nil (ReadsBack reads)
  all_traces (trace ∷ traces) =
      All-append (ReadsBack reads) (all_packets trace reads) (packets_of_all traces reads) (one_trace trace) (all_traces traces)

  -- ---- and the packets of a part

  pub are_packets : (list : List Packet) → All (ReadsBack reads) list → ArePackets list
  are_packets [] all = tt
  are_packets (packet ∷ list) all =
      let here = All-head (ReadsBack reads) packet list all in
      (here.long, here.words, are_packets list (All-tail (ReadsBack reads) packet list all))

  pub same_packets : (list : List Packet) → All (ReadsBack reads) list → map (as_read reads) list ≡ list
  same_packets [] all = refl
  same_packets (packet ∷ list) all =
      ap₂ (λ p ps. p ∷ ps) (All-head (ReadsBack reads) packet list all).same
      (same_packets list (All-tail (ReadsBack reads) packet list all))

  pub all_filtered : (test : Packet → Bool) (list : List Packet) → All (ReadsBack reads) list → All (ReadsBack reads) (filter test list)
  all_filtered test [] all = All-nil (ReadsBack reads)
  all_filtered test (packet ∷ list) all =
      let more = all_filtered test list (All-tail (ReadsBack reads) packet list all) in
      by_test (test packet)
      (λ t. rw t (All-cons (ReadsBack reads) packet (filter test list) (All-head (ReadsBack reads) packet list all) more))
      (λ t. rw t more)
