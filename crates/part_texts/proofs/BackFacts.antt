-- A text of the fields that are read reads back.
use Rattle.std.proofs.Common.{◌≡◌, ℕ, suc, ◌+◌, ◌≤◌, Bool, true, false, cond, List, [], ◌∷◌, length, map, slice_index, Option, Some, None}
use Rattle.std.proofs.{Common.{Result, Ok, refl, sym, ap, subst, ◌∙◌, eq-eqb, arith}, lemmas.Bool.Decides.nat_tests}
use Rattle.std.specs.{Prelude.{◌==◌, filter, nat_lt}, List.zip, Option.ok_or}
use Rattle.marple_base.specs.{Field.{all_fields, field_name, has_field, number_of}, declared.field.Field.{Field, TheVariants.Uid}}
use Rattle.marple_base.specs.declared.field.{FieldSet.FieldSet, Packet.Packet}
use Rattle.trace_reader.specs.{Numbers.{without_blanks, word_of_text}, Reading.records, Traces.{Contents, Layout, column_of_field}}
use Rattle.trace_reader.specs.Traces.{columns_named, columns_of_fields, contents, contents_from, each, only_column, packet_of}
use Rattle.trace_reader.specs.{Traces.{field_text_at, word_at, words_in_columns}, declared.fault.TheConstants.MAX_RECORDS}
use Rattle.trace_reader.proofs.TraceFacts.{contents_good}
use Rattle.queue_sim.{specs.{ReadBack.{ArePackets, ArePacketWords}, TraceText.{word_text, word_texts}}, proofs.DigitFacts.word_read}
use Rattle.queue_sim.proofs.ReadBackFacts.{word_small}
use Rattle.part_texts.specs.Laws.{FieldTextsReadBack, as_read, word_if_read}
use Rattle.part_texts.{specs.Texts.{fields_in, fields_text, lines_of, one_at_least, written_fields}, proofs.TextRecords.text_records}
use Rattle.part_texts.proofs.ReadColumns.{places, named_places, place_after, text_after, before, later, parted, others_before, others_later}

-- the place of a field among those that are read
abbrev place_of : FieldSet → Field → ℕ
place_of reads f = length (filter (has_field reads) (before f))

abbrev place_if : FieldSet → Field → Option ℕ
place_if reads f = cond (has_field reads f) (Some (place_of reads f)) None

-- some field is read
some_read : (reads : FieldSet) (f : Field) → has_field reads f ≡ true → fields_in reads ≡ [] → ⊥
some_read reads f read none =
    let at = place_after (has_field reads) f 0 (before f) (later f) (others_before f) (others_later f) read in
    let gone : places f 0 (fields_in reads) ≡ [] = ap (places f 0) none in
    let there : places f 0 (fields_in reads) ≡ (0 + place_of reads f) ∷ [] = ap (λ gs. places f 0 (filter (has_field reads) gs)) (parted f)
    ∙ at in
    absurd (cc (gone, there))

-- where a field is read, the columns are the fields that are read
written_are : (reads : FieldSet) (f : Field) → has_field reads f ≡ true → written_fields reads ≡ fields_in reads
written_are reads f read = by (fields_in reads) refl
  where
    by : (fs : List Field) → fields_in reads ≡ fs → one_at_least fs ≡ fs
    by [] e = absurd (some_read reads f read e)
    by (g ∷ gs) e = refl

column_here : (reads : FieldSet) (f : Field) → column_of_field reads (map field_name (written_fields reads)) f ≡ Ok (place_if reads f)
column_here reads f = by (has_field reads f) refl
  where
    by : (b : Bool) → has_field reads f ≡ b
        → cond b (only_column f (columns_named (field_name f) 0 (map field_name (written_fields reads)))) (Ok None) ≡ Ok
        (cond b (Some (place_of reads f)) None)
    by true read =
        let zero_more : 0 + place_of reads f ≡ place_of reads f = omega arith in
        ap (only_column f)
        (named_places f 0 (written_fields reads) ∙ ap (places f 0) (written_are reads f read)
        ∙ ap (λ gs. places f 0 (filter (has_field reads) gs)) (parted f)
        ∙ place_after (has_field reads) f 0 (before f) (later f) (others_before f) (others_later f) read
        ∙ ap (λ k. k ∷ []) zero_more)
    by false read = refl

each_ok : {A E : Type 0} (F : Field → Result A E) (G : Field → A) (fs : List Field) → ((f : Field) → F f ≡ Ok (G f))
    → each F fs ≡ Ok (map G fs)
unfolding each
each_ok F G [] is = refl
each_ok F G (f ∷ fs) is = rw (is f, each_ok F G fs is) refl

columns_here : (reads : FieldSet) → columns_of_fields reads (map field_name (written_fields reads)) ≡ Ok (map (place_if reads) all_fields)
columns_here reads = each_ok (column_of_field reads (map field_name (written_fields reads))) (place_if reads) all_fields (column_here reads)

word_here : (reads : FieldSet) (words : List ℕ) (f : Field) → ArePacketWords words
    → word_at (word_texts words (written_fields reads)) f (place_if reads f) ≡ Ok (word_if_read reads words f)
word_here reads words f are = by (has_field reads f) refl
  where
    by : (b : Bool) → has_field reads f ≡ b
        → word_at (word_texts words (written_fields reads)) f (cond b (Some (place_of reads f)) None) ≡ Ok
        (cond b (slice_index words (number_of f)) 0)
    by true read =
        let text : field_text_at (word_texts words (written_fields reads)) (place_of reads f) ≡ word_text f
        (slice_index words (number_of f)) =
        ap (λ gs. field_text_at (word_texts words gs) (place_of reads f))
        (written_are reads f read ∙ ap (filter (has_field reads)) (parted f))
        ∙ text_after (has_field reads) (λ g. word_text g (slice_index words (number_of g))) f (before f) (later f) read in
        ap (λ t. ok_or (word_of_text f (without_blanks t)) f) text
        ∙ ap (λ (o : Option ℕ). ok_or o f) (word_read f (slice_index words (number_of f)) (word_small words (number_of f) are))
    by false read = refl

each_zip : (W : Field × Option ℕ → Result ℕ Field) (G : Field → Option ℕ) (V : Field → ℕ) (fs : List Field)
    → ((f : Field) → W (f, G f) ≡ Ok (V f))
    → each W (zip fs (map G fs)) ≡ Ok (map V fs)
unfolding each
each_zip W G V [] is = refl
each_zip W G V (f ∷ fs) is = rw (is f, each_zip W G V fs is) refl

words_here : (reads : FieldSet) (words : List ℕ) → ArePacketWords words
    → words_in_columns (map (place_if reads) all_fields) (word_texts words (written_fields reads)) ≡ Ok
    (map (word_if_read reads words) all_fields)
words_here reads words are =
    each_zip (λ p. word_at (word_texts words (written_fields reads)) p.0 p.1) (place_if reads) (word_if_read reads words) all_fields
    (λ f. word_here reads words f are)

-- ---- the whole text

length-by : (words : List ℕ) (fields : List Field) → length (word_texts words fields) ≡ length (map field_name fields)
length-by words [] = refl
length-by words (f ∷ fields) = ap suc (length-by words fields)

abbrev layout : FieldSet → Layout
layout reads = record { width = length (map field_name (written_fields reads)); columns = map (place_if reads) all_fields }

packet_here : (reads : FieldSet) (packet : Packet) (n : ℕ) → ArePacketWords packet.words → n ≤ MAX_RECORDS
    → packet_of (layout reads) n (word_texts packet.words (written_fields reads)) ≡ Ok (as_read reads packet)
unfolding packet_of
packet_here reads packet n are within =
    let few : nat_lt MAX_RECORDS n ≡ false = grind (arith, nat_tests) in
    let fields = written_fields reads in
    let width : (length (word_texts packet.words fields) == length (map field_name fields)) ≡ true =
    eq-eqb (length (word_texts packet.words fields)) (length (map field_name fields)) (length-by packet.words fields) in
    rw (few, width, words_here reads packet.words are) refl

sent_here : (reads : FieldSet) (sent : List Packet) (n : ℕ) → ArePackets sent → n + length sent ≤ MAX_RECORDS + 1
    → contents_from (layout reads) n (map (λ (packet : Packet). word_texts packet.words (written_fields reads)) sent) ≡ record
    { packets = map (as_read reads) sent; fault = None }
unfolding contents_from
sent_here reads [] n are within = refl
sent_here reads (packet ∷ sent) n are within =
    rw (packet_here reads packet n are.1 (omega arith), sent_here reads sent (n + 1) are.2 (omega arith)) refl

-- there is a column
some_column : (reads : FieldSet) → (first : Field) × (rest : List Field) × (written_fields reads ≡ first ∷ rest)
some_column reads = by (fields_in reads)
  where
    by : (fs : List Field) → (first : Field) × (rest : List Field) × (one_at_least fs ≡ first ∷ rest)
    by [] = (Uid, [], refl)
    by (f ∷ fs) = (f, fs, refl)

records_here : (reads : FieldSet) (sent : List Packet) → ArePackets sent
    → records (fields_text reads sent) ≡ map field_name (written_fields reads)
    ∷ map (λ (packet : Packet). word_texts packet.words (written_fields reads)) sent
records_here reads sent are =
    let some = some_column reads in
    let P : List Field → Type 0 = λ fs. records (lines_of fs sent) ≡ map field_name fs
    ∷ map (λ (packet : Packet). word_texts packet.words fs) sent in
    subst P (sym some.2) (text_records some.0 some.1 sent are)

pub field_texts_read_back_lem : FieldTextsReadBack
field_texts_read_back_lem reads sent are few short =
    let is : contents (fields_text reads sent) reads ≡ record { packets = map (as_read reads) sent; fault = None } =
    contents_good (fields_text reads sent) reads (map field_name (written_fields reads))
    (map (λ (packet : Packet). word_texts packet.words (written_fields reads)) sent)
    (map (place_if reads) all_fields) short (records_here reads sent are) (sym (columns_here reads))
    ∙ sent_here reads sent 1 are (omega arith) in
    (ap (λ (c : Contents). c.packets) is, ap (λ (c : Contents). c.fault) is)
