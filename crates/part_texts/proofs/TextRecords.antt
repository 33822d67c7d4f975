-- The records of a text of packets: a line for its columns, and one for each packet.
use Rattle.std.proofs.Common.{◌≡◌, ℕ, suc, zero, ◌-◌, ◌<◌, ◌≤◌, ◌^◌, Bool, true, false, cond, List, [], ◌∷◌, ◌++◌, length, map, slice_index}
use Rattle.std.proofs.{Common.{refl, sym, ap, ◌∙◌, append_assoc, append-nil, lit<, arith}, lemmas.Fmt.decimal_is_IsNumeral}
use Rattle.std.specs.{Prelude.{⊤, ◌||◌, ◌==◌, codes, decimal}, List.list_any}
use Rattle.csv.specs.{Machine.{field_after, fields_after, is_end}, Quoting.needs_byte, Reading.strip_bom, Writing.default_writer}
use Rattle.csv.specs.declared.parser.Action.{Action}
use Rattle.csv.specs.declared.parser.Action.TheVariants as act
use Rattle.csv.specs.declared.parser.State.{State}
use Rattle.csv.specs.declared.parser.State.TheVariants as st
use Rattle.marple_base.specs.{Field.{field_name, number_of}, declared.field.Field.{Field, TheVariants.{Switch, Qid, Uid, SrcIp, DstIp}}}
use Rattle.marple_base.specs.declared.field.Field.TheVariants.{SrcPort, DstPort, Proto, PktLen, PayloadLen, TcpSeq, Tin, Tout, QSize}
use Rattle.marple_base.specs.declared.field.Packet.{Packet}
use Rattle.trace_reader.{specs.Reading.records, proofs.RowFacts.{does, rows_are, rows_from}}
use Rattle.queue_sim.specs.{ReadBack.{ArePackets, ArePacketWords}, TraceText.{continued, line, word_text, word_texts}}
use Rattle.queue_sim.proofs.{DigitFacts.word_plain, ReadBackFacts.word_small}
use Rattle.trace_pieces.specs.Machine.{rows}
use Rattle.part_texts.{specs.Texts.lines_of, proofs.TextFacts.body_of}

-- the reader is before a field or in one without quotes
abbrev IsInLine : State → Type 0
IsInLine st.StartRecord = ⊤
IsInLine st.StartField = ⊤
IsInLine st.InField = ⊤
IsInLine s = ⊥

-- a byte that ends nothing and begins no quotes
abbrev IsPlainByte : ℕ → Type 0
IsPlainByte c = needs_byte default_writer c ≡ false

or_false : (x y : Bool) → (x || y) ≡ false → (x ≡ false) × (y ≡ false)
or_false true y e = absurd (cc e)
or_false false y e = (refl, e)

copies : (s : State) (c : ℕ) → IsInLine s → IsPlainByte c → does s c ≡ (st.InField, act.Copy)
copies s c in_line plain = by s in_line
  where
    apart : ((c == 44) ≡ false) × ((c == 34) ≡ false) × ((c == 13) ≡ false) × ((c == 10) ≡ false)
    apart =
        let outer = or_false _ _ plain in
        let inner = or_false _ _ outer.0 in
        let marks = or_false ((c == 44) || (c == 34)) ((c == 13) || (c == 10)) inner.0 in
        let first = or_false (c == 44) (c == 34) marks.0 in
        let second = or_false (c == 13) (c == 10) marks.1 in
        (first.0, first.1, second.0, second.1)

    by : (s : State) → IsInLine s → does s c ≡ (st.InField, act.Copy)
    by st.StartRecord h = rw (apart.2, apart.3, apart.1, apart.0) refl
    by st.StartField h = rw (apart.2, apart.3, apart.1, apart.0) refl
    by st.InField h = rw (apart.2, apart.3, apart.0) refl
    by st.InQuoted h = absurd h
    by st.AfterQuote h = absurd h
    by st.InEscape h = absurd h
    by st.InComment h = absurd h
    by st.AfterCr h = absurd h

-- one byte, by what it does
by_step : (s : State) (f : List (List ℕ)) (p : List ℕ) (c : ℕ) (more : List ℕ) (x : State × Action) → does s c ≡ x → is_end x.1 ≡ false
    → rows_from s f p (c ∷ more) ≡ rows_from x.0 (fields_after x.1 f p) (field_after x.1 c p) more
unfolding rows_from
by_step s f p c more x is goes = rw is (rw goes refl)

by_end : (s : State) (f : List (List ℕ)) (p : List ℕ) (c : ℕ) (more : List ℕ) (x : State × Action) → does s c ≡ x → is_end x.1 ≡ true
    → rows_from s f p (c ∷ more) ≡ fields_after x.1 f p ∷ rows_from x.0 [] [] more
unfolding rows_from
by_end s f p c more x is end = rw is (rw end refl)

abbrev IsPlainText : List ℕ → Type 0
IsPlainText text = list_any (needs_byte default_writer) text ≡ false

copy_rows : (f : List (List ℕ)) (p text more : List ℕ) → IsPlainText text
    → rows_from st.InField f p (text ++ more) ≡ rows_from st.InField f (p ++ text) more
copy_rows f p [] more plain = ap (λ q. rows_from st.InField f q more) (sym (append-nil p))
copy_rows f p (c ∷ text) more plain =
    let both = or_false (needs_byte default_writer c) (list_any (needs_byte default_writer) text) plain in
    by_step st.InField f p c (text ++ more) (st.InField, act.Copy) (copies st.InField c tt both.0) refl
    ∙ copy_rows f (p ++ c ∷ []) text more both.1
    ∙ ap (λ q. rows_from st.InField f q more) (append_assoc p (c ∷ []) text)

-- a part of a line
abbrev IsPart : List ℕ → Type 0
IsPart text = IsPlainText text × (1 ≤ length text)

start_rows : (s : State) (f : List (List ℕ)) (text more : List ℕ) → IsInLine s → IsPart text
    → rows_from s f [] (text ++ more) ≡ rows_from st.InField f text more
start_rows s f [] more in_line part = absurd (omega (arith, part.1))
start_rows s f (c ∷ text) more in_line part =
    let both = or_false (needs_byte default_writer c) (list_any (needs_byte default_writer) text) part.0 in
    by_step s f [] c (text ++ more) (st.InField, act.Copy) (copies s c in_line both.0) refl ∙ copy_rows f (c ∷ []) text more both.1

abbrev AreParts : List (List ℕ) → Type 0
AreParts [] = ⊤
AreParts (text ∷ texts) = IsPart text × AreParts texts

line_rows : (f : List (List ℕ)) (p : List ℕ) (parts : List (List ℕ)) (more : List ℕ) → AreParts parts
    → rows_from st.InField f p (continued parts ++ 10 ∷ more) ≡ (f ++ p ∷ parts) ∷ rows_from st.StartRecord [] [] more
line_rows f p [] more are = by_end st.InField f p 10 more (st.StartRecord, act.EndRecord) refl refl
line_rows f p (q ∷ parts) more are =
    let rest = continued parts ++ 10 ∷ more in
    by_step st.InField f p 44 ((q ++ continued parts) ++ 10 ∷ more) (st.StartField, act.EndField) refl refl
    ∙ ap (rows_from st.StartField (f ++ p ∷ []) []) (append_assoc q (continued parts) (10 ∷ more))
    ∙ start_rows st.StartField (f ++ p ∷ []) q rest tt are.0
    ∙ line_rows (f ++ p ∷ []) q parts more are.1
    ∙ ap (λ (r : List (List ℕ)). r ∷ rows_from st.StartRecord [] [] more) (append_assoc f (p ∷ []) (q ∷ parts))

-- the record of a line
record_rows : (part : List ℕ) (parts : List (List ℕ)) (more : List ℕ) → AreParts (part ∷ parts)
    → rows_from st.StartRecord [] [] (line (part ∷ parts) ++ more) ≡ (part ∷ parts) ∷ rows_from st.StartRecord [] [] more
record_rows part parts more are =
    ap (rows_from st.StartRecord [] [])
    (append_assoc (part ++ continued parts) (10 ∷ []) more ∙ append_assoc part (continued parts) (10 ∷ more))
    ∙ start_rows st.StartRecord [] part (continued parts ++ 10 ∷ more) tt are.0 ∙ line_rows [] part parts more are.1

-- ---- the texts of packets

decimal_some : (n : ℕ) → n < 2 ^ 64 → 1 ≤ length (decimal n)
decimal_some n small = omega (arith, (decimal_is_IsNumeral n small).0.0)

word_some : (field : Field) (n : ℕ) → n < 2 ^ 64 → 1 ≤ length (word_text field n)
word_some Switch n small = decimal_some n small
word_some Qid n small = decimal_some n small
word_some Uid n small = decimal_some n small
word_some SrcIp n small = decimal_some n small
word_some DstIp n small = decimal_some n small
word_some SrcPort n small = decimal_some n small
word_some DstPort n small = decimal_some n small
word_some Proto n small = decimal_some n small
word_some PktLen n small = decimal_some n small
word_some PayloadLen n small = decimal_some n small
word_some TcpSeq n small = decimal_some n small
word_some Tin n small = decimal_some n small
word_some Tout n small = by (n == 2 ^ 64 - 1)
  where
    by : (b : Bool) → 1 ≤ length (cond b (codes "inf") (decimal n))
    by true = omega arith
    by false = decimal_some n small
word_some QSize n small = decimal_some n small

word_parts : (words : List ℕ) (fields : List Field) → ArePacketWords words → AreParts (word_texts words fields)
word_parts words [] are = tt
word_parts words (field ∷ fields) are =
    let small = word_small words (number_of field) are in (
      (word_plain field (slice_index words (number_of field)) small, word_some field (slice_index words (number_of field)) small),
      word_parts
          words fields are,
    )

name_part : (field : Field) → IsPart (field_name field)
name_part Switch = (refl, omega arith)
name_part Qid = (refl, omega arith)
name_part Uid = (refl, omega arith)
name_part SrcIp = (refl, omega arith)
name_part DstIp = (refl, omega arith)
name_part SrcPort = (refl, omega arith)
name_part DstPort = (refl, omega arith)
name_part Proto = (refl, omega arith)
name_part PktLen = (refl, omega arith)
name_part PayloadLen = (refl, omega arith)
name_part TcpSeq = (refl, omega arith)
name_part Tin = (refl, omega arith)
name_part Tout = (refl, omega arith)
name_part QSize = (refl, omega arith)

name_parts : (fields : List Field) → AreParts (map field_name fields)
name_parts [] = tt
name_parts (field ∷ fields) = (name_part field, name_parts fields)

body_rows : (field : Field) (fields : List Field) (sent : List Packet) → ArePackets sent
    → rows_from st.StartRecord [] [] (body_of (field ∷ fields) sent) ≡ map (λ (packet : Packet). word_texts packet.words (field ∷ fields))
    sent
unfolding rows_from
body_rows field fields [] are = refl
body_rows field fields (packet ∷ sent) are =
    record_rows (word_text field (slice_index packet.words (number_of field))) (word_texts packet.words fields)
    (body_of (field ∷ fields) sent)
    (word_parts packet.words (field ∷ fields) are.1)
    ∙ ap (λ (r : List (List (List ℕ))). word_texts packet.words (field ∷ fields) ∷ r) (body_rows field fields sent are.2)

-- no name begins a byte order mark
no_mark : (field : Field) (rest : List ℕ) → strip_bom (field_name field ++ rest) ≡ field_name field ++ rest
unfolding strip_bom
no_mark Switch rest = refl
no_mark Qid rest = refl
no_mark Uid rest = refl
no_mark SrcIp rest = refl
no_mark DstIp rest = refl
no_mark SrcPort rest = refl
no_mark DstPort rest = refl
no_mark Proto rest = refl
no_mark PktLen rest = refl
no_mark PayloadLen rest = refl
no_mark TcpSeq rest = refl
no_mark Tin rest = refl
no_mark Tout rest = refl
no_mark QSize rest = refl

-- the records of the text
pub text_records : (field : Field) (fields : List Field) (sent : List Packet) → ArePackets sent
    → records (lines_of (field ∷ fields) sent) ≡ map field_name (field ∷ fields)
    ∷ map (λ (packet : Packet). word_texts packet.words (field ∷ fields)) sent
text_records field fields sent are =
    let body = body_of (field ∷ fields) sent in
    let names = map field_name fields in
    let front : lines_of (field ∷ fields) sent ≡ field_name field ++ ((continued names ++ 10 ∷ []) ++ body) =
    ap (λ t. t ++ body) (append_assoc (field_name field) (continued names) (10 ∷ []))
    ∙ append_assoc (field_name field) (continued names ++ 10 ∷ []) body in
    ap records front ∙ ap rows (no_mark field ((continued names ++ 10 ∷ []) ++ body)) ∙ ap rows (sym front)
    ∙ rows_are (lines_of (field ∷ fields) sent)
    ∙ record_rows (field_name field) names body (name_parts (field ∷ fields))
    ∙ ap (λ (r : List (List (List ℕ))). map field_name (field ∷ fields) ∷ r) (body_rows field fields sent are)
