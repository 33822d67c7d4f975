-- What a trace contains, in terms of what its pieces contain.
use Rattle.std.proofs.Common.{◌≡◌, ◌≢◌, ℕ, suc, ◌+◌, Bool, true, false, cond, not, List, [], ◌∷◌, ◌++◌, length, Option, None, Some, Result}
use Rattle.std.{proofs.Common.{Ok, Err, refl, sym, ap, ◌∙◌, append_assoc, length-append, arith}, specs.Prelude.{◌==◌, nat_lt, option_map}}
use Rattle.marple_base.specs.declared.field.{Field.Field, FieldSet.FieldSet, Packet.Packet}
use Rattle.trace_reader.specs.{Reading.records, Traces.{Contents, Layout, columns_of_fields, contents, contents_from, contents_with}}
use Rattle.trace_reader.specs.Traces.{layout_of, layout_with, opening, packet_of, packet_with, rest_of, with_packet, words_in_columns}
use Rattle.trace_reader.specs.declared.fault.{TheConstants.{MAX_RECORDS, MAX_TRACE}, TraceFault.TraceFault}
use Rattle.trace_reader.specs.declared.fault.TraceFault.TheVariants as fault
use Rattle.trace_pieces.specs.{Faults.after_records, Laws.RunsReadTheWhole, Machine.{EndsBetween, IsHead, rows}}
use Rattle.trace_pieces.{specs.Wholes.{all_contents, contents_by, contents_of, record_packet}, proofs.RowFacts.rows_cut}

-- ---- one run

run_rows : (layout : Layout) (n : ℕ) (rest : List (List (List ℕ))) → (contents_from layout n rest).fault ≢ Some fault.TooManyPackets
    → contents_of layout n rest ≡ contents_from layout n rest
unfolding contents_of contents_from packet_of record_packet
run_rows layout n [] few = refl
run_rows layout n (fields ∷ rest) few = limit (nat_lt MAX_RECORDS n) few (run_rows layout (n + 1) rest)
  where
    one : (o : Result Packet TraceFault) → (with_packet o (contents_from layout (n + 1) rest)).fault ≢ Some fault.TooManyPackets
        → ((contents_from layout (n + 1) rest).fault ≢ Some fault.TooManyPackets
        → contents_of layout (n + 1) rest ≡ contents_from layout (n + 1) rest)
        → with_packet o (contents_of layout (n + 1) rest) ≡ with_packet o (contents_from layout (n + 1) rest)
    one (Err found) few more = refl
    one (Ok packet) few more = ap (with_packet (Ok packet)) (more few)

    limit : (b : Bool) → (with_packet (cond b (Err fault.TooManyPackets) (record_packet layout n fields))
        (contents_from layout (n + 1) rest)).fault ≢ Some fault.TooManyPackets
        → ((contents_from layout (n + 1) rest).fault ≢ Some fault.TooManyPackets
        → contents_of layout (n + 1) rest ≡ contents_from layout (n + 1) rest)
        → with_packet (record_packet layout n fields) (contents_of layout (n + 1) rest) ≡ with_packet
        (cond b (Err fault.TooManyPackets) (record_packet layout n fields)) (contents_from layout (n + 1) rest)
    limit true few more = absurd (few refl)
    limit false few more = one (record_packet layout n fields) few more

pub runs_read_the_whole_lem : RunsReadTheWhole
unfolding all_contents contents opening
runs_read_the_whole_lem text reads short few = by (nat_lt MAX_TRACE (length text)) short few
  where
    laid : (o : Result Layout TraceFault) → (contents_with o (rest_of (records text))).fault ≢ Some fault.TooManyPackets
        → contents_by o (rest_of (records text)) ≡ contents_with o (rest_of (records text))
    laid (Err found) few = refl
    laid (Ok layout) few = run_rows layout 1 (rest_of (records text)) few

    by : (b : Bool) → (contents_with (cond b (Err fault.TraceTooLong) (layout_of (records text) reads)) (rest_of (records text))).fault ≢
        Some fault.TraceTooLong
        → (contents_with (cond b (Err fault.TraceTooLong) (layout_of (records text) reads)) (rest_of (records text))).fault ≢ Some
        fault.TooManyPackets
        → contents_by (layout_of (records text) reads) (rest_of (records text))
        ≡ contents_with (cond b (Err fault.TraceTooLong) (layout_of (records text) reads)) (rest_of (records text))
    by true short few = absurd (short refl)
    by false short few = laid (layout_of (records text) reads) few

-- ---- records after records

-- what more contains comes after these packets, unless they have a fault after them
abbrev pub then_by : List Packet → Option TraceFault → Contents → Contents
then_by packets None more = record { packets = packets ++ more.packets; fault = more.fault }
then_by packets (Some found) more = record { packets = packets; fault = Some found }

abbrev pub then_more : Contents → Contents → Contents
then_more c more = then_by c.packets c.fault more

contents_append : (layout : Layout) (n : ℕ) (a b : List (List (List ℕ)))
    → contents_of layout n (a ++ b) ≡ then_more (contents_of layout n a) (contents_of layout (n + length a) b)
unfolding contents_of
contents_append layout n [] b = let same : n ≡ n + 0 = omega arith in ap (λ k. contents_of layout k b) same
contents_append layout n (fields ∷ a) b =
    let next : n + 1 + length a ≡ n + length (fields ∷ a) = omega arith in
    ap (with_packet (record_packet layout n fields)) (contents_append layout (n + 1) a b)
    ∙ by (record_packet layout n fields) (contents_of layout (n + 1) a) (contents_of layout (n + 1 + length a) b)
    ∙ ap (λ k. then_more (with_packet (record_packet layout n fields) (contents_of layout (n + 1) a)) (contents_of layout k b)) next
  where
    first : (packet : Packet) (packets : List Packet) (found : Option TraceFault) (more : Contents)
        → with_packet (Ok packet) (then_by packets found more) ≡ then_by (packet ∷ packets) found more
    first packet packets None more = refl
    first packet packets (Some found) more = refl

    by : (o : Result Packet TraceFault) (c more : Contents) → with_packet o (then_more c more) ≡ then_more (with_packet o c) more
    by (Err found) c more = refl
    by (Ok packet) c more = first packet c.packets c.fault more

-- the same contents after so many records more
abbrev pub shifted : ℕ → Contents → Contents
shifted k c = record { packets = c.packets; fault = option_map (after_records k) c.fault }

contents_shift : (layout : Layout) (k n : ℕ) (a : List (List (List ℕ))) → contents_of layout (k + n) a ≡ shifted k (contents_of layout n a)
unfolding contents_of record_packet
contents_shift layout k n [] = refl
contents_shift layout k n (fields ∷ a) =
    let next : k + n + 1 ≡ k + (n + 1) = omega arith in
    ap (λ m. with_packet (record_packet layout (k + n) fields) (contents_of layout m a)) next
    ∙ ap (with_packet (record_packet layout (k + n) fields)) (contents_shift layout k (n + 1) a)
    ∙ wide (not (length fields == layout.width)) (contents_of layout (n + 1) a)
  where
    words : (o : Result (List ℕ) Field) (c : Contents)
        → with_packet (packet_with (k + n) o) (shifted k c) ≡ shifted k (with_packet (packet_with n o) c)
    words (Err field) c = refl
    words (Ok ws) c = refl

    wide : (b : Bool) (c : Contents)
        → with_packet (cond b (Err (fault.FieldCount (k + n))) (packet_with (k + n) (words_in_columns layout.columns fields))) (shifted k c)
        ≡ shifted k (with_packet (cond b (Err (fault.FieldCount n)) (packet_with n (words_in_columns layout.columns fields))) c)
    wide true c = refl
    wide false c = words (words_in_columns layout.columns fields) c

-- as many packets as records, where there is no fault
contents_length : (layout : Layout) (n : ℕ) (a : List (List (List ℕ))) → (contents_of layout n a).fault ≡ None
    → length (contents_of layout n a).packets ≡ length a
unfolding contents_of
contents_length layout n [] none = refl
contents_length layout n (fields ∷ a) none = by (record_packet layout n fields) none (contents_length layout (n + 1) a)
  where
    by : (o : Result Packet TraceFault) → (with_packet o (contents_of layout (n + 1) a)).fault ≡ None
        → ((contents_of layout (n + 1) a).fault ≡ None → length (contents_of layout (n + 1) a).packets ≡ length a)
        → length (with_packet o (contents_of layout (n + 1) a)).packets ≡ suc (length a)
    by (Err found) none more = absurd (cc none)
    by (Ok packet) none more = ap suc (more none)

-- ---- pieces

-- what is contained after these packets
abbrev pub after : List Packet → Contents → Contents
after sent c = record { packets = sent ++ c.packets; fault = option_map (after_records (length sent)) c.fault }

-- the contents of a text after its header, by what the header gives
abbrev laid : List (List ℕ) → FieldSet → Result Layout TraceFault
laid header reads = layout_with (length header) (columns_of_fields reads header)

head_contents : (h more : List ℕ) (reads : FieldSet) (head : IsHead h)
    → all_contents (h ++ more) reads ≡ contents_by (laid head.header reads) (rows more)
unfolding all_contents
head_contents h more reads head = ap (λ (rest : List (List (List ℕ))). contents_by (layout_of rest reads) (rest_of rest)) (head.all more)

pieces_by : (o : Result Layout TraceFault) (a b : List (List (List ℕ))) → (contents_by o a).fault ≡ None
    → contents_by o (a ++ b) ≡ after (contents_by o a).packets (contents_by o b)
pieces_by (Err found) a b none = absurd (cc none)
pieces_by (Ok layout) a b none =
    let c = contents_of layout 1 a in
    let size : length c.packets ≡ length a = contents_length layout 1 a none in
    let turn : 1 + length a ≡ length a + 1 = omega arith in
    contents_append layout 1 a b
    ∙ ap (λ found. then_by c.packets found (contents_of layout (1 + length a) b)) none
    ∙ ap (λ (more : Contents). then_by c.packets None more)
    (ap (λ k. contents_of layout k b) turn ∙ contents_shift layout (length a) 1 b ∙ ap (λ k. shifted k (contents_of layout 1 b)) (sym size))

fault_by : (o : Result Layout TraceFault) (a b : List (List (List ℕ))) (found : TraceFault) → (contents_by o a).fault ≡ Some found
    → contents_by o (a ++ b) ≡ contents_by o a
fault_by (Err bad) a b found is = refl
fault_by (Ok layout) a b found is =
    let c = contents_of layout 1 a in
    contents_append layout 1 a b
    ∙ ap (λ f. then_by c.packets f (contents_of layout (1 + length a) b)) is
    ∙ ap (λ (f : Option TraceFault). record { packets = c.packets; fault = f }) (sym is)

piece_rows : (h c b : List ℕ) (reads : FieldSet) (head : IsHead h) → EndsBetween c
    → all_contents (h ++ (c ++ b)) reads ≡ contents_by (laid head.header reads) (rows c ++ rows b)
piece_rows h c b reads head between = head_contents h (c ++ b) reads head ∙ ap (contents_by (laid head.header reads)) (rows_cut c b between)

-- A piece without a fault: the contents go on after its packets as they would without it.
pub piece_sent : (h c b : List ℕ) (reads : FieldSet) → IsHead h → EndsBetween c → (all_contents (h ++ c) reads).fault ≡ None
    → all_contents (h ++ (c ++ b)) reads ≡ after (all_contents (h ++ c) reads).packets (all_contents (h ++ b) reads)
piece_sent h c b reads head between none =
    let one = head_contents h c reads head in
    let o = laid head.header reads in
    piece_rows h c b reads head between
    ∙ pieces_by o (rows c) (rows b) (sym (ap (λ (x : Contents). x.fault) one) ∙ none)
    ∙ ap (λ (ps : List Packet). after ps (contents_by o (rows b))) (sym (ap (λ (x : Contents). x.packets) one))
    ∙ ap (after (all_contents (h ++ c) reads).packets) (sym (head_contents h b reads head))

-- A piece with a fault: that is the first fault, whatever comes after it.
pub piece_refused : (h c b : List ℕ) (reads : FieldSet) (found : TraceFault) → IsHead h → EndsBetween c
    → (all_contents (h ++ c) reads).fault ≡ Some found → all_contents (h ++ (c ++ b)) reads ≡ all_contents (h ++ c) reads
piece_refused h c b reads found head between is =
    let one = head_contents h c reads head in
    piece_rows h c b reads head between
    ∙ fault_by (laid head.header reads) (rows c) (rows b) found (sym (ap (λ (x : Contents). x.fault) one) ∙ is)
    ∙ sym one

-- ---- packets after packets

shift_shift : (i k : ℕ) (o : Option TraceFault) → option_map (after_records i) (option_map (after_records k) o) ≡ option_map
    (after_records (i + k)) o
shift_shift i k None = refl
shift_shift i k (Some fault.TraceTooLong) = refl
shift_shift i k (Some fault.NoHeader) = refl
shift_shift i k (Some (fault.FieldTwice field)) = refl
shift_shift i k (Some (fault.FieldMissing field)) = refl
shift_shift i k (Some (fault.FieldCount n)) = let e : i + (k + n) ≡ i + k + n = omega arith in ap (λ m. Some (fault.FieldCount m)) e
shift_shift i k (Some (fault.BadNumber n field)) = let e : i + (k + n) ≡ i + k + n =
    omega arith in ap (λ m. Some (fault.BadNumber m field)) e
shift_shift i k (Some fault.TooManyPackets) = refl
shift_shift i k (Some (fault.TooManySwitches n)) = let e : i + (k + n) ≡ i + k + n =
    omega arith in ap (λ m. Some (fault.TooManySwitches m)) e

shift_none : (o : Option TraceFault) → option_map (after_records 0) o ≡ o
shift_none None = refl
shift_none (Some fault.TraceTooLong) = refl
shift_none (Some fault.NoHeader) = refl
shift_none (Some (fault.FieldTwice field)) = refl
shift_none (Some (fault.FieldMissing field)) = refl
shift_none (Some (fault.FieldCount n)) = let e : 0 + n ≡ n = omega arith in ap (λ m. Some (fault.FieldCount m)) e
shift_none (Some (fault.BadNumber n field)) = let e : 0 + n ≡ n = omega arith in ap (λ m. Some (fault.BadNumber m field)) e
shift_none (Some fault.TooManyPackets) = refl
shift_none (Some (fault.TooManySwitches n)) = let e : 0 + n ≡ n = omega arith in ap (λ m. Some (fault.TooManySwitches m)) e

pub after_none : (c : Contents) → after [] c ≡ c
after_none c = ap (λ (f : Option TraceFault). record { packets = c.packets; fault = f }) (shift_none c.fault)

pub after_after : (sent more : List Packet) (c : Contents) → after sent (after more c) ≡ after (sent ++ more) c
after_after sent more c =
    ap (λ (ps : List Packet). record {
      packets = ps;
      fault = option_map (after_records (length sent))
          (option_map (after_records (length more)) c.fault);
    })
    (sym (append_assoc sent more c.packets))
    ∙ ap (λ (f : Option TraceFault). record { packets = (sent ++ more) ++ c.packets; fault = f })
    (shift_shift (length sent) (length more) c.fault ∙ ap (λ k. option_map (after_records k) c.fault) (sym (length-append sent more)))
