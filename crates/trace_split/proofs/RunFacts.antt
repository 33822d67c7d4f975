-- A piece is within the limits of one run, or its packets begin those that it contains.
use Rattle.std.proofs.Common.{◌≡◌, ℕ, ◌+◌, Bool, true, false, cond, List, [], ◌∷◌, ◌++◌, length, None, Some, Result, Ok, Err, refl, sym, ap}
use Rattle.std.{proofs.Common.{◌∙◌}, specs.Prelude.{nat_lt, option_map}}
use Rattle.marple_base.specs.declared.field.{FieldSet.FieldSet, Packet.Packet}
use Rattle.trace_reader.specs.{Reading.records, Traces.{Contents, Layout, contents, contents_from, contents_with, layout_of, opening}}
use Rattle.trace_reader.specs.{Traces.{packet_of, rest_of, trace_fault, with_packet}, declared.fault.TheConstants.{MAX_RECORDS, MAX_TRACE}}
use Rattle.trace_reader.specs.declared.fault.TraceFault.{TraceFault}
use Rattle.trace_reader.specs.declared.fault.TraceFault.TheVariants as fault
use Rattle.trace_pieces.specs.{Faults.{after_records, trace_fault_of}, Wholes.{all_contents, contents_by, contents_of, record_packet}}
use Rattle.trace_pieces.specs.declared.fault.WholeFault.{WholeFault}
use Rattle.trace_pieces.specs.declared.fault.WholeFault.TheVariants as whole
use Rattle.trace_pieces.proofs.ContentFacts.{runs_read_the_whole_lem}

-- the packets go on
abbrev pub GoesOn : List Packet → List Packet → Type 0
GoesOn few all = (more : List Packet) × (all ≡ few ++ more)

rows_begin : (layout : Layout) (n : ℕ) (rest : List (List (List ℕ))) → GoesOn (contents_from layout n rest).packets
    (contents_of layout n rest).packets
unfolding contents_of contents_from packet_of record_packet
rows_begin layout n [] = ([], refl)
rows_begin layout n (fields ∷ rest) = limit (nat_lt MAX_RECORDS n) (rows_begin layout (n + 1) rest)
  where
    one : (o : Result Packet TraceFault) → GoesOn (contents_from layout (n + 1) rest).packets (contents_of layout (n + 1) rest).packets
        → GoesOn (with_packet o (contents_from layout (n + 1) rest)).packets (with_packet o (contents_of layout (n + 1) rest)).packets
    one (Err found) more = ([], refl)
    one (Ok packet) more = (more.0, ap (λ (ps : List Packet). packet ∷ ps) more.1)

    limit : (b : Bool) → GoesOn (contents_from layout (n + 1) rest).packets (contents_of layout (n + 1) rest).packets
        → GoesOn (with_packet (cond b (Err fault.TooManyPackets) (record_packet layout n fields))
        (contents_from layout (n + 1) rest)).packets (with_packet (record_packet layout n fields)
        (contents_of layout (n + 1) rest)).packets
    limit true more = ((with_packet (record_packet layout n fields) (contents_of layout (n + 1) rest)).packets, refl)
    limit false more = one (record_packet layout n fields) more

-- the packets of one run begin all packets
pub run_begins : (text : List ℕ) (reads : FieldSet) → GoesOn (contents text reads).packets (all_contents text reads).packets
unfolding all_contents contents opening
run_begins text reads = by (nat_lt MAX_TRACE (length text))
  where
    laid : (o : Result Layout TraceFault) → GoesOn (contents_with o (rest_of (records text))).packets
        (contents_by o (rest_of (records text))).packets
    laid (Err found) = ([], refl)
    laid (Ok layout) = rows_begin layout 1 (rest_of (records text))

    by : (b : Bool) → GoesOn (contents_with (cond b (Err fault.TraceTooLong) (layout_of (records text) reads))
        (rest_of (records text))).packets
        (contents_by (layout_of (records text) reads) (rest_of (records text))).packets
    by true = ((contents_by (layout_of (records text) reads) (rest_of (records text))).packets, refl)
    by false = laid (layout_of (records text) reads)

-- without a fault, a piece is within the limits
pub whole_piece : (text : List ℕ) (reads : FieldSet) → trace_fault text reads ≡ None → all_contents text reads ≡ contents text reads
whole_piece text reads none = runs_read_the_whole_lem text reads (λ e. absurd (cc (none, e))) (λ e. absurd (cc (none, e)))

not_long : (found : WholeFault) → trace_fault_of found ≡ fault.TraceTooLong → ⊥
not_long whole.NoHeader e = absurd (cc e)
not_long (whole.FieldTwice field) e = absurd (cc e)
not_long (whole.FieldMissing field) e = absurd (cc e)
not_long (whole.FieldCount n) e = absurd (cc e)
not_long (whole.BadNumber n field) e = absurd (cc e)

not_many : (found : WholeFault) → trace_fault_of found ≡ fault.TooManyPackets → ⊥
not_many whole.NoHeader e = absurd (cc e)
not_many (whole.FieldTwice field) e = absurd (cc e)
not_many (whole.FieldMissing field) e = absurd (cc e)
not_many (whole.FieldCount n) e = absurd (cc e)
not_many (whole.BadNumber n field) e = absurd (cc e)

-- with a fault that isn't one of the limits, it is within them too
pub refused_piece : (text : List ℕ) (reads : FieldSet) (given : ℕ) (found : WholeFault) (bad : TraceFault)
    → trace_fault text reads ≡ Some bad
    → trace_fault_of found ≡ after_records given bad → option_map (after_records given) (all_contents text reads).fault ≡ Some
    (trace_fault_of found)
refused_piece text reads given found bad is after =
    let long : trace_fault text reads ≡ Some fault.TraceTooLong → ⊥ = λ e.
    let same : bad ≡ fault.TraceTooLong = cc (is, e) in not_long found (after ∙ ap (after_records given) same) in
    let many : trace_fault text reads ≡ Some fault.TooManyPackets → ⊥ = λ e.
    let same : bad ≡ fault.TooManyPackets = cc (is, e) in not_many found (after ∙ ap (after_records given) same) in
    let all = runs_read_the_whole_lem text reads long many in
    ap (λ (x : Contents). option_map (after_records given) x.fault) all ∙ ap (option_map (after_records given)) is ∙ ap Some (sym after)
