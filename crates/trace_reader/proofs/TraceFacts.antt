-- What one call of `next` takes off what is still to come.
use Rattle.std.proofs.Common.{◌≡◌, ℕ, ◌+◌, ◌<◌, ◌≤◌, Bool, true, false, cond, length, List, [], ◌∷◌, Option, Some, None, Ok, Err, refl, sym}
use Rattle.std.{proofs.{Common.{ap, ◌∙◌, arith}, lemmas.Bool.Decides.nat_tests}, specs.Prelude.nat_lt}
use Rattle.marple_base.specs.declared.field.{Packet.Packet, FieldSet.FieldSet}
use Rattle.trace_reader.specs.{Reading.records, Traces.{Contents, Layout, columns_of_fields, contents, contents_from, contents_with}}
use Rattle.trace_reader.specs.{Traces.{layout_of, layout_with, opening, packet_of, rest_of, trace_fault}, TraceView.upcoming_by}
use Rattle.trace_reader.specs.Upcoming.{Gives, IsAtEnd, IsAtFault, Upcoming, upcoming_of}
use Rattle.trace_reader.specs.declared.fault.{TheConstants.{MAX_RECORDS, MAX_TRACE}, TraceFault.TraceFault}
use Rattle.trace_reader.specs.declared.fault.TraceFault.TheVariants as fault
use Rattle.trace_reader.specs.declared.trace.Progress.{Progress}
use Rattle.trace_reader.specs.declared.trace.Progress.TheVariants as progress

-- a record that is a packet
pub taken : (old : Upcoming) (at : Progress) (layout : Layout) (n : ℕ) (left rest : List (List (List ℕ))) (fields : List (List ℕ))
    (packet : Packet)
    → upcoming_by at (contents_from layout n left) ≡ old → at ≡ progress.Reading → left ≡ fields ∷ rest
    → packet_of layout n fields ≡ Ok packet
    → Gives old packet (upcoming_by at (contents_from layout (n + 1) rest))
unfolding contents_from
taken _ at _ n _ _ _ _ view reading has is = rw (← view, reading, has, is)
    (record { packets = refl; fault = refl; going = refl })

-- a record with a fault
pub refused : (old : Upcoming) (at : Progress) (layout : Layout) (n : ℕ) (left rest : List (List (List ℕ))) (fields : List (List ℕ))
    (found : TraceFault)
    → upcoming_by at (contents_from layout n left) ≡ old → at ≡ progress.Reading → left ≡ fields ∷ rest
    → packet_of layout n fields ≡ Err found
    → IsAtFault old found
unfolding contents_from
refused _ at _ n _ _ _ _ view reading has is = rw (← view, reading, has, is) (record { packets = refl; fault = refl })

-- no record
pub ended : (old : Upcoming) (at : Progress) (layout : Layout) (n : ℕ) (left : List (List (List ℕ)))
    → upcoming_by at (contents_from layout n left) ≡ old → at ≡ progress.Reading → left ≡ []
    → IsAtEnd old × (record { packets = []; fault = None; stopped = None } ≡ old)
unfolding contents_from
ended _ at _ n _ view reading none = rw (← view, reading, none) (record { packets = refl; fault = refl }, refl)

-- a packet's record is one of those that a trace may have
pub packet_within : (layout : Layout) (n : ℕ) (fields : List (List ℕ)) (packet : Packet) → packet_of layout n fields ≡ Ok packet
    → n ≤ MAX_RECORDS
unfolding packet_of
packet_within layout n fields packet is = by (nat_lt MAX_RECORDS n) refl is
  where
    by : (b : Bool) → nat_lt MAX_RECORDS n ≡ b → packet_of layout n fields ≡ Ok packet → n ≤ MAX_RECORDS
    by true e is = absurd (cc (rw e at is))
    by false e is = grind (arith, nat_tests)

too_long_test : (text : List ℕ) (b : Bool) → nat_lt MAX_TRACE (length text) ≡ b → (reads : FieldSet)
    → opening text reads ≡ cond b (Err fault.TraceTooLong) (layout_of (records text) reads)
unfolding opening
too_long_test _ b e _ = rw e

pub opening_long : (text : List ℕ) (reads : FieldSet) → MAX_TRACE < length text → opening text reads ≡ Err fault.TraceTooLong
opening_long text reads long = too_long_test text true (grind (arith, nat_tests)) reads

pub opening_short : (text : List ℕ) (reads : FieldSet) → length text ≤ MAX_TRACE → opening text reads ≡ layout_of (records text) reads
opening_short text reads short = too_long_test text false (grind (arith, nat_tests)) reads

pub opening_empty : (text : List ℕ) (reads : FieldSet) → length text ≤ MAX_TRACE → records text ≡ []
    → opening text reads ≡ Err fault.NoHeader
opening_empty text reads short none = rw (opening_short text reads short, none)

pub opening_bad : (text : List ℕ) (reads : FieldSet) (header : List (List ℕ)) (rest : List (List (List ℕ))) (found : TraceFault)
    → length text ≤ MAX_TRACE → records text ≡ header ∷ rest → Err found ≡ columns_of_fields reads header → opening text reads ≡ Err found
opening_bad text reads header _ _ short all bad = opening_short text reads short ∙ ap (λ rows. layout_of rows reads) all
    ∙ ap (layout_with (length header)) (sym bad)

pub opening_good : (text : List ℕ) (reads : FieldSet) (header : List (List ℕ)) (rest : List (List (List ℕ))) (columns : List (Option ℕ))
    → length text ≤ MAX_TRACE → records text ≡ header ∷ rest → Ok columns ≡ columns_of_fields reads header
    → opening text reads ≡ Ok (record { width = length header; columns = columns })
opening_good text reads header _ _ short all good = opening_short text reads short ∙ ap (λ rows. layout_of rows reads) all
    ∙ ap (layout_with (length header)) (sym good)

pub contents_good : (text : List ℕ) (reads : FieldSet) (header : List (List ℕ)) (rest : List (List (List ℕ))) (columns : List (Option ℕ))
    → length text ≤ MAX_TRACE → records text ≡ header ∷ rest → Ok columns ≡ columns_of_fields reads header
    → contents text reads ≡ contents_from (record { width = length header; columns = columns }) 1 rest
unfolding contents
contents_good text reads header rest columns short all good = rw (opening_good text reads header rest columns short all good, all)

-- what is still to come, of what a trace contains
abbrev seen : Contents → Upcoming
seen rest = record { packets = rest.packets; fault = rest.fault; stopped = None }

pub upcoming_good : (text : List ℕ) (reads : FieldSet) (header : List (List ℕ)) (rest : List (List (List ℕ))) (columns : List (Option ℕ))
    (width : ℕ)
    → length text ≤ MAX_TRACE → records text ≡ header ∷ rest → Ok columns ≡ columns_of_fields reads header → width ≡ length header
    → upcoming_by progress.Reading (contents_from (record { width = width; columns = columns }) 1 rest) ≡ upcoming_of text reads
upcoming_good text reads header rest columns width short all good size =
    ap (λ w. seen (contents_from (record { width = w; columns = columns }) 1 rest)) size
    ∙ ap seen (sym (contents_good text reads header rest columns short all good))

-- a fault of a trace as a whole or of its header is the trace's first
pub fault_early : (text : List ℕ) (reads : FieldSet) (found : TraceFault) → opening text reads ≡ Err found
    → trace_fault text reads ≡ Some found
unfolding contents
fault_early text _ _ bad = ap (λ o. (contents_with o (rest_of (records text))).fault) bad
