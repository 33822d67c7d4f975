-- What a trace of any length contains: as in one run, without the two limits of one run.
use Rattle.std.specs.Prelude.{ℕ, ◌+◌, ◌==◌, not, if◌then◌else◌, List, [], ◌∷◌, length, Option, None, Some, Result, Ok, Err}
use Rattle.marple_base.specs.declared.field.{FieldSet.FieldSet, Packet.Packet}
use Rattle.trace_reader.specs.{Reading.records, Traces.{Contents, Layout, layout_of, packet_with, rest_of, with_packet, words_in_columns}}
use Rattle.trace_reader.specs.declared.fault.TraceFault.{TraceFault}
use Rattle.trace_reader.specs.declared.fault.TraceFault.TheVariants as fault

-- the packet of data record n, or its first fault
unfoldable pub record_packet : Layout → ℕ → List (List ℕ) → Result Packet TraceFault
record_packet layout n fields =
    if not (length fields == layout.width) then Err (fault.FieldCount n) else packet_with n (words_in_columns layout.columns fields)

-- what data records from number n on contain
unfoldable pub contents_of : Layout → ℕ → List (List (List ℕ)) → Contents
contents_of layout n [] = record { packets = []; fault = None }
contents_of layout n (fields ∷ rest) = with_packet (record_packet layout n fields) (contents_of layout (n + 1) rest)

abbrev pub contents_by : Result Layout TraceFault → List (List (List ℕ)) → Contents
contents_by (Err found) data_records = record { packets = []; fault = Some found }
contents_by (Ok layout) data_records = contents_of layout 1 data_records

-- what a trace contains
unfoldable pub all_contents : List ℕ → FieldSet → Contents
all_contents text reads = contents_by (layout_of (records text) reads) (rest_of (records text))

-- the packets before a trace's first fault, all of them where there is none
abbrev pub all_packets : List ℕ → FieldSet → List Packet
all_packets text reads = (all_contents text reads).packets

-- the first fault of a trace
abbrev pub first_fault : List ℕ → FieldSet → Option TraceFault
first_fault text reads = (all_contents text reads).fault
