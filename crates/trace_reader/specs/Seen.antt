-- What contracts see of the records of a text that are being read.
use Rattle.std.specs.{Prelude.{ℕ, ◌≤◌, ⊤, List, [], length, drop}, List.All}
use Rattle.csv.specs.Records.{fields_of}
use Rattle.csv.specs.declared.parser.State.TheVariants as st
use Rattle.trace_reader.specs.{Plain.{IsBetween, IsInside, fields_at}, Reading.{IsBetweenRecords, records_after, records_left}}
use Rattle.trace_reader.specs.declared.records.Place.{Place}
use Rattle.trace_reader.specs.declared.records.Place.TheVariants as place
use Rattle.trace_reader.specs.declared.records.Records.TheInside.{Inside}

-- the fields of the record that was read last, and the records that are left
pub record Seen : Type 0 where
  pub fields : List (List ℕ)
  pub left : List (List (List ℕ))

abbrev pub seen_by : Place → Inside → Seen
seen_by (place.At at) r = record {
  fields = fields_at r.text.now r.spans.items;
  left = records_after st.StartRecord (drop at r.text.now);
}
seen_by place.Reading r = record { fields = fields_of r.row; left = records_left r.reader }
seen_by place.Ended r = record { fields = fields_of r.row; left = [] }

abbrev pub seen_in : Inside → Seen
seen_in r = seen_by r.place r

-- while records are found in the text or a reader reads, the next one may begin there, and what was found stands in the text
abbrev pub IsSoundAt : Place → Inside → Type 0
IsSoundAt (place.At at) r = (at ≤ length r.text.now) × IsBetween r.text.now at × All (IsInside r.text.now) r.spans.items
IsSoundAt place.Reading r = IsBetweenRecords r.reader
IsSoundAt place.Ended r = ⊤

abbrev pub IsSound : Inside → Type 0
IsSound r = IsSoundAt r.place r
