-- The spans so far are fields of the record, which goes on with the field at this place.
use Rattle.std.{proofs.Common.{◌≡◌, ◌-◌, ◌<◌, ◌≤◌, [], drop, length}, specs.List.All}
use Rattle.csv.specs.declared.parser.State.TheVariants as st
use Rattle.trace_reader.{specs.{Plain.{IsInside, fields_at}, Reading.records_after}, proofs.RowFacts.rows_from}
use Rattle.trace_reader.proofs.plain.plain_record.Given as goal

-- the fields so far are those of a record that goes on with a field
abbrev pub invariant-fields : goal.invariant-fields
invariant-fields l = record {
  within : l.start ≤ length l.text;
  same : l.start < length l.text → records_after st.StartRecord (drop l.from l.text)
      ≡ rows_from st.StartField (fields_at l.text l.spans.items) [] (drop l.start l.text);
  inside : All (IsInside l.text) l.spans.items;
}

abbrev pub decreases-fields : goal.decreases-fields
decreases-fields l = length l.text - l.start
