use Rattle.std.proofs.Common.{◌≡◌, length, take, drop}
use Rattle.marple_base.specs.{Field.all_fields, declared.field.TheConstants.FIELDS}
use Rattle.trace_reader.{specs.{Columns.AreWithin, Traces.{column_of_field, columns_of_fields, each}}, proofs.EachFacts.onto}
use Rattle.trace_reader.proofs.record.columns.Given as goal

abbrev pub invariant-loop-i : goal.invariant-loop-i
invariant-loop-i l =
    record {
      filled : columns_of_fields l.reads l.fn.header.fields ≡ onto (take l.i l.columns)
          (each (column_of_field l.reads l.fn.header.fields) (drop l.i all_fields));
      size : length l.columns ≡ FIELDS;
      within : AreWithin (length l.fn.header.fields) l.columns;
    }
