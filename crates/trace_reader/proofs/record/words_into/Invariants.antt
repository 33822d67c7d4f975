use Rattle.std.proofs.Common.{◌≡◌, length, drop}
use Rattle.marple_base.specs.declared.field.TheConstants.{FIELDS}
use Rattle.trace_reader.{specs.{Columns.read_columns, Traces.words_in_columns}, proofs.WordFacts.fill}
use Rattle.trace_reader.proofs.record.words_into.Given as goal

abbrev pub invariant-loop-field : goal.invariant-loop-field
invariant-loop-field l =
    record {
      filled : words_in_columns l.columns l.fn.row.fields ≡ fill l.fn.row.fields (drop l.field-index (read_columns l.columns)) l.words;
      size : length l.words ≡ FIELDS;
    }
