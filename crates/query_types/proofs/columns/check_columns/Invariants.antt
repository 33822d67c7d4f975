use Rattle.std.proofs.Common.{◌≡◌, ◌<◌, ◌^◌, drop}
use Rattle.query_lang.specs.TypedStreams.{new_columns, no_new_columns}
use Rattle.query_types.specs.Numbers.{columns_number}
use Rattle.query_types.proofs.columns.check_columns.Given as goal

abbrev pub invariant-loop-column : goal.invariant-loop-column
invariant-loop-column l = record {
  given : new_columns l.columns l.hidden l.made (drop l.column-index l.new) ≡ new_columns l.columns l.hidden no_new_columns l.new;
  numbers : columns_number (drop l.column-index l.new) < 2 ^ 64 → columns_number l.new < 2 ^ 64;
}
