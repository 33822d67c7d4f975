use Rattle.std.proofs.Common.{◌≡◌, ◌++◌, drop}
use Rattle.query_lang.specs.TypedStreams.{column_names}
use Rattle.query_types.proofs.columns.names_of.Given as goal

abbrev pub invariant-loop-column : goal.invariant-loop-column
invariant-loop-column l = l.names ++ column_names (drop l.column-index l.columns) ≡ column_names l.columns
