use Rattle.std.proofs.Common.{◌≡◌, drop}
use Rattle.query_lang.specs.TypedStreams.{clashes_with}
use Rattle.query_types.proofs.columns.column_clashes.Given as goal

abbrev pub invariant-loop-other : goal.invariant-loop-other
invariant-loop-other l = clashes_with (drop l.other-index l.left) l.column ≡ clashes_with l.left l.column
