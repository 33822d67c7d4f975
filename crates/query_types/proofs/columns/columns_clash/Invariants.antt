use Rattle.std.{proofs.Common.{◌≡◌, drop}, specs.List.list_any}
use Rattle.query_lang.specs.TypedStreams.{clashes_with}
use Rattle.query_types.proofs.columns.columns_clash.Given as goal

abbrev pub invariant-loop-column : goal.invariant-loop-column
invariant-loop-column l = list_any (clashes_with l.left) (drop l.column-index l.right) ≡ list_any (clashes_with l.left) l.right
