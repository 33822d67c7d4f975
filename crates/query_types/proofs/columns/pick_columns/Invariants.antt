use Rattle.std.proofs.Common.{◌≡◌, ◌++◌, drop}
use Rattle.query_lang.specs.TypedStreams.{columns_at}
use Rattle.query_types.proofs.columns.pick_columns.Given as goal

abbrev pub invariant-loop-slot : goal.invariant-loop-slot
invariant-loop-slot l = l.picked ++ columns_at l.columns (drop l.slot-index l.slots) ≡ columns_at l.columns l.slots
