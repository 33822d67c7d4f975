use Rattle.std.proofs.Common.{◌≡◌, ◌++◌, drop}
use Rattle.query_lang.specs.TypedStreams.{others_from}
use Rattle.query_types.proofs.columns.other_slots.Given as goal

abbrev pub invariant-loop-at : goal.invariant-loop-at
invariant-loop-at l = l.slots ++ others_from l.at l.names (drop l.at l.columns) ≡ others_from 0 l.names l.columns
