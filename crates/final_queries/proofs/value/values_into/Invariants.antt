use Rattle.std.proofs.Common.{◌≡◌, ◌≤◌, ◌++◌, drop}
use Rattle.query_lang.specs.Streams.{values_at}
use Rattle.final_queries.proofs.value.values_into.Given as goal

-- the words so far, and then those that are left, make the whole
abbrev pub invariant-loop-slot : goal.invariant-loop-slot
invariant-loop-slot g l = record {
  words : l.taken.items ++ values_at l.columns (drop l.slot-index l.slots) ≡ values_at l.columns l.slots;
  steps : l.fn.steps ≤ l.steps;
}
