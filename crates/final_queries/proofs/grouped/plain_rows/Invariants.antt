use Rattle.std.proofs.Common.{◌≡◌}
use Rattle.backing_store.proofs.Showing.{shown_to}
use Rattle.final_queries.specs.Grouped.{plain_of}
use Rattle.final_queries.proofs.grouped.plain_rows.Given as goal

-- the rows so far are plain, and the others are still those of the store
abbrev pub invariant-loop-at : goal.invariant-loop-at
invariant-loop-at l = l.rows ≡ shown_to plain_of l.fn.stored l.at
