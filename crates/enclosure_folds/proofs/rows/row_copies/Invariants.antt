use Rattle.std.proofs.Common.{◌≡◌, ◌++◌, drop, map, filter}
use Rattle.enclosure_folds.specs.BoundsTables.{row_is_exact, exact_row}
use Rattle.enclosure_folds.proofs.rows.row_copies.Given as goal

-- the rows so far, and then those that are left, make the whole
abbrev pub invariant-loop-row : goal.invariant-loop-row
invariant-loop-row l = l.copies ++ map exact_row (filter row_is_exact (drop l.row-index l.rows)) ≡ map exact_row
    (filter row_is_exact l.rows)
