use Rattle.std.proofs.Common.{◌≡◌, ◌++◌, drop}
use Rattle.enclosure_folds.specs.KeyBounds.{bounds_in}
use Rattle.enclosure_folds.proofs.bounds.all_bounds.Given as goal

-- the rows of bounds so far, and then those of the rows that are left, make the whole
abbrev pub invariant-loop-at : goal.invariant-loop-at
invariant-loop-at l = l.made ++ bounds_in l.states (drop l.at l.rows) ≡ bounds_in l.states l.rows
