use Rattle.std.proofs.Common.{◌≡◌, ◌++◌, drop}
use Rattle.enclosure_folds.proofs.copies.push_copies.Given as goal

-- the names so far, and then those that are left, make the whole
abbrev pub invariant-loop-name : goal.invariant-loop-name
invariant-loop-name l = l.names ++ drop l.name-index l.more ≡ l.fn.names ++ l.more
