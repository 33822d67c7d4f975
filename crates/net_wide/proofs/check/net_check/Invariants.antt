use Rattle.std.proofs.Common.{◌≡◌, drop}
use Rattle.net_wide.specs.Combining.{first_apart}
use Rattle.net_wide.proofs.check.net_check.Given as goal

abbrev pub invariant-loop-one : goal.invariant-loop-one
invariant-loop-one l = first_apart l.q (drop l.one-index l.one-items) ≡ first_apart l.q l.one-items
