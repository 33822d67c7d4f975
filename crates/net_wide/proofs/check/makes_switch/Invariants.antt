use Rattle.std.proofs.Common.{◌≡◌, drop}
use Rattle.net_wide.specs.Combining.{makes_switch}
use Rattle.net_wide.proofs.check.makes_switch.Given as goal

abbrev pub invariant-loop-one : goal.invariant-loop-one
invariant-loop-one l = makes_switch l.names (drop l.one-index l.streams) ≡ makes_switch l.names l.streams
