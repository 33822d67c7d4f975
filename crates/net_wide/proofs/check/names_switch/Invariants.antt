use Rattle.std.proofs.Common.{◌≡◌, drop}
use Rattle.net_wide.specs.Combining.{names_switch}
use Rattle.net_wide.proofs.check.names_switch.Given as goal

abbrev pub invariant-loop-id : goal.invariant-loop-id
invariant-loop-id l = names_switch l.names (drop l.id-index l.columns) ≡ names_switch l.names l.columns
