use Rattle.std.proofs.Common.{◌≡◌, length}
use Rattle.query_run.proofs.acceptance.accept_rest.Given as goal

-- the fault after the packets that are left is that of the trace
abbrev pub invariant-packets : goal.invariant-packets
invariant-packets l = l.trace.fault ≡ l.initial.trace.fault

abbrev pub decreases-packets : goal.decreases-packets
decreases-packets l = length l.trace.packets
