-- The network follows the packets that were taken, and the first fault of the trace is that of what is left.
use Rattle.std.proofs.Common.{◌≡◌, ◌≤◌, ℕ, suc, List, [], ◌++◌, length}
use Rattle.network.specs.Networks.{KeepsNetwork}
use Rattle.trace_drive.specs.Drives.{words_of}
use Rattle.driven_net.specs.{Follows.NetFollows, Lags.{AreLagClocks, HaveCounted}, NetTraces.first_fault, Turns.{MakesTurns, known_after}}
use Rattle.driven_net.proofs.taking.take_all.Given as goal

-- the network follows the packets so far, and the fault of the others is that of all
abbrev pub invariant-packets : goal.invariant-packets
invariant-packets g l = record {
  fault : first_fault [] 1 (words_of l.fn.trace.packets) l.fn.trace.fault ≡ first_fault l.known (suc l.number) (words_of l.trace.packets)
      l.trace.fault;
  follows : (done : List (List ℕ)) × (words_of l.fn.trace.packets ≡ done ++ words_of l.trace.packets) × (l.number ≡ length done)
      × (f : NetFollows g.row.WAYS l.known done l.network) × HaveCounted f.events l.clocks
      × (l.known ≡ known_after [] done) × MakesTurns g.row.WAYS l.lag [] done l.fn.network l.network;
  keeps : KeepsNetwork l.fn.network l.network;
  clocks : AreLagClocks l.lag l.clocks;
  later : l.initial.steps ≤ l.steps;
}

abbrev pub decreases-packets : goal.decreases-packets
decreases-packets g l = length l.trace.packets
