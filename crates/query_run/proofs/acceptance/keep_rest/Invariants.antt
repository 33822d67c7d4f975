-- The packets read so far are kept, no more words than allowed, and the trace's fault is still ahead.
use Rattle.std.proofs.Common.{◌≡◌, ◌≤◌, length}
use Rattle.trace_drive.specs.Kept.{kept_words}
use Rattle.query_run.proofs.Keeping.{IsKeptSoFar}
use Rattle.query_run.proofs.acceptance.keep_rest.Given as goal

-- the packets so far are kept
abbrev pub invariant-packets : goal.invariant-packets
invariant-packets l = record {
  so_far : IsKeptSoFar l.fn.reads l.initial.trace.packets l.kept l.trace.packets;
  fault : l.trace.fault ≡ l.initial.trace.fault;
  within : kept_words l.kept ≤ l.most_words;
}

abbrev pub decreases-packets : goal.decreases-packets
decreases-packets l = length l.trace.packets
