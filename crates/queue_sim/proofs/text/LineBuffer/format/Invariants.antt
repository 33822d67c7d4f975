use Rattle.std.proofs.Common.{◌≡◌, ◌+◌, ◌*◌, ◌-◌, ◌≤◌, drop, length}
use Rattle.queue_sim.proofs.TextFacts.{text_from}
use Rattle.queue_sim.proofs.text.LineBuffer.format.Given as goal

-- the words from this one on are written, with commas before them
abbrev pub invariant-loop-i : goal.invariant-loop-i
invariant-loop-i l = record {
  written : drop l.start l.self.bytes ≡ text_from l.fields l.i l.packet.words;
  from : 1 ≤ l.i;
  within : l.start ≤ 293;
  room : 293 ≤ l.start + 21 * (length l.fields - l.i);
}
