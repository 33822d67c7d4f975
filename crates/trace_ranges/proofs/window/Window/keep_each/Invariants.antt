use Rattle.std.proofs.Common.{◌≡◌, ◌≤◌, length, take}
use Rattle.trace_ranges.specs.Ranges.{kept, window_over}
use Rattle.trace_ranges.proofs.window.Window.keep_each.Given as goal

-- what is kept of the bytes so far is at the start of the buffer
abbrev pub invariant-loop-i : goal.invariant-loop-i
invariant-loop-i l = record {
  window : l.window ≡ window_over l.self (take l.i l.bytes);
  kept : take l.count l.buf ≡ kept l.self (take l.i l.bytes);
  few : l.count ≤ l.i;
  room : length l.buf ≡ length l.fn.buf;
}
