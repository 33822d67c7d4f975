use Rattle.std.proofs.Common.{◌≡◌, ◌+◌, ◌-◌, ◌*◌, ◌≤◌, drop, length, take}
use Rattle.table_printer.specs.TableText.{lines_of}
use Rattle.table_printer.proofs.backwards.lines_before.Given as goal

-- the last rows are written
abbrev pub invariant-lines : goal.invariant-lines
invariant-lines l = record {
  written : drop l.at l.room ≡ lines_of l.kind (take l.later (drop (l.until - l.later) l.rows));
  low : l.at ≤ length l.room;
  near : length l.room ≤ l.at + 1024 * l.later;
  len : length l.room ≡ length l.fn.room;
}
