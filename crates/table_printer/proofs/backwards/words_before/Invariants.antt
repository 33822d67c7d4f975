use Rattle.std.proofs.Common.{◌≡◌, ◌+◌, ◌-◌, ◌*◌, ◌≤◌, ◌++◌, drop, length}
use Rattle.table_printer.specs.TableText.{cells_continued, numbers}
use Rattle.table_printer.proofs.backwards.words_before.Given as goal

-- the last words are written
abbrev pub invariant-words : goal.invariant-words
invariant-words l = record {
  written : drop l.at l.room ≡ cells_continued (numbers (drop (length l.words - l.later) l.words)) ++ drop l.fn.end l.fn.room;
  low : l.at ≤ l.fn.end;
  near : l.fn.end ≤ l.at + 21 * l.later;
  len : length l.room ≡ length l.fn.room;
}
