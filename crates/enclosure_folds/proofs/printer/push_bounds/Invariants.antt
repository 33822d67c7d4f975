use Rattle.std.proofs.Common.{◌≡◌, ◌++◌, drop}
use Rattle.table_printer.specs.TableText.{cells_continued, numbers}
use Rattle.enclosure_folds.specs.BoundsTables.{in_turn}
use Rattle.enclosure_folds.proofs.printer.push_bounds.Given as goal

-- what is written, and then what is left, make the whole
abbrev pub invariant-loop-i : goal.invariant-loop-i
invariant-loop-i l = l.text ++ cells_continued (numbers (in_turn (drop l.i l.low) (drop l.i l.high))) ≡ l.fn.text
    ++ cells_continued (numbers (in_turn l.low l.high))
