use Rattle.std.{proofs.Common.{◌≡◌, ◌++◌, drop}, specs.List.flat_map}
use Rattle.table_printer.specs.TableText.{cells_continued}
use Rattle.enclosure_folds.specs.BoundsTables.{bound_names}
use Rattle.enclosure_folds.proofs.printer.push_states.Given as goal

-- what is written, and then what is left, make the whole
abbrev pub invariant-loop-name : goal.invariant-loop-name
invariant-loop-name l = l.text ++ cells_continued (flat_map bound_names (drop l.name-index l.names)) ≡ l.fn.text
    ++ cells_continued (flat_map bound_names l.names)
