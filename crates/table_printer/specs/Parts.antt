-- The parts of a line, from its start or after others.
use Rattle.std.specs.Prelude.{ℕ, Bool, List, if◌then◌else◌}
use Rattle.table_printer.specs.TableText.{cells_continued, cells_joined}

-- the parts where they begin a line, and where they continue one
abbrev pub parts_from : Bool → List (List ℕ) → List ℕ
parts_from begins parts = if begins then cells_joined parts else cells_continued parts
