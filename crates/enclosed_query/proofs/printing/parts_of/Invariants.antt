use Rattle.std.proofs.Common.{◌≡◌, map}
use Rattle.enclosed_query.specs.{EnclosedTables.table_read, Parts.bounds_shown}
use Rattle.enclosed_query.proofs.printing.parts_of.Given as goal

-- the parts of what was taken so far
abbrev pub invariant-loop-one : goal.invariant-loop-one
invariant-loop-one l = record { bounds : l.parts.bounds ≡ map bounds_shown l.yielded; tables : l.parts.tables ≡ map table_read l.yielded }
