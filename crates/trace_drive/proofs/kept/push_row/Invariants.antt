use Rattle.std.proofs.Common.{◌≡◌, ◌++◌, map, take}
use Rattle.trace_drive.specs.Kept.{word_in}
use Rattle.trace_drive.proofs.kept.push_row.Given as goal

-- the words of the fields so far were added
abbrev pub invariant-loop-field : goal.invariant-loop-field
invariant-loop-field l = l.words ≡ l.fn.words ++ map (word_in l.packet) (take l.field-index l.fields)
