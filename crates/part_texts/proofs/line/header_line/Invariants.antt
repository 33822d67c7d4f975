use Rattle.std.proofs.Common.{◌≡◌, ◌++◌, drop, map}
use Rattle.marple_base.specs.Field.{field_name}
use Rattle.queue_sim.specs.TraceText.{continued, joined}
use Rattle.part_texts.proofs.line.header_line.Given as goal

-- the names before this one are written
abbrev pub invariant-loop-i : goal.invariant-loop-i
invariant-loop-i l = l.text ++ continued (drop l.i (map field_name l.fields)) ≡ joined (map field_name l.fields)
