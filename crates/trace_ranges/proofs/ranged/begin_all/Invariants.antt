use Rattle.std.proofs.Common.{◌≡◌, ◌++◌, drop, map, take}
use Rattle.trace_ranges.specs.Ranges.{windowed}
use Rattle.trace_ranges.proofs.ranged.begin_all.Given as goal

-- those so far have begun
abbrev pub invariant-loop-i : goal.invariant-loop-i
invariant-loop-i g l = l.traces ≡ map (windowed l.range) (take l.i l.fn.traces) ++ drop l.i l.fn.traces
