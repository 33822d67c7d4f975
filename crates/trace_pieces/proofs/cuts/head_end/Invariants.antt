use Rattle.std.proofs.Common.{take}
use Rattle.trace_pieces.{specs.Machine.state_of, proofs.HeadFacts.Inside}
use Rattle.trace_pieces.proofs.cuts.head_end.Given as goal

-- no record has ended yet
abbrev pub invariant-loop-i : goal.invariant-loop-i
invariant-loop-i l = Inside (take l.i l.rest) (state_of l.place)
