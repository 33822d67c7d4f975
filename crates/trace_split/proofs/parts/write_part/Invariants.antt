use Rattle.std.{proofs.Common.{◌≡◌, ◌≢◌, ℕ, ◌≤◌, ◌-◌, length, take}, specs.Io.KnownBytes.Appends}
use Rattle.trace_split.proofs.parts.write_part.Given as goal

-- the first bytes were taken, and the count of faults has not fallen
abbrev pub invariant-loop-done : goal.invariant-loop-done
invariant-loop-done g l = record {
  within : l.done ≤ length l.piece;
  taken : Appends (g.P.Parts.taken l.fn.parts l.part) (g.P.Parts.taken l.parts l.part) (take l.done l.piece);
  others : (n : ℕ) → n ≢ l.part → g.P.Parts.taken l.parts n ≡ g.P.Parts.taken l.fn.parts n;
  later : g.P.Parts.faults l.fn.parts ≤ g.P.Parts.faults l.parts;
}

abbrev pub decreases-loop-done : goal.decreases-loop-done
decreases-loop-done g l = length l.piece - l.done
