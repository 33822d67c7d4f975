use Rattle.plan_file.{specs.Lexis.tokens_left, proofs.ReadsFacts.IsPassed}
use Rattle.plan_file.proofs.reads.reads_line.Given as goal

abbrev pub invariant-loop-i : goal.invariant-loop-i
invariant-loop-i l = IsPassed l.line l.found l.i (tokens_left l.left l.rest)
