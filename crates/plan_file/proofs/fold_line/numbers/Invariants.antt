use Rattle.std.proofs.Common.{◌≡◌, length}
use Rattle.plan_file.proofs.fold_line.numbers.Given as goal

abbrev pub invariant-loop-i : goal.invariant-loop-i
invariant-loop-i l = length l.all ≡ l.i
