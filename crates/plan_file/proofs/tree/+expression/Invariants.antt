use Rattle.std.proofs.Common.{length}
use Rattle.plan_file.proofs.tree.+expression.Given as goal

abbrev pub decreases-expression : goal.decreases-expression
decreases-expression l = length l.words.now
