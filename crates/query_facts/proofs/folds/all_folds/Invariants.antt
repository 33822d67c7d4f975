use Rattle.std.proofs.Common.{◌≡◌, ◌++◌, map, drop}
use Rattle.query_facts.specs.Folds.{fold_facts}
use Rattle.query_facts.proofs.folds.all_folds.Given as goal

abbrev pub invariant-loop-f : goal.invariant-loop-f
invariant-loop-f l = l.all ++ map fold_facts (drop l.f-index l.folds) ≡ map fold_facts l.folds
