use Rattle.std.proofs.Common.{◌≡◌, ◌+◌, drop, sum_by}
use Rattle.query_lang.specs.TypedFolds.{expr_nodes}
use Rattle.query_types.proofs.folds.+count_nodes.Given as goal

abbrev pub decreases-count_nodes : goal.decreases-count_nodes
decreases-count_nodes l = expr_nodes l.e.now

abbrev pub invariant-arguments : goal.invariant-arguments
invariant-arguments l = l.all + sum_by expr_nodes (drop l.argument-index l.argument-items) ≡ 1 + sum_by expr_nodes l.argument-items
