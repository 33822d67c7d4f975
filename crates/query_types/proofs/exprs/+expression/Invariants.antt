-- The operands found and the arguments left are those of the whole call.
use Rattle.std.proofs.Common.{◌≡◌, ◌<◌, ◌^◌, ◌+◌, ◌*◌, [], map, drop, sum_by}
use Rattle.query_lang.specs.{Checks.collected, TypedExprs.expr_checked, TypedFolds.expr_nodes}
use Rattle.query_types.specs.Numbers.{greatest_of, greatest_number}
use Rattle.query_types.proofs.exprs.+expression.Given as goal

abbrev pub decreases-check_expr : goal.decreases-check_expr
decreases-check_expr l = 2 * expr_nodes l.e.now

abbrev pub decreases-check_operation : goal.decreases-check_operation
decreases-check_operation l = 2 * (expr_nodes l.left.now + expr_nodes l.right.now) + 1

abbrev pub decreases-check_operands : goal.decreases-check_operands
decreases-check_operands l = 2 * sum_by expr_nodes l.arguments.now + 1

abbrev pub invariant-check_operands-loop-argument : goal.invariant-check_operands-loop-argument
invariant-check_operands-loop-argument l = record {
  given : collected l.operands (map (expr_checked l.columns l.hidden) (drop l.argument-index l.arguments)) ≡ collected []
      (map (expr_checked l.columns l.hidden) l.arguments);
  numbers : greatest_of (map greatest_number (drop l.argument-index l.arguments)) < 2 ^ 64
      → greatest_of (map greatest_number l.arguments) < 2 ^ 64;
}
