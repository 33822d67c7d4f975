-- The statements left, checked after those found, leave what the whole block leaves.
use Rattle.std.proofs.Common.{◌≡◌, ◌<◌, ◌^◌, ◌+◌, ◌*◌, map, drop, sum_by}
use Rattle.query_lang.specs.TypedFolds.{in_order, stmt_checked, stmt_count}
use Rattle.query_types.specs.Numbers.{greatest_of, greatest_in}
use Rattle.query_types.proofs.bodies.+statements.Given as goal

abbrev pub decreases-check_stmt : goal.decreases-check_stmt
decreases-check_stmt l = 3 * stmt_count l.s.now

abbrev pub decreases-check_choice : goal.decreases-check_choice
decreases-check_choice l = 3 * (sum_by stmt_count l.holding.now + sum_by stmt_count l.failing.now) + 2

abbrev pub decreases-check_all : goal.decreases-check_all
decreases-check_all l = 3 * sum_by stmt_count l.body.now + 1

abbrev pub invariant-check_all-loop-one : goal.invariant-check_all-loop-one
invariant-check_all-loop-one l = record {
  given : in_order (map (stmt_checked l.scope.states.now l.scope.args.now) (drop l.one-index l.body)) l.outer l.found
      ≡ in_order (map (stmt_checked l.scope.states.now l.scope.args.now) l.body) l.outer l.initial.found;
  numbers : greatest_of (map greatest_in (drop l.one-index l.body)) < 2 ^ 64 → greatest_of (map greatest_in l.body) < 2 ^ 64;
}
