-- An expression's operands are checked from left to right before its node, and the first fault is its own.
use Rattle.std.{proofs.{Common.{◌+◌, ◌<◌, ◌^◌, refl, sym, ap, ◌∙◌, arith}, lemmas.List.at_drop_all}, specs.Prelude.{map, drop}}
use Rattle.query_lang.specs.{Checks.collected, TypedExprs.expr_checked, TypedFolds.expr_nodes}
use Rattle.query_types.{specs.Numbers.greatest_number, proofs.CheckLemmas.{stops, goes_on, more, if_ok, if_ok_so, collected_turn}}
use Rattle.query_types.proofs.CountSteps.{item_within, nodes_not, nodes_binary, nodes_call, greatest_more, greatest_ends}
use Rattle.query_types.proofs.ExprSteps.{not_is, binary_is, call_is, not_number, binary_number, call_number}
use Rattle.query_types.proofs.exprs.+expression.Goals as goal

pub check_expr-check_expr-requires : goal.check_expr-check_expr-requires
check_expr-check_expr-requires t c = (omega (arith, nodes_not c.in-Not.is c.get.ensures, c.decreases), c.requires)

pub check_expr-check_operation-requires : goal.check_expr-check_operation-requires
check_expr-check_operation-requires t c = (
  omega (arith, nodes_binary c.in-Binary.is c.get-in-Binary.ensures c.get-in-Binary-2.ensures, c.decreases),
  c.requires,
)

pub check_expr-check_operands-requires : goal.check_expr-check_operands-requires
check_expr-check_operands-requires t c = (omega (arith, nodes_call c.in-Call.is c.as_slice.ensures, c.decreases), c.requires)

pub check_expr-returns-in_err-of-in-Not-clause-given : goal.check_expr-returns-in_err-of-in-Not-clause-given
check_expr-returns-in_err-of-in-Not-clause-given t c =
    stops _ _ (not_is _ _ c.in-Not.is c.get.ensures) _ _ c.from_residual-in_err-of-in-Not.ensures.1 c.in_err-of-in-Not.ensures.given

pub check_expr-returns-in_err-operands-in-Call-clause-given : goal.check_expr-returns-in_err-operands-in-Call-clause-given
check_expr-returns-in_err-operands-in-Call-clause-given t c =
    stops _ _ (call_is _ _ c.in-Call.is c.as_slice.ensures) _ _ c.from_residual-in_err-operands-in-Call.ensures.1
    c.in_err-operands-in-Call.ensures.given

pub check_expr-returns-in_ok-of-in-Not-clause-given : goal.check_expr-returns-in_ok-of-in-Not-clause-given
check_expr-returns-in_ok-of-in-Not-clause-given t c =
    goes_on _ _ (not_is _ _ c.in-Not.is c.get.ensures) _ c.in_ok-of-in-Not.ensures.given c.negate.ensures

pub check_expr-returns-in_ok-of-in-Not-clause-numbers : goal.check_expr-returns-in_ok-of-in-Not-clause-numbers
check_expr-returns-in_ok-of-in-Not-clause-numbers t c = if_ok _ (not_number c.in-Not.is c.get.ensures c.in_ok-of-in-Not.ensures.numbers)

pub check_expr-returns-in-Binary-clause-given : goal.check_expr-returns-in-Binary-clause-given
check_expr-returns-in-Binary-clause-given t c =
    rw (binary_is _ _ c.in-Binary.is c.get-in-Binary.ensures c.get-in-Binary-2.ensures) c.check_operation.ensures.given

pub check_expr-returns-in-Binary-clause-numbers : goal.check_expr-returns-in-Binary-clause-numbers
check_expr-returns-in-Binary-clause-numbers t c =
    if_ok_so _ (λ n. binary_number c.in-Binary.is c.get-in-Binary.ensures c.get-in-Binary-2.ensures n.0 n.1)
    c.check_operation.ensures.numbers

pub check_operation-check_expr-requires : goal.check_operation-check_expr-requires
check_operation-check_expr-requires t c = (omega (arith, c.decreases), c.requires)

pub check_operation-check_expr-requires-2 : goal.check_operation-check_expr-requires-2
check_operation-check_expr-requires-2 t c = (omega (arith, c.decreases), c.requires)

pub check_operation-returns-in_err-first-clause-given : goal.check_operation-returns-in_err-first-clause-given
check_operation-returns-in_err-first-clause-given t c = stops _ _ refl _ _ c.from_residual.ensures.1 c.in_err-first.ensures.given

pub check_operation-returns-in_err-second-clause-given : goal.check_operation-returns-in_err-second-clause-given
check_operation-returns-in_err-second-clause-given t c = goes_on _ _ refl _ c.in_ok-first.ensures.given
    (stops _ _ refl _ _ c.from_residual-in_err-second.ensures.1 c.in_err-second.ensures.given)

pub check_operation-returns-clause-given : goal.check_operation-returns-clause-given
check_operation-returns-clause-given t c =
    goes_on _ _ refl _ c.in_ok-first.ensures.given (goes_on _ _ refl _ c.in_ok-second.ensures.given c.join.ensures)

pub check_operation-returns-clause-numbers : goal.check_operation-returns-clause-numbers
check_operation-returns-clause-numbers t c =
    let both : (greatest_number c.args.left.now < 2 ^ 64) × (greatest_number c.args.right.now < 2 ^ 64) =
    (c.in_ok-first.ensures.numbers, c.in_ok-second.ensures.numbers) in
    if_ok _ both

pub check_expr-returns-in_ok-operands-in-Call-clause-given : goal.check_expr-returns-in_ok-operands-in-Call-clause-given
check_expr-returns-in_ok-operands-in-Call-clause-given t c =
    goes_on _ _ (call_is _ _ c.in-Call.is c.as_slice.ensures) _ c.in_ok-operands-in-Call.ensures.given c.call.ensures

pub check_expr-returns-in_ok-operands-in-Call-clause-numbers : goal.check_expr-returns-in_ok-operands-in-Call-clause-numbers
check_expr-returns-in_ok-operands-in-Call-clause-numbers t c = if_ok _ (call_number c.in-Call.is c.as_slice.ensures
    c.in_ok-operands-in-Call.ensures.numbers)

pub check_operands-check_expr-requires : goal.check_operands-check_expr-requires
check_operands-check_expr-requires t c = (
  omega (
    arith,
    item_within expr_nodes c.args.arguments.now c.loop-argument.argument-index c.loop-argument-test.true c.argument-item.is,
    c.decreases,
  ),
  c.requires,
)

pub check_operands-returns-in_err-operand-clause-given : goal.check_operands-returns-in_err-operand-clause-given
check_operands-returns-in_err-operand-clause-given t c =
    stops _ _ (sym c.loop-argument.invariant.given ∙ collected_turn (expr_checked c.args.columns.now c.args.hidden.now) c.args.arguments.now
    c.loop-argument.argument-index c.loop-argument.operands c.loop-argument-test.true c.argument-item.is) _ _
    c.from_residual.ensures.1 c.in_err-operand.ensures.given

pub check_operands-loop-argument-preserved : goal.check_operands-loop-argument-preserved
check_operands-loop-argument-preserved t c = record {
  given = ap (λ l. collected l (map (expr_checked c.args.columns.now c.args.hidden.now)
      (drop (c.loop-argument.argument-index + 1) c.args.arguments.now))) c.in_ok-push.ensures.ok
      ∙ more _ _ (collected_turn (expr_checked c.args.columns.now c.args.hidden.now) c.args.arguments.now c.loop-argument.argument-index
      c.loop-argument.operands c.loop-argument-test.true c.argument-item.is) c.in_ok-operand.ensures.given c.loop-argument.invariant.given;
  numbers = greatest_more greatest_number c.args.arguments.now c.loop-argument.argument-index c.loop-argument-test.true c.argument-item.is
      c.in_ok-operand.ensures.numbers c.loop-argument.invariant.numbers;
}

pub check_operands-returns-clause-given : goal.check_operands-returns-clause-given
check_operands-returns-clause-given t c =
    sym c.loop-argument.invariant.given ∙ at_drop_all (λ l. collected c.loop-argument.operands
    (map (expr_checked c.args.columns.now c.args.hidden.now) l)) c.args.arguments.now c.loop-argument.argument-index
    c.loop-argument-test.false

pub check_operands-returns-clause-numbers : goal.check_operands-returns-clause-numbers
check_operands-returns-clause-numbers t c =
    greatest_ends greatest_number c.args.arguments.now c.loop-argument.argument-index c.loop-argument-test.false (omega arith)
    c.loop-argument.invariant.numbers
