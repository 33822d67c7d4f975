-- The statements of a block are checked in turn, those of a choice under its condition, and the first fault stops.
use Rattle.std.{proofs.{Common.{refl, sym, ◌∙◌, arith}, lemmas.List.at_drop_all}, specs.Prelude.map}
use Rattle.query_lang.specs.TypedFolds.{in_order, stmt_checked, stmt_count}
use Rattle.query_types.{specs.Numbers.greatest_in, proofs.CheckLemmas.{left_stops, left_stops_after, more, left_is, on_ok, on_ok_so}}
use Rattle.query_types.proofs.{CountSteps.{item_within, count_if, greatest_more, greatest_ends}, StmtSteps.{block_turn, assign_is, emit_is}}
use Rattle.query_types.proofs.StmtSteps.{choice_is, first_is, second_is, closed_is, assign_number, choice_number}
use Rattle.query_types.proofs.bodies.+statements.Goals as goal

pub check_all-check_stmt-requires : goal.check_all-check_stmt-requires
check_all-check_stmt-requires t c = (
  omega (
    arith,
    item_within stmt_count c.args.body.now c.loop-one.one-index c.loop-one-test.true c.one-item.is,
    c.decreases,
  ),
  c.requires,
)

pub check_all-returns-in_err-check_stmt-clause-given : goal.check_all-returns-in_err-check_stmt-clause-given
check_all-returns-in_err-check_stmt-clause-given t c =
    left_stops_after _ _ (sym c.loop-one.invariant.given ∙ block_turn _ _ _ _ _ c.loop-one.one-index
    c.loop-one-test.true c.one-item.is) _ _ _ _ c.from_residual.ensures.1 c.in_err-check_stmt.ensures.given

pub check_all-loop-one-preserved : goal.check_all-loop-one-preserved
check_all-loop-one-preserved t c = record {
  given = more _ _ (block_turn _ _ _ _ _ c.loop-one.one-index c.loop-one-test.true c.one-item.is)
      c.in_ok-check_stmt.ensures.given c.loop-one.invariant.given;
  numbers = greatest_more greatest_in c.args.body.now c.loop-one.one-index c.loop-one-test.true c.one-item.is
      c.in_ok-check_stmt.ensures.numbers c.loop-one.invariant.numbers;
}

pub check_all-returns-clause-given : goal.check_all-returns-clause-given
check_all-returns-clause-given t c =
    sym c.loop-one.invariant.given ∙ at_drop_all (λ l. in_order (map (stmt_checked c.args.scope.states.now c.args.scope.args.now) l)
    c.args.outer.now c.loop-one.found) c.args.body.now c.loop-one.one-index c.loop-one-test.false

pub check_all-returns-clause-numbers : goal.check_all-returns-clause-numbers
check_all-returns-clause-numbers t c =
    greatest_ends greatest_in c.args.body.now c.loop-one.one-index c.loop-one-test.false (omega arith) c.loop-one.invariant.numbers

pub check_stmt-check_choice-requires : goal.check_stmt-check_choice-requires
check_stmt-check_choice-requires t c = (
  omega (arith, count_if c.in-If.is c.as_slice.ensures c.as_slice-in-If.ensures, c.decreases),
  c.requires,
)

pub check_stmt-returns-in-If-clause-given : goal.check_stmt-returns-in-If-clause-given
check_stmt-returns-in-If-clause-given t c =
    rw c.in-If.is (rw (c.as_slice.ensures, c.as_slice-in-If.ensures) at c.check_choice.ensures.given)

pub check_stmt-returns-in-If-clause-numbers : goal.check_stmt-returns-in-If-clause-numbers
check_stmt-returns-in-If-clause-numbers t c =
    rw c.in-If.is (rw (c.as_slice.ensures, c.as_slice-in-If.ensures) at c.check_choice.ensures.numbers)

pub check_choice-returns-in_err-choice-clause-given : goal.check_choice-returns-in_err-choice-clause-given
check_choice-returns-in_err-choice-clause-given t c =
    left_stops _ _ (choice_is _ _ _ _ c.args.holding.now c.args.failing.now refl) _ _ _ c.from_residual.ensures.1
    c.in_err-choice.ensures.given

pub check_choice-check_all-requires : goal.check_choice-check_all-requires
check_choice-check_all-requires t c = (omega (arith, c.decreases), c.requires)

pub check_choice-returns-in_err-check_all-clause-given : goal.check_choice-returns-in_err-check_all-clause-given
check_choice-returns-in_err-check_all-clause-given t c =
    left_stops_after _ _ (first_is _ _ _ _ c.args.holding.now c.args.failing.now refl c.in_ok-choice.ensures.given c.get.ensures refl
    c.take_statements-before.ensures.block) _ _ _ _ c.from_residual-in_err-check_all.ensures.1 c.in_err-check_all.ensures.given

pub check_choice-check_all-requires-2 : goal.check_choice-check_all-requires-2
check_choice-check_all-requires-2 t c = (omega (arith, c.decreases), c.requires)

pub check_choice-returns-in_err-check_all-2-clause-given : goal.check_choice-returns-in_err-check_all-2-clause-given
check_choice-returns-in_err-check_all-2-clause-given t c =
    left_stops_after _ _ (second_is _ _ _ _ c.args.holding.now c.args.failing.now refl c.in_ok-choice.ensures.given c.get.ensures refl
    c.take_statements-before.ensures.block c.in_ok-check_all.ensures.given c.get-2.ensures refl
    c.take_statements-then_block.ensures.block) _ _ _ _ c.from_residual-in_err-check_all-2.ensures.1 c.in_err-check_all-2.ensures.given

pub check_choice-returns-clause-given : goal.check_choice-returns-clause-given
check_choice-returns-clause-given t c =
    left_is _ _ (closed_is _ _ _ _ c.args.holding.now c.args.failing.now refl c.in_ok-choice.choice c.check_all.new.found
    (second_is _ _ _ _ c.args.holding.now c.args.failing.now refl c.in_ok-choice.ensures.given c.get.ensures refl
    c.take_statements-before.ensures.block c.in_ok-check_all.ensures.given c.get-2.ensures refl
    c.take_statements-then_block.ensures.block) c.in_ok-check_all-2.ensures.given
    c.take_statements-before.ensures.statements c.take_statements-then_block.ensures.statements) c.close_choice.ensures

pub check_choice-returns-clause-numbers : goal.check_choice-returns-clause-numbers
check_choice-returns-clause-numbers t c =
    on_ok _ (choice_number {c = c.args.condition.now} {a = c.args.holding.now} {b = c.args.failing.now} refl refl refl
    c.in_ok-choice.ensures.numbers c.in_ok-check_all.ensures.numbers c.in_ok-check_all-2.ensures.numbers)

pub check_stmt-returns-in-Assign-clause-given : goal.check_stmt-returns-in-Assign-clause-given
check_stmt-returns-in-Assign-clause-given t c =
    left_is _ _ (assign_is _ _ _ _ c.in-Assign.is) c.add_assignment.ensures.given

pub check_stmt-returns-in-Assign-clause-numbers : goal.check_stmt-returns-in-Assign-clause-numbers
check_stmt-returns-in-Assign-clause-numbers t c = on_ok_so _ (assign_number c.in-Assign.is) c.add_assignment.ensures.numbers

pub check_stmt-returns-in-Emit-clause-given : goal.check_stmt-returns-in-Emit-clause-given
check_stmt-returns-in-Emit-clause-given t c = left_is _ _ (emit_is _ _ _ _ c.in-Emit.is) c.add_emit.ensures
