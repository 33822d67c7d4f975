-- An assignment is its three parts and a choice its condition and two braced blocks, statement by statement.
use Rattle.std.proofs.Common.{◌∙◌}
use Rattle.plan_writer.proofs.Pieces.{stmts_more, stmts_end, choice_written, assignment_written}
use Rattle.plan_writer.proofs.bodies.+push_stmt.Goals as goal

pub else_block-preserved : goal.else_block-preserved
else_block-preserved t c =
    stmts_more c.args.states c.as_slice-inner-items-in-If.result.now c.else_block.inner-index c.inner-item-in-else_block.result
    c.else_block.text c.push_stmt-in-else_block.new.text
    c.else_block-test.true c.inner-item-in-else_block.is c.in_ok-push_stmt-in-If-2.ensures ∙ c.else_block.invariant

pub returns-in_ok-push_expr-in-Assign : goal.returns-in_ok-push_expr-in-Assign
returns-in_ok-push_expr-in-Assign t c =
    assignment_written c.args.states c.in-Assign.v c.from.result c.args.s.now c.in-Assign.e c.args.text.now c.push_word.new.text
    c.push_marked.new.text c.push_expr.new.text
    c.in-Assign.is c.from.ensures c.in_ok-push_word-in-Assign.ensures c.in_ok-push_marked-in-Assign.ensures
    c.in_ok-push_expr-in-Assign.ensures

pub returns-in_ok-push_word-in-If-5 : goal.returns-in_ok-push_word-in-If-5
returns-in_ok-push_word-in-If-5 t c =
    choice_written c.args.states c.args.s.now c.in-If.c c.in-If.a c.in-If.b c.as_slice-inner-items.result.now
    c.as_slice-inner-items-in-If.result.now
    c.args.text.now c.push_word-in-If.new.text c.push_expr-in-If.new.text c.push_word-in-If-2.new.text c.then_block.text
    c.push_word-in-If-3.new.text c.push_word-in-If-4.new.text c.else_block.text c.push_word-in-If-5.new.text
    c.in-If.is c.as_slice-inner-items.ensures c.as_slice-inner-items-in-If.ensures
    c.in_ok-push_word-in-If.ensures c.in_ok-push_expr-in-If.ensures c.in_ok-push_word-in-If-2.ensures
    (stmts_end c.args.states c.as_slice-inner-items.result.now c.then_block.inner-index c.then_block.text _ c.then_block-test.false
    c.then_block.invariant) c.in_ok-push_word-in-If-3.ensures c.in_ok-push_word-in-If-4.ensures
    (stmts_end c.args.states c.as_slice-inner-items-in-If.result.now c.else_block.inner-index c.else_block.text _ c.else_block-test.false
    c.else_block.invariant) c.in_ok-push_word-in-If-5.ensures
