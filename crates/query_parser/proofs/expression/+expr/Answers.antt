-- Each further operator or comma reads one more part, and where none comes, what is read so far is the whole.
use Rattle.std.proofs.Common.{List, refl, sym, ◌∙◌, inl, inr}
use Rattle.query_lang.specs.declared.{fault.Span.Span, fold.Op.Op, query.Expr.Expr}
use Rattle.query_grammar.specs.Grammar.{grouped}
use Rattle.query_parser.proofs.Loops.{ends, fails, fails_in, ends_list, goes_on, later, more_list, stops_in}
use Rattle.query_parser.proofs.expression.+expr.Goals.{expressions-else-expressions-test}
use Rattle.query_parser.proofs.expression.+expr.Goals.{expressions-then-expressions-test+then-not-at_mark, level-else-operations-test}
use Rattle.query_parser.proofs.expression.+expr.Goals.{level-then-operations-test+then-not-at_operator}
use Rattle.query_parser.proofs.expression.+expr.Goals as goal

pub expressions-expressions-preserved : goal.expressions-expressions-preserved
expressions-expressions-preserved t c = more_list _ _ _ _ _ _ _ _ _ _ _ _ c.expressions-test.true
    (sym c.at_mark.ensures ∙ c.if-not-at_mark.false) c.in-Ok-next_expression.ensures c.in_ok-push-2.ensures.ok c.expressions.invariant

pub expressions-returns : goal.expressions-returns
expressions-returns t c = ends_list _ _ _ _ _ _ _ _ (elim c.expressions-test.branch [
  | expressions-else-expressions-test w ↦ inl w.expressions-test.false
  | expressions-then-expressions-test+then-not-at_mark w ↦ inr (sym w.at_mark.ensures ∙ w.if-not-at_mark.true)
]) c.expressions.invariant

pub level-operations-preserved : goal.level-operations-preserved
level-operations-preserved t c = goes_on _ _ _ (grouped c.operations.left) (grouped c.in_ok-left.left) _ c.operations.counter
    c.operations.reader.counts c.operations.reader.rest.now
    c.in-Ok-operation.found c.operation.new.reader.counts c.operation.new.reader.rest.now c.operations-test.true
    (sym c.at_operator.ensures ∙ c.if-not-at_operator.false) c.in-Ok-operation.ensures
    (λ (others : List ((Op × Span) × Expr)). rw c.in_ok-left.ensures refl) c.operations.invariant

pub level-returns-in-Err-operation : goal.level-returns-in-Err-operation
level-returns-in-Err-operation t c = fails _ _ _ (grouped c.operations.left) _ _ _ _ _ _ c.operations-test.true
    (sym c.at_operator.ensures ∙ c.if-not-at_operator.false) c.in-Err-operation.ensures c.operations.invariant

pub level-returns : goal.level-returns
level-returns t c = ends _ _ _ (grouped c.operations.left) _ c.operations.counter c.operations.reader.counts c.operations.reader.rest.now
    (elim c.operations-test.branch [
      | level-else-operations-test w ↦ inl w.operations-test.false
      | level-then-operations-test+then-not-at_operator w ↦ inr (sym w.at_operator.ensures ∙ w.if-not-at_operator.true)
    ]) c.operations.invariant

-- what fails as a part of it does

pub next_expression-returns-in-Err : goal.next_expression-returns-in-Err
next_expression-returns-in-Err t c = stops_in _ _ (λ k rest e. rw e refl) _ c.mark.new.self c.in-Err.ensures

pub expressions-returns-in-Err : goal.expressions-returns-in-Err
expressions-returns-in-Err t c = fails_in _ _ (λ k rest e. rw e refl) _ c.expression.new.reader c.in-Err.ensures

pub expressions-returns-in-Err-next_expression : goal.expressions-returns-in-Err-next_expression
expressions-returns-in-Err-next_expression t c = fails _ _ _ (later c.expressions.found) _ _ _ _ _ _ c.expressions-test.true
    (sym c.at_mark.ensures ∙ c.if-not-at_mark.false) c.in-Err-next_expression.ensures c.expressions.invariant

pub call-returns-in-Err : goal.call-returns-in-Err
call-returns-in-Err t c = stops_in _ _ (λ k rest e. rw e refl) _ c.function.new.reader c.in-Err.ensures

pub call-returns-in-Err-arguments : goal.call-returns-in-Err-arguments
call-returns-in-Err-arguments t c =
    fails_in _ _ (λ k rest e. rw (c.in-Ok.ensures, e) refl) _ c.arguments.new.reader c.in-Err-arguments.ensures

pub call-returns : goal.call-returns
call-returns t c = rw (c.in-Ok.ensures, c.in-Ok-arguments.ensures) refl

pub unary-returns-in-Err : goal.unary-returns-in-Err
unary-returns-in-Err t c = fails_in _ _ (λ k rest e. rw e refl) _ c.bangs.new.reader c.in-Err.ensures

pub unary-returns-in-Err-primary : goal.unary-returns-in-Err-primary
unary-returns-in-Err-primary t c =
    fails_in _ _ (λ k rest e. rw (c.in-Ok.ensures, e) refl) _ c.primary.new.reader c.in-Err-primary.ensures

pub operation-returns-in-Err : goal.operation-returns-in-Err
operation-returns-in-Err t c = stops_in _ _ (λ k rest e. rw e refl) _ c.operator.new.reader c.in-Err.ensures

pub operation-returns-in-Err-operand : goal.operation-returns-in-Err-operand
operation-returns-in-Err-operand t c =
    fails_in _ _ (λ k rest e. rw (c.in-Ok.ensures, e) refl) _ c.operand.new.reader c.in-Err-operand.ensures

pub operation-returns : goal.operation-returns
operation-returns t c = rw (c.in-Ok.ensures, c.in-Ok-operand.ensures) refl
