-- Another branch goes on with the chain and a last block ends it, and statements follow while one begins.
use Rattle.std.proofs.Common.{refl, sym, ◌∙◌, inl, inr}
use Rattle.query_parser.proofs.{Loops.{ends_list, fails_in, more_list, stops_in}, Statements.{more_chain, last_chain, fails_chain, ends_chain}}
use Rattle.query_parser.proofs.statement.+stmt.Goals.{else_parts-else-parts-test, else_parts-then-parts-test+then-not-at_word}
use Rattle.query_parser.proofs.statement.+stmt.Goals.{statements-else-statements-test}
use Rattle.query_parser.proofs.statement.+stmt.Goals.{statements-then-statements-test+then-not-at_statement}
use Rattle.query_parser.proofs.statement.+stmt.Goals as goal

pub else_parts-returns-in-Err : goal.else_parts-returns-in-Err
else_parts-returns-in-Err t c = fails_chain _ _ _ _ _ _ _ _ _ _ c.parts-test.true (sym c.at_word.ensures ∙ c.if-not-at_word.false)
    c.in-Err.ensures
    c.parts.invariant

pub else_parts-returns-in-Last : goal.else_parts-returns-in-Last
else_parts-returns-in-Last t c = last_chain _ _ _ _ _ _ _ _ _ _ _ c.parts-test.true
    (sym c.at_word.ensures ∙ c.if-not-at_word.false) (rw c.in-Last.is at c.in-Ok.ensures) c.parts.invariant

pub else_parts-parts-preserved : goal.else_parts-parts-preserved
else_parts-parts-preserved t c = more_chain _ _ _ _ _ _ _ _ _ _ _ _ c.parts-test.true
    (sym c.at_word.ensures ∙ c.if-not-at_word.false) (rw c.in-Another.is at c.in-Ok.ensures) c.in_ok-push-in-Another.ensures.ok
    c.parts.invariant

pub else_parts-returns : goal.else_parts-returns
else_parts-returns t c = ends_chain _ _ _ _ _ _ _ _ (elim c.parts-test.branch [
  | else_parts-else-parts-test w ↦ inl w.parts-test.false
  | else_parts-then-parts-test+then-not-at_word w ↦ inr (sym w.at_word.ensures ∙ w.if-not-at_word.true)
]) c.parts.invariant

pub statements-statements-preserved : goal.statements-statements-preserved
statements-statements-preserved t c = more_list _ _ _ _ _ _ _ _ _ _ _ _ c.statements-test.true
    (sym c.at_statement.ensures ∙ c.if-not-at_statement.false)
    c.in-Ok.ensures c.in_ok-push.ensures.ok c.statements.invariant

pub statements-returns : goal.statements-returns
statements-returns t c = ends_list _ _ _ _ _ _ _ _ (elim c.statements-test.branch [
  | statements-else-statements-test w ↦ inl w.statements-test.false
  | statements-then-statements-test+then-not-at_statement w ↦ inr (sym w.at_statement.ensures ∙ w.if-not-at_statement.true)
]) c.statements.invariant

-- what fails as a part of it does

pub if_part-returns-in-Err : goal.if_part-returns-in-Err
if_part-returns-in-Err t c = stops_in _ _ (λ k rest e. rw e refl) _ c.keyword.new.self c.in-Err.ensures

pub if_part-returns-in-Err-bracketed : goal.if_part-returns-in-Err-bracketed
if_part-returns-in-Err-bracketed t c =
    fails_in _ _ (λ k rest e. rw (c.in-Ok.ensures, e) refl) _ c.bracketed.new.reader c.in-Err-bracketed.ensures

pub if_part-returns-in-Err-block : goal.if_part-returns-in-Err-block
if_part-returns-in-Err-block t c =
    fails_in _ _ (λ k rest e. rw (c.in-Ok.ensures, c.in-Ok-bracketed.ensures, e) refl) _ c.block.new.reader c.in-Err-block.ensures

pub if_part-returns : goal.if_part-returns
if_part-returns t c = rw (c.in-Ok.ensures, c.in-Ok-bracketed.ensures, c.in-Ok-block.ensures) refl

pub if_statement-returns-in-Err : goal.if_statement-returns-in-Err
if_statement-returns-in-Err t c = fails_in _ _ (λ k rest e. rw e refl) _ c.if_part.new.reader c.in-Err.ensures

pub if_statement-returns-in-Err-else_parts : goal.if_statement-returns-in-Err-else_parts
if_statement-returns-in-Err-else_parts t c =
    fails_in _ _ (λ k rest e. rw (c.in-Ok.ensures, e) refl) _ c.else_parts.new.reader c.in-Err-else_parts.ensures

pub if_statement-returns : goal.if_statement-returns
if_statement-returns t c = rw (c.in-Ok.ensures, c.in-Ok-else_parts.ensures, c.in_ok-otherwise.ensures) refl

pub block_within-returns-in-Err : goal.block_within-returns-in-Err
block_within-returns-in-Err t c = stops_in _ _ (λ k rest e. rw e refl) _ c.mark.new.self c.in-Err.ensures

pub block_within-returns-in-Err-statements : goal.block_within-returns-in-Err-statements
block_within-returns-in-Err-statements t c =
    fails_in _ _ (λ k rest e. rw (c.in-Ok.ensures, e) refl) _ c.statements.new.reader c.in-Err-statements.ensures
