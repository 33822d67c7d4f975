-- Where an item begins, one more is read, and its fault is that of all items.
use Rattle.std.proofs.Common.{sym, ◌∙◌, inl, inr}
use Rattle.query_parser.proofs.{Loops.{fails, more_list, ends_list}, item.items.Goals.{else-items-test, then-items-test+then-not-at_item}}
use Rattle.query_parser.proofs.item.items.Goals as goal

pub items-preserved : goal.items-preserved
items-preserved c = more_list _ _ _ _ _ _ _ _ _ _ _ _ c.items-test.true (sym c.at_item.ensures ∙ c.if-not-at_item.false)
    c.in-Ok.ensures c.in_ok-push.ensures.ok c.items.invariant

pub returns-in-Err : goal.returns-in-Err
returns-in-Err c = fails _ _ _ _ _ _ _ _ _ _ c.items-test.true (sym c.at_item.ensures ∙ c.if-not-at_item.false) c.in-Err.ensures
    c.items.invariant

pub returns : goal.returns
returns c = ends_list _ _ _ _ _ _ _ _ (elim c.items-test.branch [
  | else-items-test w ↦ inl w.items-test.false
  | then-items-test+then-not-at_item w ↦ inr (sym w.at_item.ensures ∙ w.if-not-at_item.true)
]) c.items.invariant
