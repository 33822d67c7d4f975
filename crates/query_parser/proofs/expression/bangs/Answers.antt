use Rattle.std.proofs.Common.{sym, ◌∙◌, inl, inr}
use Rattle.query_parser.proofs.{Loops.{more_list, ends_list}, expression.bangs.Goals.{else-bangs-test, then-bangs-test+then-not-at_mark}}
use Rattle.query_parser.proofs.expression.bangs.Goals as goal

pub bangs-preserved : goal.bangs-preserved
bangs-preserved c = more_list _ _ _ _ _ _ _ _ _ _ _ _ c.bangs-test.true (sym c.at_mark.ensures ∙ c.if-not-at_mark.false)
    c.in-Ok.ensures c.in_ok-push.ensures.ok c.bangs.invariant

pub returns : goal.returns
returns c = ends_list _ _ _ _ _ _ _ _ (elim c.bangs-test.branch [
  | else-bangs-test w ↦ inl w.bangs-test.false
  | then-bangs-test+then-not-at_mark w ↦ inr (sym w.at_mark.ensures ∙ w.if-not-at_mark.true)
]) c.bangs.invariant
