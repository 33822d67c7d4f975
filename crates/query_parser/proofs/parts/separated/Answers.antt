-- Each comma leads to one part more, and a list without another comma ends.
use Rattle.std.proofs.Common.{sym, ◌∙◌, inl, inr}
use Rattle.query_parser.proofs.Loops.{fails, more_list, ends_list}
use Rattle.query_parser.proofs.parts.separated.Goals.{else-parts-test, then-parts-test+then-not-at_mark}
use Rattle.query_parser.proofs.parts.separated.Goals as goal

pub parts-preserved : goal.parts-preserved
parts-preserved g c = more_list _ _ _ _ _ _ _ _ _ _ _ _ c.parts-test.true (sym c.at_mark.ensures ∙ c.if-not-at_mark.false)
    c.in-Ok-next_part.ensures c.in_ok-push-2.ensures.ok c.parts.invariant

pub returns-in-Err-next_part : goal.returns-in-Err-next_part
returns-in-Err-next_part g c = fails _ _ _ _ _ _ _ _ _ _ c.parts-test.true (sym c.at_mark.ensures ∙ c.if-not-at_mark.false)
    c.in-Err-next_part.ensures c.parts.invariant

pub returns : goal.returns
returns g c = ends_list _ _ _ _ _ _ _ _ (elim c.parts-test.branch [
  | else-parts-test w ↦ inl w.parts-test.false
  | then-parts-test+then-not-at_mark w ↦ inr (sym w.at_mark.ensures ∙ w.if-not-at_mark.true)
]) c.parts.invariant
