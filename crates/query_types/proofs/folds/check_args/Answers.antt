-- Each argument is looked for among the state variables and the arguments before it, and the rest follow where it's new.
use Rattle.std.proofs.{Common.{sym, ap, ◌∙◌}, lemmas.{Bool.or_from, List.{drop_more, at_drop_all}}}
use Rattle.query_lang.specs.{Checks.is_among, TypedFolds.args_from}
use Rattle.query_types.proofs.FoldSteps.{arg_taken, arg_full, arg_added, within_most, either_first, either_second}
use Rattle.query_types.proofs.folds.check_args.Goals.{then-has_name-via-then-has_name, then-has_name-via-else-has_name+then-has_name-2}
use Rattle.query_types.proofs.folds.check_args.Goals as goal

pub returns-then-has_name-clause-given : goal.returns-then-has_name-clause-given
returns-then-has_name-clause-given c =
    arg_taken c.args.states.now c.loop-arg.found (drop_more c.args.args.now c.loop-arg.arg-index _ c.loop-arg-test.true)
    c.loop-arg.invariant.given _ c.refused.ensures
    (elim c.then-has_name.branch [
      | then-has_name-via-then-has_name w ↦ either_first _ _ c.has_name.ensures w.if-has_name.true
      | then-has_name-via-else-has_name+then-has_name-2 w ↦ either_second _ _ c.has_name.ensures w.if-has_name.false
          (w.has_name-else-has_name.ensures ∙ ap (is_among _) w.as_slice.ensures) w.if-has_name-2.true
    ])

pub returns-then-len-ge-MAX_ARGS-clause-given : goal.returns-then-len-ge-MAX_ARGS-clause-given
returns-then-len-ge-MAX_ARGS-clause-given c =
    arg_full c.args.states.now c.loop-arg.found (drop_more c.args.args.now c.loop-arg.arg-index _ c.loop-arg-test.true)
    c.loop-arg.invariant.given _ c.refused-then-len-ge-MAX_ARGS.ensures
    (or_from _ _ (sym c.has_name.ensures ∙ c.if-has_name.false)
    (sym (c.has_name-else-has_name.ensures ∙ ap (is_among _) c.as_slice.ensures) ∙ c.if-has_name-2.false))
    _ c.len.ensures c.if-len-ge-MAX_ARGS.true

pub loop-arg-preserved : goal.loop-arg-preserved
loop-arg-preserved c = record {
  given = arg_added c.args.states.now c.loop-arg.found (drop_more c.args.args.now c.loop-arg.arg-index _ c.loop-arg-test.true)
      c.loop-arg.invariant.given _ c.in_ok-push.ensures.ok
      (or_from _ _ (sym c.has_name.ensures ∙ c.if-has_name.false)
      (sym (c.has_name-else-has_name.ensures ∙ ap (is_among _) c.as_slice.ensures) ∙ c.if-has_name-2.false))
      _ c.len.ensures c.if-len-ge-MAX_ARGS.false;
  most = within_most c.loop-arg.found _ _ _ _ c.in_ok-push.ensures.ok c.len.ensures c.if-len-ge-MAX_ARGS.false;
}

pub returns-clause-given : goal.returns-clause-given
returns-clause-given c =
    sym c.loop-arg.invariant.given ∙ at_drop_all (args_from c.args.states.now c.loop-arg.found) c.args.args.now c.loop-arg.arg-index
    c.loop-arg-test.false
