-- Each state variable is looked for among those before it, and the rest follow where it's new.
use Rattle.std.proofs.{Common.{sym, ap, ◌∙◌}, lemmas.List.{drop_more, at_drop_all}}
use Rattle.query_lang.specs.{Checks.is_among, TypedFolds.states_from}
use Rattle.query_types.proofs.FoldSteps.{state_taken, state_full, state_added, within_most}
use Rattle.query_types.proofs.folds.check_states.Goals as goal

pub returns-then-has_name-clause-given : goal.returns-then-has_name-clause-given
returns-then-has_name-clause-given c =
    state_taken c.loop-state.found (drop_more c.args.states.now c.loop-state.state-index _ c.loop-state-test.true)
    c.loop-state.invariant.given _ c.refused.ensures (sym (c.has_name.ensures ∙ ap (is_among _) c.as_slice.ensures) ∙ c.if-has_name.true)

pub returns-then-len-ge-MAX_STATES-clause-given : goal.returns-then-len-ge-MAX_STATES-clause-given
returns-then-len-ge-MAX_STATES-clause-given c =
    state_full c.loop-state.found (drop_more c.args.states.now c.loop-state.state-index _ c.loop-state-test.true)
    c.loop-state.invariant.given _ c.refused-then-len-ge-MAX_STATES.ensures
    (sym (c.has_name.ensures ∙ ap (is_among _) c.as_slice.ensures) ∙ c.if-has_name.false) _ c.len.ensures c.if-len-ge-MAX_STATES.true

pub loop-state-preserved : goal.loop-state-preserved
loop-state-preserved c = record {
  given = state_added c.loop-state.found (drop_more c.args.states.now c.loop-state.state-index _ c.loop-state-test.true)
      c.loop-state.invariant.given _ c.in_ok-push.ensures.ok
      (sym (c.has_name.ensures ∙ ap (is_among _) c.as_slice.ensures) ∙ c.if-has_name.false) _ c.len.ensures c.if-len-ge-MAX_STATES.false;
  most = within_most c.loop-state.found _ _ _ _ c.in_ok-push.ensures.ok c.len.ensures c.if-len-ge-MAX_STATES.false;
}

pub returns-clause-given : goal.returns-clause-given
returns-clause-given c =
    sym c.loop-state.invariant.given ∙ at_drop_all (states_from c.loop-state.found) c.args.states.now c.loop-state.state-index
    c.loop-state-test.false
