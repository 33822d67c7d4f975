-- Each key is looked up and then added to those before it, and a fault in one is that of all.
use Rattle.std.proofs.{Common.{refl, sym, ◌∙◌}, lemmas.List.at_drop_all}
use Rattle.query_lang.specs.{declared.error.QueryError.TheVariants.Refused, TypedStreams.keys_from}
use Rattle.query_types.proofs.{CheckLemmas.{stops, stops_after, goes_on, more}, ColumnSteps.key_turn}
use Rattle.query_types.proofs.columns.pick_keys.Goals as goal

pub returns-in_err-slot-clause-given : goal.returns-in_err-slot-clause-given
returns-in_err-slot-clause-given c =
    stops _ _ (sym c.loop-key.invariant.given ∙ key_turn c.args.columns.now c.args.hidden.now c.args.keys.now c.loop-key.key-index _
    c.loop-key.found c.loop-key-test.true) _ (Refused c.in_err-slot.field-0.0) c.from_residual.ensures.1 (sym c.in_err-slot.ensures)

pub returns-in_err-pick-clause-given : goal.returns-in_err-pick-clause-given
returns-in_err-pick-clause-given c =
    goes_on _ _ (sym c.loop-key.invariant.given ∙ key_turn c.args.columns.now c.args.hidden.now c.args.keys.now c.loop-key.key-index _
    c.loop-key.found c.loop-key-test.true) _ (sym c.in_ok-slot.ensures)
    (stops_after _ _ refl _ _ _ c.from_residual-in_err-pick.ensures.1 c.in_err-pick.ensures.given)

pub loop-key-preserved : goal.loop-key-preserved
loop-key-preserved c = record {
  given = more _ _ refl c.in_ok-pick.ensures.given (more _ _ (key_turn c.args.columns.now c.args.hidden.now c.args.keys.now
      c.loop-key.key-index _ c.loop-key.found c.loop-key-test.true) (sym c.in_ok-slot.ensures) c.loop-key.invariant.given);
  most = c.in_ok-pick.ensures.most;
}

pub returns-clause-given : goal.returns-clause-given
returns-clause-given c =
    sym c.loop-key.invariant.given ∙ at_drop_all (keys_from c.args.columns.now c.args.hidden.now c.loop-key.found) c.args.keys.now
    c.loop-key.key-index c.loop-key-test.false
