-- Each lane so far has a whole store, whose words per key and per state are those of the lane.
use Rattle.std.{proofs.{Common.{◌≡◌, sym, ap, ◌∙◌, subst, arith}, lemmas.Bool.{ltb-true, ltb-false}}, specs.Prelude.slice_get}
use Rattle.epoch_model.proofs.KeyLists.{by_test}
use Rattle.backing_store.specs.Store.{IsStore}
use Rattle.switch_core.proofs.SideBySide.{got_below, same_some}
use Rattle.enclosed_query.specs.AfterEvents.{HasStoredRows}
use Rattle.enclosed_query.proofs.tables.stores_known.Goals as goal

pub loop-i-preserved : goal.loop-i-preserved
loop-i-preserved g c n lane below at =
    let i = c.loop-i.i in
    by_test _
    (λ e. c.loop-i.invariant n lane (ltb-true n i e) at)
    (λ e.
    let least = ltb-false n i e in
    let same : n ≡ i = omega arith in
    let is : c.lane-lane.result.now ≡ lane = same_some _ _
    (sym c.lane-lane.ensures.lane ∙ (ap (slice_get c.args.pipeline.now.lanes) (sym same) ∙ at)) in
    subst HasStoredRows is (record {
      store = subst IsStore c.store.ensures c.invariant-in-loop-i.ensures;
      words = c.invariant.ensures.store.key;
      state = c.invariant.ensures.store.state;
    }))

pub returns : goal.returns
returns g c n lane at =
    let within = got_below _ n _ at in
    let end = c.loop-i-test.false in
    let lanes = c.lanes-i-end.ensures in
    c.loop-i.invariant n lane (omega arith) at
