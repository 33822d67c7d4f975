-- What a merge makes of a front and the lane's store, it makes of the lane.
use Rattle.std.{proofs.Common.{◌≡◌, ◌+◌, ◌≤◌, drop, length, ap, ◌∙◌, subst, rules}, specs.Prelude.{◌↔◌, Ok, OnOk}}
use Rattle.epoch_model.specs.Machine.{Merge}
use Rattle.switch_core.specs.{Costs.merge_cost, FrontEvents.with_store, LaneEvents.{Makes, parts}}
use Rattle.switch_core.specs.declared.front.Merged.TheVariants.{Empty}
use Rattle.switch_core.proofs.{Carrying.makes_one, LaneFacts.{on_err, on_ok}}
use Rattle.switch_core.proofs.lane.Lane.merge.Goals as goal

pub merge_into-requires : goal.merge_into-requires
merge_into-requires g c = (search rules, c.self.invariant)

pub invariant_of-self : goal.invariant_of-self
invariant_of-self g c = c.merge_into.ensures.fits

pub returns : goal.returns
returns g c =
    let old = c.self.inside in
    let new = c.merge_into.new.self in
    let store = c.merge_into.new.store in
    let result = c.merge_into.result in
    let made = c.merge_into.ensures in
    let is = c.self.view_is in
    let means = g.K.EpochKind.stands in
    let folding = g.K.EpochKind.folding in
    let carry = makes_one means folding g.row.WAYS Merge (with_store old.front old.store) (with_store new store) in record {
      stands = subst (λ x. OnOk result (Makes (means x.kind) (folding x.kind) g.row.WAYS Merge (parts x.cache x.pipe x.store)
          (parts new.cache new.pipe store))) is
          (on_ok _ _ result carry made.carries);
      empty = subst (λ x. (result ≡ Ok Empty) ↔ (length x.pipe.records ≡ 0)) is made.empty;
      same = λ e. let s = made.same e in (ap (λ x. x.pipe) s.0 ∙ ap (λ x. x.pipe) is, s.1 ∙ ap (λ x. x.store) is);
      err = on_err _ _ result (λ s. (ap (λ x. x.pipe) s.0 ∙ ap (λ x. x.pipe) is, s.1 ∙ ap (λ x. x.store) is)) made.err;
      records = subst (λ x. OnOk result (new.pipe.records ≡ drop 1 x.pipe.records)) is made.records;
      ready = made.ready;
      kind = made.kind ∙ ap (λ x. x.kind) is;
      cache = made.cache ∙ ap (λ x. x.cache) is;
      steps = made.steps;
      cost = subst (λ x. c.merge_into.new.steps ≤ c.args.steps.now
          + merge_cost x.cache.key_words x.cache.entry_words (g.K.EpochKind.merge_bound x.kind)) is made.cost;
    }
