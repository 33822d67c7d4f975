-- An upkeep of a lane's front, with the lane's store.
use Rattle.std.proofs.Common.{◌≤◌, ◌+◌, OnErr, OnOk, subst}
use Rattle.switch_core.specs.{FrontEvents.{CarriesAll, CarriesFirst, with_store}, Upkeeps.{upkeep_cost, upkeep_events}}
use Rattle.switch_core.proofs.Carrying.{fits_kept}
use Rattle.switch_core.proofs.lane.Lane.keep_up.Goals as goal

pub invariant_of-self : goal.invariant_of-self
invariant_of-self g c =
    let old = c.self.inside in
    fits_kept g.K.EpochKind.sizes (with_store old.front old.store)
    (with_store c.keep_up.new.front c.keep_up.new.store) c.keep_up.ensures.sizes c.self.invariant

pub returns : goal.returns
returns g c =
    let new = with_store c.keep_up.new.front c.keep_up.new.store in record {
      carries = subst (λ x. OnOk c.keep_up.result (CarriesAll g.K.EpochKind.stands g.K.EpochKind.folding g.row.WAYS
          (upkeep_events c.args.upkeep x.cache x.pipe) x new)) c.self.view_is c.keep_up.ensures.carries;
      breaks_off = subst (λ x. OnErr c.keep_up.result (CarriesFirst g.K.EpochKind.stands g.K.EpochKind.folding g.row.WAYS
          (upkeep_events c.args.upkeep x.cache x.pipe) x new)) c.self.view_is c.keep_up.ensures.breaks_off;
      left = c.keep_up.ensures.left;
      steps = c.keep_up.ensures.steps;
      cost = subst (λ x. c.keep_up.new.steps ≤ c.args.steps.now + upkeep_cost c.args.upkeep x.cache x.pipe
          (g.K.EpochKind.merge_bound x.kind)) c.self.view_is c.keep_up.ensures.cost;
    }
