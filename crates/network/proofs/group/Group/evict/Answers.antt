-- What closes at a switch's front is what closes in its lane, and neither the store nor other fronts change.
use Rattle.std.proofs.Common.{lit<, ◌≡◌, ◌+◌, ◌==◌, ◌<◌, if◌then◌else◌, not, length, sym, ap, ◌∙◌, subst}
use Rattle.epoch_model.specs.Machine.{Evict}
use Rattle.bucket_cache.specs.Caches.{list_at}
use Rattle.switch_core.specs.{Costs.evict_cost, FrontEvents.with_store}
use Rattle.network.{specs.{Shared.AtSwitch, Groups.GroupView, Events.{GroupMakes, with_lane}}, proofs.MakeSteps.evict_makes}
use Rattle.network.proofs.OneFront.{group_of, front_found, front_is, front_room}
use Rattle.network.proofs.group.Group.evict.Goals as goal

pub evict-requires : goal.evict-requires
evict-requires g c =
    let f = front_found c.self.view_is c.requires.switch c.index_mut-front.ensures.value in
    let range = subst (λ (v : GroupView). AtSwitch (λ x. c.args.bucket < length x.cache.lists) v.fronts c.args.at)
    (sym c.self.view_is) c.requires.range in
    (lit< tt, (front_room f c.requires.ready, range c.index_mut-front.result.now f.here))

pub returns-clause-makes : goal.returns-clause-makes
returns-clause-makes g c =
    let f = front_found c.self.view_is c.requires.switch c.index_mut-front.ensures.value in
    let view = group_of c.self.inside in
    let lane = with_store c.evict.new.self view.store in
    subst (λ v. GroupMakes g.row.WAYS c.args.at (Evict c.args.bucket) v (with_lane c.args.at lane view)) c.self.view_is
    (evict_makes g.row.WAYS c.args.at c.args.bucket view c.index_mut-front.result.now lane f.here (c.evict.ensures.carries view.store))

pub returns-clause-some : goal.returns-clause-some
returns-clause-some g c x e = c.evict.ensures.some ∙ ap (λ v. not (length (list_at v.cache c.args.bucket) == 0))
    (front_is (front_found c.self.view_is c.requires.switch c.index_mut-front.ensures.value) e)

pub returns-clause-cost : goal.returns-clause-cost
returns-clause-cost g c x e =
    subst (λ v. c.evict.new.steps ≡ c.args.steps.now + (if c.evict.result then evict_cost v.cache.key_words v.cache.entry_words else 0))
    (front_is (front_found c.self.view_is c.requires.switch c.index_mut-front.ensures.value) e) c.evict.ensures.cost
