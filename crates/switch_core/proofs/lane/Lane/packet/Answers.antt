-- What a packet makes of a front, it makes of its lane.
use Rattle.std.proofs.Common.{◌≡◌, ◌+◌, ◌*◌, ◌<◌, ◌≤◌, length, ap, sym, ◌∙◌, subst, rules}
use Rattle.epoch_model.specs.Machine.{Packet}
use Rattle.switch_core.{specs.{FrontEvents.with_store, LaneEvents.{Makes, parts}}, proofs.Carrying.{fits_kept, makes_one}}
use Rattle.switch_core.proofs.lane.Lane.packet.Goals as goal

pub packet-requires : goal.packet-requires
packet-requires g c =
    let is = sym c.self.view_is in (
      search rules,
      (
        subst (λ x. length x.pipe.records < x.pipe.places) is c.requires.ready,
        (
          subst (λ x. length c.args.key.now ≡ x.cache.key_words) is c.requires.key,
          subst (λ x. length c.args.args.now ≡ (g.K.EpochKind.sizes x.kind).args) is c.requires.args,
        ),
      ),
    )

pub returns : goal.returns
returns g c =
    let old = c.self.inside in
    let new = c.packet.new.self in
    let carried = c.packet.ensures.carries old.store in
    let is = c.self.view_is in record {
      stands = subst (λ x. Makes (g.K.EpochKind.stands x.kind) (g.K.EpochKind.folding x.kind) g.row.WAYS
          (Packet c.args.key.now c.args.args.now) (parts x.cache x.pipe x.store) (parts new.cache new.pipe old.store)) is
          (makes_one _ _ _ _ (with_store old.front old.store) (with_store new old.store) carried);
      kind = carried.sizes.kind ∙ ap (λ x. x.kind) is;
      steps = c.packet.ensures.steps;
      cost = subst (λ x. c.packet.new.steps ≤ c.args.steps.now + (x.cache.key_words + 2 * g.row.WAYS * (x.cache.key_words + 1)
          + (x.cache.key_words + (g.K.EpochKind.sizes x.kind).entry) + g.K.EpochKind.open_bound x.kind
          + g.K.EpochKind.absorb_bound x.kind)) is c.packet.ensures.cost;
    }

pub invariant_of-self : goal.invariant_of-self
invariant_of-self g c =
    let old = c.self.inside in
    fits_kept g.K.EpochKind.sizes (with_store old.front old.store) (with_store c.packet.new.self old.store)
    (c.packet.ensures.carries old.store).sizes c.self.invariant
