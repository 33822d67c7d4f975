-- What an eviction makes of a front, it makes of its lane.
use Rattle.std.{proofs.Common.{◌+◌, ◌-◌, ◌<◌, length, take, ap, sym, ◌∙◌, subst, rules}, specs.Prelude.{◌==◌, not, if◌then◌else◌}}
use Rattle.epoch_model.specs.Machine.{Evict}
use Rattle.bucket_cache.specs.Caches.{list_at, with_list}
use Rattle.switch_core.specs.{Costs.evict_cost, FrontEvents.with_store, LaneEvents.{Makes, parts}}
use Rattle.switch_core.proofs.{Carrying.{fits_kept, makes_one}, StepSums.after_sum}
use Rattle.switch_core.proofs.lane.Lane.evict.Goals as goal

pub evict-requires : goal.evict-requires
evict-requires g c =
    let is = sym c.self.view_is in (
      search rules,
      (
        subst (λ x. length x.pipe.records < x.pipe.places) is c.requires.ready,
        subst (λ x. c.args.bucket < length x.cache.lists) is c.requires.range,
      ),
    )

pub returns : goal.returns
returns g c =
    let old = c.self.inside in
    let new = c.evict.new.self in
    let bucket = c.args.bucket in
    let made = c.evict.ensures in
    let carried = made.carries old.store in
    let is = c.self.view_is in record {
      stands = subst (λ x. Makes (g.K.EpochKind.stands x.kind) (g.K.EpochKind.folding x.kind) g.row.WAYS (Evict bucket)
          (parts x.cache x.pipe x.store) (parts new.cache new.pipe old.store)) is
          (makes_one _ _ _ _ (with_store old.front old.store) (with_store new old.store) carried);
      some = made.some ∙ ap (λ x. not (length (list_at x.cache bucket) == 0)) is;
      cache = made.cache
          ∙ ap (λ x. with_list x.cache bucket (take (length (list_at x.cache bucket) - 1) (list_at x.cache bucket))) is;
      same = λ e. let s = made.same e in (ap (λ x. x.cache) s ∙ ap (λ x. x.cache) is, ap (λ x. x.pipe) s ∙ ap (λ x. x.pipe) is);
      kind = carried.sizes.kind ∙ ap (λ x. x.kind) is;
      store = ap (λ x. x.store) is;
      steps = after_sum _ _ _ made.cost;
      cost = made.cost
          ∙ ap (λ x. c.args.steps.now + (if c.evict.result then evict_cost x.cache.key_words x.cache.entry_words else 0)) is;
    }

pub invariant_of-self : goal.invariant_of-self
invariant_of-self g c =
    let old = c.self.inside in
    fits_kept g.K.EpochKind.sizes (with_store old.front old.store) (with_store c.evict.new.self old.store)
    (c.evict.ensures.carries old.store).sizes c.self.invariant
