-- The oldest record's epoch goes on in the store, and the record is gone from the pipe.
use Rattle.std.proofs.Common.{◌≡◌, ℕ, ◌+◌, ◌<◌, ◌≤◌, drop, length, refl, sym, ap, ◌∙◌, subst, arith, ne_of_gt}
use Rattle.epoch_model.{specs.Machine.Merge, proofs.Endings.no_end}
use Rattle.switch_core.specs.{Costs.merge_cost, FrontParts.{FitsStore, front_of}, FrontEvents.{Carries, MergesNext, with_store}}
use Rattle.switch_core.specs.Lanes.{RecordStands}
use Rattle.switch_core.proofs.{Carrying.carries_merge, FrontSizes.{front_makes, parts_kept, sizes_same}}
use Rattle.switch_core.proofs.{LaneFacts.err_holds, MergeSteps.{front_merged, next_held}}
use Rattle.switch_core.proofs.front.Front.merge_oldest.Goals as goal
use Rattle.switch_core.proofs.front.Front.merge_oldest.Goals.{After-merge_record}

-- the store still fits the front's own parts
still_fits : (g : _) (c : After-merge_record g)
    → FitsStore (g.K.EpochKind.sizes c.self.inside.kind) c.self.inside.cache c.merge_record.new.store
still_fits g c =
    let fits : FitsStore (g.K.EpochKind.sizes c.self.inside.kind) c.self.inside.cache c.args.store.now =
    subst (λ x. FitsStore (g.K.EpochKind.sizes x.kind) x.cache c.args.store.now) (sym c.self.view_is) c.requires.fits in
    record { key = c.merge_record.ensures.key_words ∙ fits.key; state = c.merge_record.ensures.state_words ∙ fits.state }

both : {A B : Type 0} → A → B → A × B
both a b = (a, b)

after_words : (first last key entry most : ℕ) → last ≤ first + most → last ≤ first + (key + entry + most)
after_words first last key entry most h = omega arith

spent : (g : _) (c : After-merge_record g) → (let front = c.args.self.now in c.merge_record.new.steps
    ≤ c.args.steps.now + merge_cost front.cache.key_words front.cache.entry_words (g.K.EpochKind.merge_bound front.kind))
spent g c =
    subst (λ x. c.merge_record.new.steps ≤ c.args.steps.now + merge_cost x.cache.key_words x.cache.entry_words
    (g.K.EpochKind.merge_bound x.kind)) c.self.view_is (after_words _ _ _ _ _ c.merge_record.ensures.cost)

pub returns : goal.returns
returns g c =
    let old = c.self.inside in
    let some : 0 < length old.pipe.records = subst (λ x. 0 < length x.pipe.records) (sym c.self.view_is) c.requires.some in
    let pipe = c.drop_front.new.self in
    let store = c.args.store.now in
    let after = c.merge_record.new.store in
    let new = front_of old.kind old.cache pipe in
    let fits : FitsStore (g.K.EpochKind.sizes old.kind) old.cache store =
    subst (λ x. FitsStore (g.K.EpochKind.sizes x.kind) x.cache store) (sym c.self.view_is) c.requires.fits in
    let fit = still_fits g (goal.at.returns g c).After-merge_record in
    let stands = g.K.EpochKind.stands old.kind in
    let made = front_makes stands g.row.WAYS Merge old.kind old.cache old.cache old.pipe pipe (sizes_same old.cache)
    (ap (λ p. p.places) c.drop_front.ensures)
    (λ m s. front_merged stands old.cache old.pipe pipe m some (ap (λ p. p.records) c.drop_front.ensures) s) in
    let next : MergesNext stands (g.K.EpochKind.folding old.kind) (front_of old.kind old.cache old.pipe) store after =
    λ m epochs s held. next_held stands _ old.cache old.pipe store after m epochs some
    (λ epoch stood kept. c.in_ok-merge_record.ensures.ok epoch epochs
    (subst (λ n. RecordStands stands n c.front.result.now epoch) (sym fits.key)
    (subst (λ ws. RecordStands stands old.cache.key_words ws epoch) (sym c.front.ensures.words) stood)) kept) s held in
    record {
      carries = subst (λ x. Carries g.K.EpochKind.stands g.K.EpochKind.folding g.row.WAYS Merge (with_store x store) (with_store new after))
          c.self.view_is (carries_merge g.K.EpochKind.sizes _ _ _
          (front_of old.kind old.cache old.pipe) new store after made next fits fit refl
          (ap (λ p. p.records) c.drop_front.ensures) (λ none. absurd (ne_of_gt some none)));
      fits = fit;
      err = tt;
      records = ap (λ p. p.records) c.drop_front.ensures ∙ ap (λ x. drop 1 x.pipe.records) c.self.view_is;
      kind = ap (λ x. x.kind) c.self.view_is;
      cache = ap (λ x. x.cache) c.self.view_is;
      steps = c.merge_record.ensures.steps;
      cost = spent g (goal.at.returns g c).After-merge_record;
    }

pub returns-in_err-merge_record : goal.returns-in_err-merge_record
returns-in_err-merge_record g c =
    record {
      carries = no_end c.from_residual.result _ c.from_residual.ensures.0;
      fits = still_fits g (goal.at.returns-in_err-merge_record g c).After-merge_record;
      err = err_holds _ _ (both c.self.view_is c.in_err-merge_record.ensures.err);
      records = no_end c.from_residual.result _ c.from_residual.ensures.0;
      kind = ap (λ x. x.kind) c.self.view_is;
      cache = ap (λ x. x.cache) c.self.view_is;
      steps = c.merge_record.ensures.steps;
      cost = spent g (goal.at.returns-in_err-merge_record g c).After-merge_record;
    }

pub merge_record-requires-clause-state : goal.merge_record-requires-clause-state
merge_record-requires-clause-state g c =
    subst (λ x. c.args.store.now.state_words ≡ (g.K.EpochKind.sizes x.kind).state) (sym c.self.view_is) c.requires.fits.state

pub merge_record-requires-clause-initial : goal.merge_record-requires-clause-initial
merge_record-requires-clause-initial g c =
    c.deref.ensures.value ∙ c.self.invariant.initial_state

pub merge_record-requires-clause-initial_words : goal.merge_record-requires-clause-initial_words
merge_record-requires-clause-initial_words g c =
    let state : c.args.store.now.state_words ≡ (g.K.EpochKind.sizes c.self.inside.kind).state =
    subst (λ x. c.args.store.now.state_words ≡ (g.K.EpochKind.sizes x.kind).state) (sym c.self.view_is) c.requires.fits.state in
    ap length c.deref.ensures.value ∙ (c.self.invariant.initial_words ∙ sym state)

pub merge_record-requires-clause-scratch : goal.merge_record-requires-clause-scratch
merge_record-requires-clause-scratch g c =
    ap length c.deref_mut.ensures.value ∙ c.self.invariant.scratch_words

same_sum : (w k e key entry : ℕ) → w ≡ k + e → key ≡ k → e ≡ entry → w ≡ key + entry
same_sum w k e key entry whole hk he = omega arith

pub merge_record-requires-clause-words : goal.merge_record-requires-clause-words
merge_record-requires-clause-words g c =
    let key : c.args.store.now.key_words ≡ c.self.inside.cache.key_words =
    subst (λ x. c.args.store.now.key_words ≡ x.cache.key_words) (sym c.self.view_is) c.requires.fits.key in
    same_sum _ _ _ _ _ (c.front.ensures.length ∙ c.self.invariant.front.record_words) key c.self.invariant.front.entry

pub invariant_of-self : goal.invariant_of-self
invariant_of-self g c =
    let old = c.self.inside in
    parts_kept _ _ _ old.cache old.cache old.pipe old.pipe _ _ _ c.merge_record.new.scratch _ (sizes_same old.cache) refl refl
    c.deref_mut.ensures.value c.deref_mut.ensures.len c.merge_record.auto.scratch c.self.invariant

pub invariant_of-self-2 : goal.invariant_of-self-2
invariant_of-self-2 g c =
    let old = c.self.inside in
    parts_kept _ _ _ old.cache old.cache old.pipe c.drop_front.new.self _ _ _ c.merge_record.new.scratch _ (sizes_same old.cache)
    (ap (λ p. p.places) c.drop_front.ensures) (ap (λ p. p.record_words) c.drop_front.ensures)
    c.deref_mut.ensures.value c.deref_mut.ensures.len c.merge_record.auto.scratch c.self.invariant
