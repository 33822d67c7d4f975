-- Merges one after another, up to the one that finds the pipe empty.
use Rattle.std.proofs.Common.{rules, ◌≡◌, ◌+◌, ◌*◌, ◌≤◌, Ok, suc, [], ◌∷◌, length, replicate, refl, ap, ◌∙◌, subst}
use Rattle.std.proofs.Common.{ℕ, ◌-◌, sym, arith, le_of_eq, le_refl, le_trans, length-drop}
use Rattle.epoch_model.{specs.Machine.Merge, proofs.Endings.no_end}
use Rattle.switch_core.{specs.{Costs.merge_cost, FrontEvents.{CarriesUpTo, with_store}}, proofs.Carrying.{fits_kept, keeps_on, keeps_same}}
use Rattle.switch_core.proofs.Carrying.{keeps_start, same_store, up_to_first_as, up_to_on, up_to_start, up_to_whole}
use Rattle.switch_core.proofs.{Emptying.{merges_more, merges_within, not_empty}, LaneFacts.err_holds, SweepCosts.merge_as_first}
use Rattle.switch_core.proofs.upkeep.empty_pipe.Goals as goal
use Rattle.switch_core.proofs.upkeep.empty_pipe.Goals.{After-merge_into}

pub records-init : goal.records-init
records-init g c = record {
  carries = up_to_start _ _ g.row.WAYS _ (with_store c.args.front.now c.args.store.now);
  sizes = keeps_start _;
  later = le_refl _;
  cost = le_refl _;
}

pub merge_into-requires : goal.merge_into-requires
merge_into-requires g c =
    (search rules, fits_kept g.K.EpochKind.sizes _ _ c.records.invariant.sizes c.requires)

one_gone : (many left : ℕ) → (many ≡ 0 → ⊥) → left ≡ many - 1 → many ≡ suc left
one_gone many left some is = omega arith

-- the steps of a merge, and of all merges up to the last one
merged : (g : _) (c : After-merge_into g) → (let first = c.args.front.now in c.merge_into.new.steps
    ≤ c.records.steps + merge_cost first.cache.key_words first.cache.entry_words (g.K.EpochKind.merge_bound first.kind))
merged g c = merge_as_first g.K.EpochKind.merge_bound (with_store c.args.front.now c.args.store.now) _ _ _ c.records.invariant.sizes
    c.merge_into.ensures.cost

spent : (g : _) (c : After-merge_into g) → (let first = c.args.front.now in c.merge_into.new.steps ≤ c.args.steps.now
    + suc (length first.pipe.records) * merge_cost first.cache.key_words first.cache.entry_words (g.K.EpochKind.merge_bound first.kind))
spent g c = merges_within c.args.steps.now c.records.steps c.merge_into.new.steps (length c.args.front.now.pipe.records)
    (length c.records.front.pipe.records) _ (merged g c) c.records.invariant.cost

pub records-preserved : goal.records-preserved
records-preserved g c =
    let first = with_store c.args.front.now c.args.store.now in
    let was = with_store c.records.front c.records.store in
    let new = with_store c.merge_into.new.self c.merge_into.new.store in
    let before = c.records.invariant in
    let made = c.in_ok-merge_into.ensures.carries in
    let some : length was.pipe.records ≡ 0 → ⊥ =
    λ none. not_empty c.merge_into.result c.in_ok-merge_into.field-0 c.in_ok-merge_into.was c.in-Done.is
    (c.merge_into.ensures.empty.1 none) in
    let fewer = one_gone _ _ some (ap length c.in_ok-merge_into.ensures.records ∙ length-drop 1 was.pipe.records) in
    let all = replicate (suc (length first.pipe.records)) Merge in
    record {
      carries = up_to_on g.K.EpochKind.stands g.K.EpochKind.folding g.row.WAYS all (Merge ∷ [])
          (replicate (suc (length new.pipe.records)) Merge) first was new
          (subst (λ n. CarriesUpTo g.K.EpochKind.stands g.K.EpochKind.folding g.row.WAYS all
          (replicate (suc n) Merge) first was) fewer before.carries)
          (new, made, refl);
      sizes = keeps_on first was new before.sizes made.sizes;
      later = le_trans before.later c.merge_into.ensures.steps;
      cost = merges_more c.args.steps.now c.records.steps c.merge_into.new.steps (length first.pipe.records) (length was.pipe.records)
          (length new.pipe.records)
          (merge_cost first.cache.key_words first.cache.entry_words (g.K.EpochKind.merge_bound first.kind)) fewer
          (merged g (goal.at.records-preserved g c).After-merge_into) before.cost;
    }

pub records-smaller : goal.records-smaller
records-smaller g c =
    let was = c.records.front in
    let some : length was.pipe.records ≡ 0 → ⊥ =
    λ none. not_empty c.merge_into.result _ c.in_ok-merge_into.was c.in-Done.is
    (c.merge_into.ensures.empty.1 none) in
    le_of_eq (sym (one_gone _ _ some (ap length c.in_ok-merge_into.ensures.records ∙ length-drop 1 was.pipe.records)))

pub returns : goal.returns
returns g c =
    record {
      carries =
          let first = with_store c.args.front.now c.args.store.now in
          let was = with_store c.records.front c.records.store in
          let new = with_store c.merge_into.new.self c.merge_into.new.store in
          let none : length was.pipe.records ≡ 0 = c.merge_into.ensures.empty.0 (c.in_ok-merge_into.was ∙ ap Ok c.in_default.is) in
          let all = replicate (suc (length first.pipe.records)) Merge in
          let means = g.K.EpochKind.stands in
          let folding = g.K.EpochKind.folding in
          up_to_whole means folding g.row.WAYS all first new (up_to_on means folding g.row.WAYS all (Merge ∷ []) [] first was new
          (subst (λ n. CarriesUpTo means folding g.row.WAYS all (replicate (suc n) Merge) first was) none c.records.invariant.carries)
          (new, c.in_ok-merge_into.ensures.carries, refl));
      breaks_off = tt;
      empty =
          let was = c.records.front in
          let none : length was.pipe.records ≡ 0 = c.merge_into.ensures.empty.0 (c.in_ok-merge_into.was ∙ ap Ok c.in_default.is) in
          ap length c.in_ok-merge_into.ensures.records ∙ (length-drop 1 was.pipe.records ∙ ap (λ n. n - 1) none);
      sizes = keeps_on (with_store c.args.front.now c.args.store.now) (with_store c.records.front c.records.store)
          (with_store c.merge_into.new.self c.merge_into.new.store) c.records.invariant.sizes c.in_ok-merge_into.ensures.carries.sizes;
      steps = le_trans c.records.invariant.later c.merge_into.ensures.steps;
      cost = spent g (goal.at.returns g c).After-merge_into;
    }

pub returns-in_err-merge_into : goal.returns-in_err-merge_into
returns-in_err-merge_into g c =
    let err = c.in_err-merge_into.ensures.err in
    record {
      carries = no_end _ _ c.from_residual.ensures.0;
      breaks_off = err_holds _ _ (up_to_first_as _ _ g.row.WAYS _ _ _ _ _ c.records.invariant.carries
          (same_store c.records.front c.merge_into.new.self _ _ err));
      empty = no_end _ _ c.from_residual.ensures.0;
      sizes = keeps_on _ _ _ c.records.invariant.sizes (keeps_same _ c.merge_into.new.self _ c.merge_into.new.store err);
      steps = le_trans c.records.invariant.later c.merge_into.ensures.steps;
      cost = spent g (goal.at.returns-in_err-merge_into g c).After-merge_into;
    }
