-- The ways so far have other keys, so the first that has the same is where the key is, and else no way has it.
use Rattle.std.proofs.Common.{◌≡◌, ◌+◌, ◌*◌, ◌<◌, ◌≤◌, ℕ, [], length, get_or, false, ap, sym, ◌∙◌, arith, ⊎_elim, subst, refl}
use Rattle.std.proofs.lemmas.Bool.{cases_eq}
use Rattle.epoch_model.specs.Keys.{key_eq}
use Rattle.bucket_cache.{specs.Slices.rows_of, proofs.FlatRows.{row_fits, row_width, get-rows_of}}
use Rattle.bucket_cache.proofs.ways.find_key.Goals as goal

pub row-held-requires : goal.row-held-requires
row-held-requires g c =
    let fits = row_fits (get_or c.args.order.now c.loop-i.i 0) (length c.args.order.now) (length c.args.key.now)
    (c.requires.ways c.loop-i.i 0 (omega arith)) in
    let flat = c.requires.flat in
    omega arith

pub compare-same-requires : goal.compare-same-requires
compare-same-requires g c = row_width (length c.args.order.now) (get_or c.args.order.now c.loop-i.i 0) (length c.args.key.now)
    c.args.words.now c.row-held.result.now (c.requires.ways c.loop-i.i 0 (omega arith)) c.requires.flat c.row-held.ensures

pub returns-then-same-clause-same : goal.returns-then-same-clause-same
returns-then-same-clause-same g c =
    let way = get_or c.args.order.now c.loop-i.i 0 in
    ap (λ k. key_eq k c.args.key.now) (get-rows_of (length c.args.key.now) (length c.args.order.now) c.args.words.now way []
    (c.requires.ways c.loop-i.i 0 (omega arith)) ∙ sym c.row-held.ensures)
    ∙ (sym c.compare-same.ensures.answer ∙ c.if-same.true)

pub loop-i-init : goal.loop-i-init
loop-i-init g c =
    let some = c.if-used-eq0.false in
    record {
      none = λ at h. subst (λ n. key_eq (get_or (rows_of (length c.args.key.now) (length c.args.order.now) c.args.words.now)
          (get_or c.args.order.now n 0) []) c.args.key.now ≡ false) (let e : 0 ≡ at = omega arith in e)
          (c.requires.other (omega arith));
      steps = refl;
      compared = let short = c.requires.compared in omega arith;
    }

pub loop-i-preserved : goal.loop-i-preserved
loop-i-preserved g c =
    let key = c.args.key.now in
    let order = c.args.order.now in
    let rows = rows_of (length key) (length order) c.args.words.now in
    let i = c.loop-i.i in
    let this =
    ap (λ k. key_eq k key) (get-rows_of (length key) (length order) c.args.words.now (get_or order i 0) []
    (c.requires.ways i 0 (omega arith)) ∙ sym c.row-held.ensures)
    ∙ (sym c.compare-same.ensures.answer ∙ c.if-same.false) in
    let short = row_width (length order) (get_or order i 0) (length key) c.args.words.now c.row-held.result.now
    (c.requires.ways i 0 (omega arith)) c.requires.flat c.row-held.ensures in
    let more = c.compare-same.ensures.looked in
    let kept = c.loop-i.invariant.compared in
    record {
      none = λ at h. ⊎_elim
          (λ (e : at ≡ i). rw e this)
          (λ (d : at ≡ i → ⊥). c.loop-i.invariant.none at (let l = below at i h d in l))
          (cases_eq at i);
      steps = c.loop-i.invariant.steps;
      compared = omega arith;
    }
  where
    below : (at i : ℕ) → at < i + 1 → (at ≡ i → ⊥) → at < i
    below at i h d = grind arith

pub bounds-order-i : goal.bounds-order-i
bounds-order-i g c = omega (arith, c.loop-i-test.true, c.requires.within)

pub returns-then-same-clause-found : goal.returns-then-same-clause-found
returns-then-same-clause-found g c = c.loop-i-test.true

pub returns-then-same-clause-steps : goal.returns-then-same-clause-steps
returns-then-same-clause-steps g c = omega (arith, c.tick_many.ensures, c.loop-i.invariant.steps)

pub returns-clause-none : goal.returns-clause-none
returns-clause-none g c at h = c.loop-i.invariant.none at (omega (arith, h, c.loop-i-test.false))

pub returns-clause-steps : goal.returns-clause-steps
returns-clause-steps g c = omega (arith, c.tick_many-2.ensures, c.loop-i.invariant.steps)

pub returns-clause-cost : goal.returns-clause-cost
returns-clause-cost g c =
    let at_end : c.loop-i.i ≡ c.args.used = omega (arith, c.loop-i.auto.i-end, c.loop-i-test.false) in
    let compared = subst (λ n. c.loop-i.compared ≤ n * length c.args.key.now) at_end c.loop-i.invariant.compared in
    omega (arith, compared, c.tick_many-2.ensures, c.loop-i.invariant.steps)
