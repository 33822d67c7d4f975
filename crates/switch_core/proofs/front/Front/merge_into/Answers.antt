-- An empty pipe merges nothing, and a merge of its oldest record leaves room.
use Rattle.std.proofs.Common.{◌≡◌, ◌-◌, ◌<◌, ◌≤◌, ℕ, length, length-drop, ap, arith, refl, sym, ◌∙◌, subst, le-add_right, le_refl}
use Rattle.std.proofs.Common.{ne_of_gt, pos_of_ne-zero}
use Rattle.switch_core.specs.FrontEvents.{with_store}
use Rattle.switch_core.proofs.{Carrying.carries_none, Emptying.not_empty, MergeSteps.none_dropped}
use Rattle.switch_core.proofs.front.Front.merge_into.Goals as goal

pub returns-then-len-eq0 : goal.returns-then-len-eq0
returns-then-len-eq0 g c =
    let old = c.args.self.now in
    let empty : length c.self.inside.pipe.records ≡ 0 = sym c.len.ensures.number ∙ c.if-len-eq0.true in
    let none : length old.pipe.records ≡ 0 = subst (λ x. length x.pipe.records ≡ 0) c.self.view_is empty in
    record {
      carries = carries_none _ _ _ (with_store old c.args.store.now) none;
      fits = c.requires;
      empty = (λ e. none, λ e. refl);
      same = λ e. (refl, refl);
      err = tt;
      records = none_dropped _ none;
      ready = subst (λ x. length x.pipe.records < x.pipe.places) c.self.view_is
          (subst (λ n. n < c.self.inside.pipe.places) (sym empty) c.self.invariant.front.some_places);
      kind = refl;
      cache = refl;
      steps = le_refl _;
      cost = le-add_right _ _;
    }

-- one of some records is gone
room_left : (before after many places : ℕ) → before ≤ many → 0 < before → after ≡ before - 1 → places ≡ many → after < places
room_left before after many places few some less same = omega arith

pub returns : goal.returns
returns g c =
    let old = c.args.self.now in
    let made = c.merge_oldest.ensures in
    let done = c.in_ok-merge_oldest.ensures in
    let many = c.len.ensures.number in
    let some : 0 < length c.self.inside.pipe.records = pos_of_ne-zero (λ e. c.if-len-eq0.false (many ∙ e)) in
    let some_old : 0 < length old.pipe.records = subst (λ x. 0 < length x.pipe.records) c.self.view_is some in
    let few : length old.pipe.records ≤ old.pipe.places =
    subst (λ x. length x.pipe.records ≤ x.pipe.places) c.self.view_is c.len.ensures.sound.few in
    record {
      carries = done.carries;
      fits = made.fits;
      empty = (λ e. absurd (not_empty _ _ refl refl e), λ n. absurd (ne_of_gt some_old n));
      same = λ e. absurd (not_empty _ _ refl refl e);
      err = tt;
      records = done.records;
      ready = room_left _ _ _ _ few some_old (ap length done.records ∙ length-drop 1 old.pipe.records) done.carries.sizes.places;
      kind = made.kind;
      cache = made.cache;
      steps = made.steps;
      cost = made.cost;
    }
