-- What holds of each lane of a plan.
use Rattle.std.proofs.Common.{◌≡◌, ℕ, zero, suc, ◌+◌, ◌<◌, ◌≤◌, ◌&&◌, ◌==◌, Bool, true, false, List, [], ◌∷◌, Some, Result, Ok, Err, OnOk}
use Rattle.std.proofs.{Common.{OnErr, length, take, set, ◌++◌, refl, sym, ap, ◌∙◌, arith}, Math.Seq.take-append_seam}
use Rattle.std.{proofs.lemmas.Bool.Decides.nat_tests, specs.{List.list_all, Prelude.slice_get}}
use Rattle.epoch_model.specs.Machine.{Event}
use Rattle.query_lang.specs.declared.fault.TheConstants.{MAX_ARGS, MAX_KEYS}
use Rattle.epoch_entry.specs.{declared.purpose.Entries.Entries, contracts.any.AnyEpochsEpochKind.TheImpl.ghosts}
use Rattle.stage_plan.specs.{Planned.wiring_at, Sound.{PlanParts, IsSoundPlan}}
use Rattle.switch_core.specs.{Pipelines.{IsLaneOf, event_at}, PlanLanes.{LaneView, AreLanesOf, LaneMakes, LanesMake}}
use Rattle.switch_core.proofs.SideBySide.{same_some, got_some, got_below, each_at, each_set, untouched_start}

-- two tests that both pass
pub both_pass : (b c : Bool) → (b && c) ≡ true → (b ≡ true) × (c ≡ true)
both_pass true c h = (refl, h)
both_pass false c h = absurd (cc)

pub all_at : {X : Type 0} (p : X → Bool) (xs : List X) (i : ℕ) (x : X) → list_all p xs ≡ true → slice_get xs i ≡ Some x → p x ≡ true
all_at p [] i x a e = cc
all_at p (y ∷ xs) zero x a e = let same : y ≡ x = cc in ap p (sym same) ∙ (both_pass (p y) (list_all p xs) a).0
all_at p (y ∷ xs) (suc i) x a e = all_at p xs i x (both_pass (p y) (list_all p xs) a).1 e

-- a lane's place is that of a groupby, and it has the words of what the groupby takes
pub record FitsWiring (plan : PlanParts) (i : ℕ) (lane : LaneView) : Type 0 where
  pub group : i < length plan.groups
  pub keys : lane.cache.key_words ≡ length (wiring_at plan i).keys
  pub args : (ghosts.sizes lane.kind).args ≡ length (wiring_at plan i).args
  pub few_keys : length (wiring_at plan i).keys ≤ MAX_KEYS
  pub few_args : length (wiring_at plan i).args ≤ MAX_ARGS

pub lane_fits : (entries : Entries) (plan : PlanParts) (buckets i : ℕ) (lanes : List LaneView) (lane : LaneView) → IsSoundPlan plan
    → AreLanesOf entries plan buckets lanes → slice_get lanes i ≡ Some lane → FitsWiring plan i lane
lane_fits entries plan buckets i lanes lane sound are at =
    let R = λ (n : ℕ) (l : LaneView) (group : _). IsLaneOf entries buckets l.cache (ghosts.sizes l.kind) (ghosts.folding l.kind)
    (ghosts.open_bound l.kind) (ghosts.absorb_bound l.kind) group (wiring_at plan n) in
    let found = each_at R 0 i lanes plan.groups lane are at in
    let below = got_below _ i _ found.1 in
    let wired = got_some plan.wiring i (let w = sound.wired in omega arith) in
    let is : wiring_at plan i ≡ wired.0 = rw wired.1 in
    let own = found.2 i (omega arith) in
    let each = sound.each i found.0 wired.0 found.1 wired.1 in
    record {
      group = below;
      keys = own.keys ∙ (sym each.keys ∙ ap (λ w. length w.keys) (sym is));
      args = own.args;
      few_keys = rw is (let a = each.keys in let b = each.most_keys in omega arith);
      few_args = rw is each.most_args;
    }

pub on_ok : {X E : Type 0} (P Q : Type 0) (r : Result X E) → (P → Q) → OnOk r P → OnOk r Q
on_ok P Q (Ok x) h o = h o
on_ok P Q (Err e) h o = o

-- what two facts of a success give
pub on_both : {X E : Type 0} (P Q R : Type 0) (r : Result X E) → (P → Q → R) → OnOk r P → OnOk r Q → OnOk r R
on_both P Q R (Ok x) h p q = h p q
on_both P Q R (Err e) h p q = p

pub on_err : {X E : Type 0} (P Q : Type 0) (r : Result X E) → (P → Q) → OnErr r P → OnErr r Q
on_err P Q (Ok x) h o = o
on_err P Q (Err e) h o = h o

pub err_holds : {X E : Type 0} (r : Result X E) (P : Type 0) → P → OnErr r P
err_holds (Ok x) P h = tt
err_holds (Err e) P h = h

-- an item that isn't written stays
pub got_other : {X : Type 0} (xs : List X) (i n : ℕ) (x : X) → (n ≡ i → ⊥) → slice_get (set xs i x) n ≡ slice_get xs n
got_other [] i n x apart = refl
got_other (y ∷ xs) zero zero x apart = absurd (apart refl)
got_other (y ∷ xs) zero (suc n) x apart = refl
got_other (y ∷ xs) (suc i) zero x apart = refl
got_other (y ∷ xs) (suc i) (suc n) x apart = got_other xs i n x (λ e. apart (ap suc e))

pub got_set : {X : Type 0} (xs : List X) (i : ℕ) (x : X) → i < length xs → slice_get (set xs i x) i ≡ Some x
got_set [] i x h = absurd (omega arith)
got_set (y ∷ xs) zero x h = refl
got_set (y ∷ xs) (suc i) x h = got_set xs i x (omega arith)

pub set_same : {X : Type 0} (xs : List X) (i : ℕ) (x : X) → slice_get xs i ≡ Some x → set xs i x ≡ xs
set_same [] i x h = refl
set_same (y ∷ xs) zero x h = let same : y ≡ x = cc in ap (λ z. z ∷ xs) (sym same)
set_same (y ∷ xs) (suc i) x h = ap (λ zs. y ∷ zs) (set_same _ i x h)

-- one lane alone has an event
pub make_one : (ways at : ℕ) (event : Event) (lanes : List LaneView) (lane new : LaneView) → slice_get lanes at ≡ Some lane
    → LaneMakes ways (event ∷ []) lane new → LanesMake ways (event_at at event) lanes (set lanes at new)
make_one ways at event lanes lane new here made =
    each_set _ _ 0 at lanes lanes new
    (λ j n a b q apart r.
    let other : (n == at) ≡ false = let d : n ≡ at → ⊥ = λ z. apart (omega arith) in grind (arith, nat_tests) in
    rw (r (omega arith)) (rw other (record { kind = refl; made = refl })))
    (λ n x q e.
    let same : (n == at) ≡ true = grind (arith, nat_tests) in
    rw same (rw (same_some lane x (sym here ∙ e)) at made))
    (untouched_start 0 0 _)

-- what is written over the whole of a list
pub whole_written : {X : Type 0} (xs rest : List X) (n : ℕ) → length xs ≡ n → take n (xs ++ rest) ≡ xs
whole_written xs rest n e = rw e at (take-append_seam xs rest)

-- a test of all items, one item more

pub all_next : {X : Type 0} (p : X → Bool) (xs : List X) (i : ℕ) (x : X) → list_all p (take i xs) ≡ true → slice_get xs i ≡ Some x
    → p x ≡ true → list_all p (take (i + 1) xs) ≡ true
all_next {X = X} p xs i x a e t = ap (λ n. list_all p (take n xs)) (let q : i + 1 ≡ suc i = omega arith in q) ∙ next p xs i x a e t
  where
    next : (p : X → Bool) (xs : List X) (i : ℕ) (x : X) → list_all p (take i xs) ≡ true → slice_get xs i ≡ Some x → p x ≡ true
        → list_all p (take (suc i) xs) ≡ true
    next p [] i x a e t = refl
    next p (y ∷ xs) zero x a e t = let same : y ≡ x = cc in let u = ap p same ∙ t in rw u
    next p (y ∷ xs) (suc i) x a e t = let both = both_pass (p y) (list_all p (take i _)) a in let u =
        both.0 in rw u (next p xs i x both.1 e t)

pub all_fails : {X : Type 0} (p : X → Bool) (xs : List X) (i : ℕ) (x : X) → slice_get xs i ≡ Some x → p x ≡ false → list_all p xs ≡ false
all_fails p [] i x e f = cc
all_fails p (y ∷ xs) zero x e f = let same : y ≡ x = cc in let u : p y ≡ false = ap p same ∙ f in rw u refl
all_fails {X = X} p (y ∷ xs) (suc i) x e f = ap (λ t. p y && t) (all_fails p xs i x e f) ∙ and_false (p y)
  where
    and_false : (b : Bool) → (b && false) ≡ false
    and_false true = refl
    and_false false = refl

pub either_way : {X E : Type 0} (P Q G : Type 0) (r : Result X E) → OnOk r P → OnErr r Q → (P → G) → (Q → G) → G
either_way P Q G (Ok x) a b f h = f a
either_way P Q G (Err e) a b f h = h b
