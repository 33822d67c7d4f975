-- The lanes that are made for a plan.
use Rattle.std.proofs.Common.{◌≡◌, ℕ, zero, suc, ◌+◌, List, [], ◌∷◌, ◌++◌, Some, length, take, refl, sym, ap, ◌∙◌, arith}
use Rattle.std.{proofs.{Math.Logic.{∥∥₁_elim}, Props.props}, specs.Prelude.slice_get}
use Rattle.marple_base.specs.declared.field.TheConstants.{FIELDS}
use Rattle.fold_class.specs.Program.{IsProgramOf}
use Rattle.query_lang.specs.declared.fold.TypedFold.{TypedFold}
use Rattle.epoch_model.specs.{Epochs.Geometry, Machine.empty_machine}
use Rattle.epoch_entry.specs.{declared.purpose.Entries.Entries, Foldings.per_epoch, Purposes.EntriesSuitFolds}
use Rattle.epoch_entry.specs.contracts.any.AnyEpochsEpochKind.TheImpl.{ghosts}
use Rattle.stage_plan.specs.{declared.group.{GroupPlan.GroupPlan, GroupWiring.GroupWiring}, Planned.wiring_at}
use Rattle.stage_plan.specs.Sound.{PlanParts, IsSoundPlan, IsSoundGroup}
use Rattle.switch_core.specs.{Rows.EachFrom, Pipelines.{IsLaneOf, empty_machines}, PlanLanes.{HasKindFor, LaneView}}
use Rattle.switch_core.proofs.SideBySide.{got_some, got_below}

pub each_push : {X Y : Type 0} (R : ℕ → X → Y → Type 0) (k : ℕ) (xs : List X) (ys : List Y) (x : X) (y : Y) → EachFrom R k xs ys
    → ((n : ℕ) → n ≡ k + length xs → R n x y) → EachFrom R k (xs ++ x ∷ []) (ys ++ y ∷ [])
each_push R k [] [] x y e r = (r k (omega arith), tt)
each_push R k [] (b ∷ ys) x y e r = absurd e
each_push R k (a ∷ xs) [] x y e r = absurd e
each_push R k (a ∷ xs) (b ∷ ys) x y e r = (e.0, each_push R (suc k) xs ys x y e.1 (λ n q. r n (omega arith)))

pub take_next : {X : Type 0} (xs : List X) (i : ℕ) (x : X) → slice_get xs i ≡ Some x → take (i + 1) xs ≡ take i xs ++ x ∷ []
take_next {X = X} xs i x e = ap (λ n. take n xs) (let q : i + 1 ≡ suc i = omega arith in q) ∙ next xs i x e
  where
    next : (xs : List X) (i : ℕ) (x : X) → slice_get xs i ≡ Some x → take (suc i) xs ≡ take i xs ++ x ∷ []
    next [] i x e = cc
    next (y ∷ xs) zero x e = let same : y ≡ x = cc in ap (λ z. z ∷ []) same
    next (y ∷ xs) (suc i) x e = ap (λ zs. y ∷ zs) (next xs i x e)

pub empties_push : (g : Geometry) (groups : List GroupPlan) (group : GroupPlan)
    → empty_machines g (groups ++ group ∷ []) ≡ empty_machines g groups ++ empty_machine g ∷ []
empties_push g [] group = refl
empties_push g (x ∷ groups) group = ap (λ ms. empty_machine g ∷ ms) (empties_push g groups group)

-- what the plan says of a groupby and its wiring
pub group_sound : (plan : PlanParts) (i : ℕ) (group : GroupPlan) → IsSoundPlan plan → slice_get plan.groups i ≡ Some group
    → (wiring : GroupWiring) × (wiring_at plan i ≡ wiring) × IsSoundGroup (FIELDS + length plan.ops) group wiring
group_sound plan i group sound at =
    let below = got_below _ i _ at in
    let wired = got_some plan.wiring i (let w = sound.wired in omega arith) in
    (wired.0, rw wired.1, sound.each i group wired.0 at wired.1)

pub lane_made : EntriesSuitFolds → (entries : Entries) (plan : PlanParts) (buckets i : ℕ) (lane : LaneView) (group : GroupPlan)
    → IsSoundPlan plan → slice_get plan.groups i ≡ Some group
    → length lane.cache.lists ≡ buckets → lane.cache.key_words ≡ length group.key_names
    → HasKindFor entries lane group
    → IsLaneOf entries buckets lane.cache (ghosts.sizes lane.kind) (ghosts.folding lane.kind) (ghosts.open_bound lane.kind)
    (ghosts.absorb_bound lane.kind) group (wiring_at plan i)
lane_made suit entries plan buckets i lane group sound at many keys kind =
    let own = group_sound plan i group sound at in
    let suits = λ (f : TypedFold) (is : IsProgramOf f group.program). suit entries f (ghosts.sizes lane.kind) (ghosts.folding lane.kind)
    (ghosts.open_bound lane.kind) (ghosts.absorb_bound lane.kind) (kind f is) in
    let args =
    ∥∥₁_elim own.2.program (hlevel props) (λ h. (suits h.0 h.1).args ∙ sym h.1.layout.args) in
    let class =
    ∥∥₁_elim own.2.program (hlevel props) (λ h. (suits h.0 h.1).row_per_epoch ∙ ap per_epoch (sym h.1.class)) in
    record {
      many = many;
      keys = keys;
      args = args ∙ (sym own.2.args ∙ ap (λ w. length w.args) (sym own.1));
      class = class;
      kind = kind;
    }
