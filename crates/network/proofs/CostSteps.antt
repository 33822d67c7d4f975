-- What the steps of one switch's lanes come to.
use Rattle.std.proofs.Common.{◌≡◌, ℕ, zero, suc, ◌+◌, ◌*◌, ◌<◌, ◌≤◌, List, [], ◌∷◌, Option, Some, None, length, refl, sym, ap, ◌∙◌, arith}
use Rattle.std.{proofs.lemmas.List.Sums.sum_by-cons, specs.Prelude.{slice_get, sum_by}}
use Rattle.epoch_entry.specs.{declared.{any.AnyEpochs.AnyEpochs, purpose.Entries.TheVariants.Folds}, Purposes.EntriesSuitFolds}
use Rattle.epoch_entry.specs.contracts.any.AnyEpochsEpochKind.TheImpl.{ghosts}
use Rattle.stage_plan.specs.{declared.group.{GroupPlan.GroupPlan, GroupWiring.GroupWiring}, Planned.{plan_bound, registers_of, wiring_at}}
use Rattle.stage_plan.specs.Sound.{PlanParts, IsSoundPlan}
use Rattle.switch_core.specs.{FrontParts.FrontOf, Pipelines.IsLaneOf, PlanLanes.{LaneView, PipelineView, lane_cost}, Rows.{Each, EachFrom}}
use Rattle.switch_core.specs.{Upkeeps.upkeep_cost, declared.upkeep.Upkeep.Upkeep}
use Rattle.switch_core.specs.declared.upkeep.Upkeep.TheVariants as due
use Rattle.switch_core.proofs.{PacketBound.{HasOneDepth, packet_within}, SideBySide.{each_map, got_some}}
use Rattle.network.specs.{Shared.FrontKept, Groups.{AllWide, AreGroups, AreWide, GroupKept, GroupView, IsGroup}}
use Rattle.network.specs.Costs.{AtLaneIn, front_cost, front_upkeep_cost, group_cost, group_merge_cost, group_upkeep_cost, lane_in}

-- steps within those of the switch's lane are within those of the groupby
pub group_within : (ways at start end : ℕ) (group : GroupView) → at < length group.fronts
    → AtLaneIn (λ lane. end ≤ start + lane_cost ways lane) group at → end ≤ start + group_cost ways at group
group_within ways at start end group within cost =
    let here = got_some group.fronts at within in
    rw here.1 (cost here.0 here.1)

-- an item more in a sum of steps
pub within_next : (start before end sum more next : ℕ) → next ≡ sum + more → before ≤ start + sum → end ≤ before + more → end ≤ start + next
within_next start before end sum more next s b e = omega arith

-- steps within those of an upkeep of a front are within those of the groupby
pub upkeep_within : (upkeep : Upkeep) (at start end : ℕ) (group : GroupView) (front : FrontOf AnyEpochs)
    → slice_get group.fronts at ≡ Some front
    → end ≤ start + upkeep_cost upkeep front.cache front.pipe (ghosts.merge_bound front.kind)
    → end ≤ start + group_upkeep_cost upkeep at group
upkeep_within upkeep at start end _ _ here cost = rw here cost

-- room for a record takes the steps of a merge
room_same : (o : Option (FrontOf AnyEpochs)) → front_upkeep_cost due.Room o ≡ front_upkeep_cost due.Lag o
room_same None = refl
room_same (Some _) = refl

pub room_cost : (at : ℕ) (groups : List GroupView)
    → sum_by (group_upkeep_cost due.Room at) groups ≡ sum_by (group_upkeep_cost due.Lag at) groups
room_cost at [] = refl
room_cost at (x ∷ groups) =
    sum_by-cons (group_upkeep_cost due.Room at) x groups
    ∙ (ap (λ n. n + sum_by (group_upkeep_cost due.Room at) groups) (room_same (slice_get x.fronts at))
    ∙ (ap (λ n. group_upkeep_cost due.Lag at x + n) (room_cost at groups) ∙ sym (sum_by-cons (group_upkeep_cost due.Lag at) x groups)))

-- what is kept of fronts and of groupbys keeps their costs

pub kept_at : {X : Type 0} (F G : Option (FrontOf AnyEpochs) → X) → G None ≡ F None
    → ((a b : FrontOf AnyEpochs) → FrontKept a b → G (Some b) ≡ F (Some a)) → (k at : ℕ) (olds news : List (FrontOf AnyEpochs))
    → EachFrom (λ n. FrontKept) k olds news → G (slice_get news at) ≡ F (slice_get olds at)
kept_at F G none _ k at [] [] e = none
kept_at F G _ _ k at [] (y ∷ _) e = absurd e
kept_at F G _ _ k at (x ∷ _) [] e = absurd e
kept_at F G _ some k zero (x ∷ _) (y ∷ _) e = some x y e.0
kept_at F G none some k (suc at) (x ∷ olds) (y ∷ news) e = kept_at F G none some (suc k) at olds news e.1

cost_kept : (ways at : ℕ) (old new : GroupView) → GroupKept old new → group_cost ways at new ≡ group_cost ways at old
cost_kept ways at old new kept =
    kept_at (front_cost ways old) (front_cost ways new) refl (λ a b one. rw (one.key_words, one.kind)) 0 at old.fronts new.fronts
    kept.fronts

merge_kept : (at : ℕ) (old new : GroupView) → GroupKept old new → group_merge_cost at new ≡ group_merge_cost at old
merge_kept at old new kept =
    kept_at (front_upkeep_cost due.Lag) (front_upkeep_cost due.Lag) refl (λ a b one.
    rw (one.key_words, one.entry_words, one.kind)) 0 at
    old.fronts new.fronts kept.fronts

sum_same : (f : GroupView → ℕ) (k : ℕ) (olds news : List GroupView) → EachFrom (λ n a b. f b ≡ f a) k olds news
    → sum_by f news ≡ sum_by f olds
sum_same f k [] [] e = refl
sum_same f k [] (b ∷ _) e = absurd e
sum_same f k (a ∷ _) [] e = absurd e
sum_same f k (a ∷ olds) (b ∷ news) e =
    rw (sum_by-cons f b news, e.0, sum_same f (suc k) olds news e.1, sum_by-cons f a olds)

pub costs_kept : (ways at : ℕ) (olds news : List GroupView) → Each GroupKept olds news
    → sum_by (group_cost ways at) news ≡ sum_by (group_cost ways at) olds
costs_kept ways at olds news kept =
    sum_same (group_cost ways at) 0 olds news
    (each_map _ _ 0 olds news
    (λ j n a b q x y r. cost_kept ways at a b r) kept)

pub merges_kept : (at : ℕ) (olds news : List GroupView) → Each GroupKept olds news
    → sum_by (group_merge_cost at) news ≡ sum_by (group_merge_cost at) olds
merges_kept at olds news kept =
    sum_same (group_merge_cost at) 0 olds news
    (each_map _ _ 0 olds news (λ j n a b q x y r. merge_kept at a b r)
    kept)

-- The lane of a switch is the one that the plan's groupby has in a pipeline.
lane_is : (switches at buckets : ℕ) (part : GroupPlan) (wiring : GroupWiring) (group : GroupView) (front : FrontOf AnyEpochs)
    → slice_get group.fronts at ≡ Some front → AreWide buckets group → IsGroup switches part wiring group
    → IsLaneOf Folds buckets front.cache (ghosts.sizes front.kind) (ghosts.folding front.kind) (ghosts.open_bound front.kind)
    (ghosts.absorb_bound front.kind) part wiring
lane_is _ at _ _ _ _ front here wide is =
    let share = is.shares at front here in
    record {
      many = wide at front here;
      keys = sym share.fits.key ∙ is.keys;
      args = share.args;
      class = share.alike.row_per_epoch ∙ is.class;
      kind = λ f program. is.kinds at front here f program;
    }

-- the lanes of a switch, one for each of these groupbys, and what a packet takes at them
record LanesAt (ways at buckets k : ℕ) (plan : PlanParts) (groups : List GroupView) (parts : List GroupPlan) : Type 0 where
  lanes : List LaneView
  are : EachFrom (λ n lane part. IsLaneOf Folds buckets lane.cache (ghosts.sizes lane.kind) (ghosts.folding lane.kind)
      (ghosts.open_bound lane.kind) (ghosts.absorb_bound lane.kind) part (wiring_at plan n)) k lanes parts
  cost : sum_by (group_cost ways at) groups ≡ sum_by (lane_cost ways) lanes

lanes_at : (ways at switches buckets k : ℕ) (plan : PlanParts) (groups : List GroupView) (parts : List GroupPlan) → at < switches
    → AllWide buckets groups
    → EachFrom (λ n group part. IsGroup switches part (wiring_at plan n) group) k groups parts → LanesAt ways at buckets k plan groups parts
lanes_at _ at _ _ k _ [] [] _ _ _ = record { lanes = []; are = tt; cost = refl }
lanes_at _ at _ _ k _ [] (_ ∷ _) _ _ is = absurd is
lanes_at _ at _ _ k _ (_ ∷ _) [] _ _ is = absurd is
lanes_at ways at switches buckets k plan (group ∷ groups) (part ∷ parts) within wide is =
    let front = got_some group.fronts at (let many = is.0.count in omega arith) in
    let lane = lane_in group front.0 in
    let rest = lanes_at ways at switches buckets (suc k) plan groups parts within (λ n x e. wide (suc n) x e) is.1 in
    record {
      lanes = lane ∷ rest.lanes;
      are = (lane_is switches at buckets part (wiring_at plan k) group front.0 front.1 (wide 0 group refl) is.0, rest.are);
      cost = rw (sum_by-cons (group_cost ways at) group groups, front.1, rest.cost, sum_by-cons (lane_cost ways) lane rest.lanes);
    }

as_one : (registers cost lanes bound : ℕ) → cost ≡ lanes → registers + lanes ≤ 1 * bound → registers + cost ≤ bound
as_one registers cost lanes bound same within = omega arith

-- A packet's steps are within the plan's bound: the lanes of its switch are those of a pipeline of the plan.
pub groups_within : (ways at switches buckets : ℕ) (plan : PlanParts) (groups : List GroupView) → HasOneDepth → EntriesSuitFolds
    → IsSoundPlan plan → at < switches → AllWide buckets groups → AreGroups plan switches groups
    → registers_of plan + sum_by (group_cost ways at) groups ≤ plan_bound plan ways
groups_within ways at switches buckets plan groups one suit sound within wide are =
    let found = lanes_at ways at switches buckets 0 plan groups plan.groups within wide are in
    let view : PipelineView = record { plan = plan; entries = Folds; buckets = buckets; lanes = found.lanes } in
    as_one (registers_of plan) _ _ (plan_bound plan ways) found.cost
    (packet_within one suit ways view sound found.are)
