-- What a packet costs at the lanes of a plan is within the plan's bound.
use Rattle.std.proofs.{Common.{◌≡◌, ℕ, suc, ◌+◌, ◌*◌, ◌≤◌, List, [], ◌∷◌, length, map, refl, sym, ap, ◌∙◌, arith}, Math.Nat.mul-add}
use Rattle.std.{proofs.{Math.Logic.{∥∥₁_elim}, Props.props, lemmas.List.Sums.sum_by-cons}, specs.Prelude.{sum, sum_by}}
use Rattle.marple_base.specs.declared.field.TheConstants.{FIELDS}
use Rattle.query_lang.specs.{declared.fold.TypedFold.TypedFold, Folds.{IsValidFold, fold_states}}
use Rattle.fold_class.specs.{declared.class.Algebra.{Algebra, TheVariants.{Sums, Maxima}}, Depth.{IsDepth, depth_of}, Program.IsProgramOf}
use Rattle.fold_class.specs.Rows.{element_size}
use Rattle.epoch_entry.specs.{declared.purpose.Entries.{Entries, TheVariants.{Folds, Bounds}}, Foldings.entry_bound}
use Rattle.epoch_entry.specs.{Purposes.{EntriesSuitFolds, IsKindFor, runs_of}, contracts.any.AnyEpochsEpochKind.TheImpl.ghosts}
use Rattle.stage_plan.specs.{declared.group.{GroupPlan.GroupPlan, GroupWiring.GroupWiring}, Planned.{plan_bound, wiring_at}}
use Rattle.stage_plan.specs.{Shape.{element_words, group_bound, group_shape}, Sound.{IsSoundGroup, IsSoundPlan}}
use Rattle.switch_core.specs.{Rows.EachFrom, Pipelines.IsLaneOf, PlanLanes.{AreLanesOf, LaneView, PipelineView, lane_cost, pipeline_cost}}
use Rattle.switch_core.proofs.{SideBySide.each_map, LanesMade.group_sound}

-- a valid fold has one depth
abbrev pub HasOneDepth : Type 0
HasOneDepth = (f : TypedFold) (d : ℕ) → IsValidFold f → IsDepth f d → d ≡ depth_of f

same_words : (algebra : Algebra) → element_size algebra ≡ element_words algebra
same_words Sums = refl
same_words Maxima = refl

-- the cost of a lane by the numbers of its kind, and the bound of a groupby by those of its plan
numbers_within : (entries : Entries) (keys names args row entry opening absorbing most affine history log walk walk' runs runs' composes
    composes' : ℕ)
    → keys ≡ names → args ≡ row → walk ≡ walk' → runs ≡ runs' → composes ≡ composes' → most ≡ affine + history + log + 2
    → entry ≤ runs_of entries * most → opening ≤ runs_of entries * most → absorbing ≤ runs_of entries * (runs + composes + 4 * most)
    → (keys + args) + (keys + walk + (keys + entry) + opening + absorbing) ≤ runs_of entries
    * (walk' + runs' + composes' + 6 * (names + affine + history + log + 2) + 2 * (names + row))
numbers_within Folds keys names args row entry opening absorbing most affine history log walk walk' runs runs' composes composes' k a w r c
    m e o b = omega arith
numbers_within Bounds keys names args row entry opening absorbing most affine history log walk walk' runs runs' composes composes' k a w r c
    m e o b = omega arith

program_within : HasOneDepth → EntriesSuitFolds → (entries : Entries) (ways : ℕ) (lane : LaneView) (group : GroupPlan) (f : TypedFold)
    → IsProgramOf f group.program
    → lane.cache.key_words ≡ length group.key_names → length group.state_names ≡ length group.program.layout.initial
    → IsKindFor entries f (ghosts.sizes lane.kind) (ghosts.folding lane.kind) (ghosts.open_bound lane.kind) (ghosts.absorb_bound lane.kind)
    → lane_cost ways lane ≤ runs_of entries * group_bound ways (group_shape group)
program_within one suit entries ways lane group f is keys named own =
    let kind = suit entries f (ghosts.sizes lane.kind) (ghosts.folding lane.kind) (ghosts.open_bound lane.kind)
    (ghosts.absorb_bound lane.kind) own in
    let names = length group.key_names in
    let states = length group.state_names in
    let layout = group.program.layout in
    let words = element_words group.program.algebra in
    let size = ap element_size (sym is.algebra) ∙ same_words _ in
    let many = sym is.valid.starts ∙ (ap length (sym is.layout.initial) ∙ sym named) in
    let row = sym is.layout.args in
    let deep = sym (one f group.program.depth is.valid is.depth) in
    let nodes = sym is.layout.nodes in
    let statements = sym is.layout.statements in
    let most : entry_bound f ≡ words * states * (states + 1) + states + group.program.depth * layout.args + 2 = cc in
    let runs : (fold_states f + 1) * (f.nodes + 4 * f.statements + 1) ≡ (states + 1) * (layout.nodes + 4 * layout.statements + 1) = cc in
    let composes : fold_states f * fold_states f * (fold_states f + 1) ≡ states * states * (states + 1) = cc in
    numbers_within entries _ names (ghosts.sizes lane.kind).args layout.args (ghosts.sizes lane.kind).entry
    (ghosts.open_bound lane.kind) (ghosts.absorb_bound lane.kind)
    (entry_bound f) (words * states * (states + 1)) states (group.program.depth * layout.args)
    (2 * ways * (lane.cache.key_words + 1)) (2 * ways * (names + 1))
    ((fold_states f + 1) * (f.nodes + 4 * f.statements + 1)) ((states + 1) * (layout.nodes + 4 * layout.statements + 1))
    (fold_states f * fold_states f * (fold_states f + 1)) (states * states * (states + 1))
    keys (kind.args ∙ row) (ap (λ k. 2 * ways * (k + 1)) keys) runs composes most kind.entry kind.«open» kind.absorb

lane_within : HasOneDepth → EntriesSuitFolds → (entries : Entries) (ways buckets registers : ℕ) (lane : LaneView) (group : GroupPlan)
    (wiring other : GroupWiring) → IsSoundGroup registers group wiring
    → IsLaneOf entries buckets lane.cache (ghosts.sizes lane.kind) (ghosts.folding lane.kind) (ghosts.open_bound lane.kind)
    (ghosts.absorb_bound lane.kind) group other
    → lane_cost ways lane ≤ runs_of entries * group_bound ways (group_shape group)
lane_within one suit entries ways buckets registers lane group wiring other sound own =
    ∥∥₁_elim sound.program (hlevel props) (λ h. program_within one suit _ _ lane group _ h.1 own.keys sound.states
    (own.kind h.0 h.1))

each_sum : {X Y Z : Type 0} (r : ℕ) (f : X → ℕ) (g : Z → ℕ) (shape : Y → Z) (k : ℕ) (xs : List X) (ys : List Y)
    → EachFrom (λ n x y. f x ≤ r * g (shape y)) k xs ys → sum_by f xs ≤ r * sum (map g (map shape ys))
each_sum r f g shape k [] [] e = omega arith
each_sum r f g shape k [] (y ∷ ys) e = absurd e
each_sum r f g shape k (x ∷ xs) [] e = absurd e
each_sum r f g shape k (x ∷ xs) (y ∷ ys) e =
    let first = e.0 in
    let rest = each_sum r f g shape (suc k) xs ys e.1 in
    let left = sum_by-cons f x xs in
    let right =
    sum_by-cons (λ n. n) (g (shape y)) (map g (map shape ys)) in
    let split = mul-add r (g (shape y)) (sum (map g (map shape ys))) in
    let whole = ap (λ n. r * n) right in
    omega arith

after : (entries : Entries) (registers a b : ℕ) → a ≤ runs_of entries * b → registers + a ≤ runs_of entries * (registers + b)
after Folds registers a b le = omega arith
after Bounds registers a b le = omega arith

pub packet_within : HasOneDepth → EntriesSuitFolds → (ways : ℕ) (p : PipelineView) → IsSoundPlan p.plan
    → AreLanesOf p.entries p.plan p.buckets p.lanes → pipeline_cost ways p ≤ runs_of p.entries * plan_bound p.plan ways
packet_within one suit ways p sound are =
    after p.entries (FIELDS + length p.plan.ops) (sum_by (lane_cost ways) p.lanes)
    (sum (map (group_bound ways) (map group_shape p.plan.groups)))
    (each_sum (runs_of p.entries) (lane_cost ways) (group_bound ways) group_shape 0 p.lanes p.plan.groups
    (each_map _
    _ 0 _ _
    (λ j n lane group at here there own.
    let known = group_sound p.plan j group sound there in
    lane_within one suit _ ways _ _ lane _ _ (wiring_at p.plan n) known.2 own)
    are))
