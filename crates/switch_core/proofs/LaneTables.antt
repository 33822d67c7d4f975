-- The tables of lanes in order.
use Rattle.std.proofs.Common.{◌≡◌, ℕ, zero, suc, ◌+◌, ◌≤◌, true, List, [], ◌∷◌, ◌++◌, Some, length, map, take, refl, ap, ◌∙◌, arith}
use Rattle.std.{proofs.lemmas.List.take_all, specs.{List.list_all, Prelude.slice_get}}
use Rattle.epoch_model.specs.{Machine.Machine, Timeline.IsSwept}
use Rattle.epoch_entry.specs.contracts.any.AnyEpochsEpochKind.TheImpl.{ghosts}
use Rattle.backing_store.specs.Merged.{StoreHolds}
use Rattle.final_queries.specs.GroupTable.{closed_table}
use Rattle.stage_plan.specs.declared.group.GroupPlan.{GroupPlan}
use Rattle.switch_core.specs.{Rows.EachFrom, Pipelines.{heading_of, stored_table, tables_of}}
use Rattle.switch_core.{specs.PlanLanes.{LaneView, StandsFor, folding_at, lane_is_drained, stored_tables}, proofs.ClosedTable.all_held}
use Rattle.switch_core.proofs.{Drained.{drained_is_done, drained_parts}, LaneFacts.both_pass, MergeSteps.none_piped}

-- where a lane is drained its store holds all epochs of its machine
pub drained_holds : (lane : LaneView) (m : Machine) → lane_is_drained lane ≡ true → StandsFor lane m
    → StoreHolds (folding_at lane) lane.store m.closed
drained_holds lane m drained stood =
    let none = (drained_parts lane.cache lane.pipe drained).1 in
    all_held _ _ m (none_piped _ _ _ m stood.front none) stood.kept

tables_next_at : (groups : List GroupPlan) (lanes : List LaneView) (ms : List Machine) (i : ℕ) (group : GroupPlan) (lane : LaneView)
    (m : Machine)
    → slice_get groups i ≡ Some group → slice_get lanes i ≡ Some lane → slice_get ms i ≡ Some m
    → take (suc i) (tables_of groups (map folding_at lanes) ms) ≡ take i (tables_of groups (map folding_at lanes) ms)
    ++ closed_table (heading_of group) (folding_at lane) m.closed ∷ []
tables_next_at [] lanes ms i group lane m a b e = cc
tables_next_at (g ∷ groups) [] ms i group lane m a b e = cc
tables_next_at (g ∷ groups) (l ∷ lanes) [] i group lane m a b e = cc
tables_next_at (g ∷ groups) (l ∷ lanes) (n ∷ ms) zero group lane m a b e =
    let x : g ≡ group = cc in let y : l ≡ lane = cc in let z : n ≡ m = cc in rw (x, y, z)
tables_next_at (g ∷ groups) (l ∷ lanes) (n ∷ ms) (suc i) group lane m a b e =
    ap (λ ts. closed_table (heading_of g) (folding_at l) n.closed ∷ ts) (tables_next_at groups _ _ i _ _ m a b e)

pub tables_next : (groups : List GroupPlan) (lanes : List LaneView) (ms : List Machine) (i : ℕ) (group : GroupPlan) (lane : LaneView)
    (m : Machine)
    → slice_get groups i ≡ Some group → slice_get lanes i ≡ Some lane → slice_get ms i ≡ Some m
    → take (i + 1) (tables_of groups (map folding_at lanes) ms) ≡ take i (tables_of groups (map folding_at lanes) ms)
    ++ closed_table (heading_of group) (folding_at lane) m.closed ∷ []
tables_next groups lanes ms i group lane m a b e =
    ap (λ n. take n (tables_of groups (map folding_at lanes) ms)) (let q : i + 1 ≡ suc i = omega arith in q)
    ∙ tables_next_at groups _ _ i _ _ m a b e

tables_few : (groups : List GroupPlan) (lanes : List LaneView) (ms : List Machine)
    → length (tables_of groups (map folding_at lanes) ms) ≤ length lanes
tables_few [] lanes ms = omega arith
tables_few (g ∷ groups) [] ms = omega arith
tables_few (g ∷ groups) (l ∷ lanes) [] = omega arith
tables_few (g ∷ groups) (l ∷ lanes) (m ∷ ms) = let more = tables_few groups lanes ms in omega arith

pub tables_whole : (groups : List GroupPlan) (lanes : List LaneView) (ms : List Machine) (i : ℕ) → length lanes ≤ i
    → take i (tables_of groups (map folding_at lanes) ms) ≡ tables_of groups (map folding_at lanes) ms
tables_whole groups lanes ms i h = take_all i _ (let few = tables_few groups lanes ms in omega arith)

-- the same of the tables of what the stores hold

stored_next_at : (groups : List GroupPlan) (lanes : List LaneView) (i : ℕ) (group : GroupPlan) (lane : LaneView)
    → slice_get groups i ≡ Some group → slice_get lanes i ≡ Some lane
    → take (suc i) (stored_tables groups lanes) ≡ take i (stored_tables groups lanes)
    ++ stored_table (heading_of group) (folding_at lane).row_per_epoch lane.store ∷ []
stored_next_at [] lanes i group lane a b = cc
stored_next_at (g ∷ groups) [] i group lane a b = cc
stored_next_at (g ∷ groups) (l ∷ lanes) zero group lane a b = let x : g ≡ group = cc in let y : l ≡ lane = cc in rw (x, y)
stored_next_at (g ∷ groups) (l ∷ lanes) (suc i) group lane a b =
    ap (λ ts. stored_table (heading_of g) (folding_at l).row_per_epoch l.store ∷ ts) (stored_next_at groups _ i _ _ a b)

pub stored_next : (groups : List GroupPlan) (lanes : List LaneView) (i : ℕ) (group : GroupPlan) (lane : LaneView)
    → slice_get groups i ≡ Some group → slice_get lanes i ≡ Some lane
    → take (i + 1) (stored_tables groups lanes) ≡ take i (stored_tables groups lanes)
    ++ stored_table (heading_of group) (folding_at lane).row_per_epoch lane.store ∷ []
stored_next groups lanes i group lane a b =
    ap (λ n. take n (stored_tables groups lanes)) (let q : i + 1 ≡ suc i = omega arith in q) ∙ stored_next_at groups _ i _ _ a b

pub stored_whole : (groups : List GroupPlan) (lanes : List LaneView) (i : ℕ) → length lanes ≤ i
    → take i (stored_tables groups lanes) ≡ stored_tables groups lanes
stored_whole [] lanes zero h = refl
stored_whole [] lanes (suc i) h = refl
stored_whole (g ∷ groups) [] zero h = refl
stored_whole (g ∷ groups) [] (suc i) h = refl
stored_whole (g ∷ groups) (l ∷ lanes) zero h = absurd (omega arith)
stored_whole (g ∷ groups) (l ∷ lanes) (suc i) h =
    ap (λ ts. stored_table (heading_of g) (folding_at l).row_per_epoch l.store ∷ ts) (stored_whole groups lanes i (omega arith))

-- drained lanes have no open epoch, and all closed ones are merged
pub all_done : (k : ℕ) (lanes : List LaneView) (ms : List Machine) → list_all lane_is_drained lanes ≡ true
    → EachFrom (λ n. StandsFor) k lanes ms → EachFrom (λ n lane m. IsSwept m × (m.merged ≡ length m.closed)) k lanes ms
all_done k [] [] d s = tt
all_done k [] (m ∷ ms) d s = absurd s
all_done k (l ∷ lanes) [] d s = absurd s
all_done k (l ∷ lanes) (m ∷ ms) d s = (
  drained_is_done (ghosts.stands l.kind) l.cache l.pipe (both_pass (lane_is_drained l) (list_all lane_is_drained lanes) d).0 m s.0.front,
  all_done (suc k) lanes ms (both_pass (lane_is_drained l) (list_all lane_is_drained lanes) d).1 s.1,
)
