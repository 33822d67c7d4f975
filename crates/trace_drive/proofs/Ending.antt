-- Pipelines whose lanes are swept and whose pipes are empty.
use Rattle.std.proofs.Common.{◌≡◌, ℕ, suc, ◌-◌, ◌==◌, ◌&&◌, true, List, [], ◌∷◌, length, drop, get_or, refl, ap, ◌∙◌, subst, arith}
use Rattle.std.proofs.lemmas.List.{length-drop, Elements.{All-cons, All-head, All-nil, All-tail}, Sums.sum_by-cons}
use Rattle.std.specs.List.{list_all, sum_by}
use Rattle.bucket_cache.specs.{Buckets.Pair, Caches.list_at}
use Rattle.epoch_entry.specs.{declared.purpose.Entries.Entries, contracts.any.AnyEpochsEpochKind.TheImpl.ghosts}
use Rattle.epoch_model.specs.{Driving.SweepsReachTheEnd, Epochs.Geometry}
use Rattle.epoch_model.specs.{Machine.{Epoch, Machine, after_packets, empty_buckets, end_of, open_in}, Timeline.IsSwept}
use Rattle.stage_plan.specs.{Planned.wiring_at, Sound.PlanParts, declared.group.GroupPlan.GroupPlan}
use Rattle.switch_core.specs.{Closing.{held_in, is_drained}, Lanes.{PairStands, PairsStand, RecordsStand, Standing}, Pipelines.IsLaneOf}
use Rattle.switch_core.specs.PlanLanes.{AreKept, AreLanesOf, HavePlaces, LaneView, PipelineView, PipelineStands, StandsFor, pipe_places}
use Rattle.switch_core.specs.{Rows.EachFrom, Ends.{end_machines, ends_from, uses_by}}
use Rattle.switch_core.specs.declared.upkeep.Upkeep.TheVariants as due
use Rattle.trace_drive.specs.Follows.{AlikeFrom, FollowsBy, Keeps}
use Rattle.trace_drive.proofs.Following.{follows_as}

records_long : (means : Standing) (key_words : ℕ) (records : List (List ℕ)) (epochs : List Epoch)
    → RecordsStand means key_words records epochs → length records ≡ length epochs
records_long means key_words [] [] s = refl
records_long means key_words [] (e ∷ epochs) s = absurd s
records_long means key_words (r ∷ records) [] s = absurd s
records_long means key_words (r ∷ records) (e ∷ epochs) s = ap (λ n. suc n) (records_long means key_words records epochs s.1)

-- as many records as there are closed epochs that aren't merged
piped : (lane : LaneView) (m : Machine) → StandsFor lane m → length lane.pipe.records ≡ length m.closed - m.merged
piped lane m s =
    records_long (ghosts.stands lane.kind) lane.cache.key_words lane.pipe.records (drop m.merged m.closed) s.front.piped
    ∙ length-drop m.merged m.closed

-- the machine of the groupby with this number, swept after the last packet
abbrev last : PlanParts → Geometry → List (List ℕ) → ℕ → Machine
last plan g words i = empty_buckets g.buckets (after_packets g (uses_by plan i words) (length words))

ends_reached : SweepsReachTheEnd → (plan : PlanParts) (g : Geometry) (words : List (List ℕ)) (i k : ℕ) (lanes : List LaneView)
    (machines : List Machine) (groups : List GroupPlan)
    → length lanes ≡ length groups → EachFrom (λ n. StandsFor) k lanes machines → AlikeFrom (last plan g words) i machines
    → AreKept due.Rest lanes
    → EachFrom (λ n. StandsFor) k lanes (ends_from plan g words i groups)
ends_reached law plan g words i k [] machines [] long s a none = tt
ends_reached law plan g words i k [] machines (group ∷ groups) long s a none = absurd (omega arith)
ends_reached law plan g words i k (lane ∷ lanes) machines [] long s a none = absurd (omega arith)
ends_reached law plan g words i k (lane ∷ lanes) [] (group ∷ groups) long s a none = absurd s
ends_reached law plan g words i k (lane ∷ lanes) (m ∷ machines) (group ∷ groups) long s a none =
    let left = piped lane m s.0 in
    let here = none 0 lane refl in
    let few = s.0.front.few in
    let merged : m.merged ≡ length m.closed = omega arith in (
      subst (StandsFor lane) (law.whole g (uses_by plan i words) (length words) m a.0 merged) s.0,
      ends_reached law plan g words (suc i) (suc k) lanes machines groups (omega arith) s.1 a.1 (λ n at e. none (suc n) at e),
    )

end_reached : SweepsReachTheEnd → (g : Geometry) (words : List (List ℕ)) (plan : PlanParts) (p : PipelineView)
    → length p.lanes ≡ length plan.groups → FollowsBy (last plan g words) p
    → AreKept due.Rest p.lanes → PipelineStands p (end_machines plan g words)
end_reached law g words plan p long f none = ends_reached law plan g words 0 0 p.lanes f.machines plan.groups long f.stands f.alike none

pairs_long : (R : Pair → Epoch → Type 0) (pairs : List Pair) (epochs : List Epoch) → PairsStand R pairs epochs
    → length pairs ≡ length epochs
pairs_long R [] [] s = refl
pairs_long R [] (e ∷ es) s = absurd s
pairs_long R (p ∷ ps) [] s = absurd s
pairs_long R (p ∷ ps) (e ∷ es) s = ap (λ n. suc n) (pairs_long R ps es s.1)

none_held : (lists : List (List Pair)) → ((bucket : ℕ) → length (get_or lists bucket []) ≡ 0) → sum_by (λ pairs. length pairs) lists ≡ 0
none_held [] h = refl
none_held (pairs ∷ lists) h =
    let s = sum_by-cons (λ (ps : List Pair). length ps) pairs lists in
    let first = h 0 in
    let rest = none_held lists (λ bucket. h (suc bucket)) in
    omega arith

lane_empty : (lane : LaneView) (m : Machine) → StandsFor lane m → IsSwept m → held_in lane.cache ≡ 0
lane_empty lane m s swept =
    none_held lane.cache.lists (λ bucket. pairs_long (PairStands (ghosts.stands lane.kind) lane.cache) (list_at lane.cache bucket)
    (open_in m bucket) (s.front.cached.each bucket) ∙ ap length (swept bucket))

both_zero : (a b : ℕ) → a ≡ 0 → b ≡ 0 → ((a == 0) && (b == 0)) ≡ true
both_zero a b e f = rw (e, f) refl

drained_from : SweepsReachTheEnd → (plan : PlanParts) (g : Geometry) (words : List (List ℕ)) (i k : ℕ) (lanes : List LaneView)
    (groups : List GroupPlan)
    → EachFrom (λ n. StandsFor) k lanes (ends_from plan g words i groups) → AreKept due.Rest lanes
    → list_all (λ lane. is_drained lane.cache lane.pipe) lanes ≡ true
drained_from law plan g words i k [] groups s none = refl
drained_from law plan g words i k (lane ∷ lanes) [] s none = absurd s
drained_from law plan g words i k (lane ∷ lanes) (group ∷ groups) s none =
    let here = both_zero (held_in lane.cache) (length lane.pipe.records)
    (lane_empty lane (end_of g (uses_by plan i words) (length words)) s.0 (law.swept g (uses_by plan i words) (length words)))
    (none 0 lane refl) in
    let rest = drained_from law plan g words (suc i) (suc k) lanes groups s.1 (λ n at e. none (suc n) at e) in
    rw (here, rest) refl

end_drained : SweepsReachTheEnd → (g : Geometry) (words : List (List ℕ)) (plan : PlanParts) (p : PipelineView)
    → PipelineStands p (end_machines plan g words) → AreKept due.Rest p.lanes
    → list_all (λ lane. is_drained lane.cache lane.pipe) p.lanes ≡ true
end_drained law g words plan p s none = drained_from law plan g words 0 0 p.lanes plan.groups s none

-- the machines after a last sweep, in terms of the plan and the words of the trace
last_as : (g : Geometry) (plan here : PlanParts) (words : List (List ℕ)) (buckets count : ℕ) → here ≡ plan → buckets ≡ g.buckets
    → count ≡ length words → (i : ℕ)
    → empty_buckets buckets (after_packets g (uses_by here i words) count) ≡ last plan g words i
last_as g plan here words buckets count p b n i =
    ap (λ x. empty_buckets x (after_packets g (uses_by here i words) count)) b
    ∙ (ap (λ x. empty_buckets g.buckets (after_packets g (uses_by x i words) count)) p
    ∙ ap (λ x. empty_buckets g.buckets (after_packets g (uses_by plan i words) x)) n)

pub each_long : {X Y : Type 0} (R : ℕ → X → Y → Type 0) (k : ℕ) (xs : List X) (ys : List Y) → EachFrom R k xs ys → length xs ≡ length ys
each_long R k [] [] e = refl
each_long R k [] (y ∷ ys) e = absurd e
each_long R k (x ∷ xs) [] e = absurd e
each_long R k (x ∷ xs) (y ∷ ys) e = ap (λ n. suc n) (each_long R (suc k) xs ys e.1)

pub lanes_long : (entries : Entries) (plan : PlanParts) (buckets : ℕ) (lanes : List LaneView) → AreLanesOf entries plan buckets lanes
    → length lanes ≡ length plan.groups
lanes_long entries plan buckets lanes are =
    each_long (λ n (lane : LaneView) (group : GroupPlan). IsLaneOf entries buckets lane.cache (ghosts.sizes lane.kind)
    (ghosts.folding lane.kind) (ghosts.open_bound lane.kind) (ghosts.absorb_bound lane.kind) group (wiring_at plan n)) 0 lanes
    plan.groups are

-- pipes whose places are kept have as many as before
pub places_kept : (places : ℕ) (old new : List LaneView) → pipe_places new ≡ pipe_places old → HavePlaces places old → HavePlaces places new
places_kept places old [] kept have = All-nil (λ (lane : LaneView). lane.pipe.places ≡ places)
places_kept places [] (b ∷ new) kept have = absurd (cc)
places_kept places (a ∷ old) (b ∷ new) kept have =
    let has_places : LaneView → Type 0 = λ lane. lane.pipe.places ≡ places in
    let same : b.pipe.places ≡ a.pipe.places = cc in
    let rest : pipe_places new ≡ pipe_places old = cc in
    All-cons has_places b new (same ∙ All-head has_places a old have) (places_kept places old new rest (All-tail has_places a old have))

-- the pipeline of a plan, once all packets are taken, all lanes swept and all pipes empty
pub whole_trace : SweepsReachTheEnd → (g : Geometry) (plan : PlanParts) (words : List (List ℕ)) (count : ℕ) (start took done : PipelineView)
    → start.plan ≡ plan → start.buckets ≡ g.buckets → count ≡ length words
    → Keeps start took → Keeps took done → AreLanesOf done.entries done.plan done.buckets done.lanes
    → FollowsBy (λ i. empty_buckets took.buckets (after_packets g (uses_by start.plan i words) count)) done
    → AreKept due.Rest done.lanes → PipelineStands done (end_machines plan g words)
    × (list_all (λ lane. is_drained lane.cache lane.pipe) done.lanes ≡ true)
whole_trace law g plan words count start took done p b n k l are f none =
    let long = lanes_long done.entries done.plan done.buckets done.lanes are ∙ ap (λ x. length x.groups) (l.plan ∙ (k.plan ∙ p)) in
    let past = follows_as (λ (i : ℕ). empty_buckets took.buckets (after_packets g (uses_by start.plan i words) count)) (last plan g words)
    done
    (last_as g plan start.plan words took.buckets count p (k.buckets ∙ b) n) f in
    let stands = end_reached law g words plan done long past none in
    (stands, end_drained law g words plan done stands none)
