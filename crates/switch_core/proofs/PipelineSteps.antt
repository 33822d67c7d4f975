-- Pipelines whose lanes made events.
use Rattle.std.proofs.Common.{◌≡◌, ℕ, zero, suc, ◌+◌, ◌==◌, true, List, [], ◌∷◌, ◌++◌, Some, length, map, take, drop, refl, sym, ap, ◌∙◌}
use Rattle.std.{proofs.Common.{subst, arith}, specs.{List.list_all, Prelude.slice_get}}
use Rattle.epoch_model.specs.{Machine.{Machine, Event, run, empty_buckets}, Tables.Folding}
use Rattle.epoch_model.specs.{Driving.{EventsKeepAlike, BucketsEmptyByEvictions}, Laws.SameEpochs}
use Rattle.epoch_entry.specs.{declared.purpose.Entries.Entries, Programs.program_in, Purposes.IsKindFor}
use Rattle.epoch_entry.specs.contracts.any.AnyEpochsEpochKind.TheImpl.{ghosts}
use Rattle.fold_class.specs.Program.{IsProgramOf}
use Rattle.query_lang.specs.declared.fold.TypedFold.{TypedFold}
use Rattle.stage_plan.specs.{declared.group.GroupPlan.GroupPlan, Planned.wiring_at, Sound.PlanParts}
use Rattle.switch_core.specs.{Lanes.Standing, LaneEvents.{Parts, PartsStand, MakesAll}, Closing.held_in, Rows.{Each, EachFrom}}
use Rattle.switch_core.specs.{Pipelines.{IsLaneOf, after_events, geometry_without_refresh}, PlanLanes.{LaneView, IsMadeFor, PipelineView}}
use Rattle.switch_core.specs.PlanLanes.{PipelineMakes, AreLanesOf, StandsFor, LaneMakes, LanesMake, AreKept, PipelineIsSwept, parts_of}
use Rattle.switch_core.specs.{PlanLanes.{upkeep_at, upkeeps_at}, Upkeeps.sweep_from}
use Rattle.switch_core.specs.declared.upkeep.Upkeep.TheVariants as due
use Rattle.switch_core.proofs.{Histories.followed, LaneFacts.whole_written, SweptMachines.sweep_alike, SideBySide.{each_at, same_some}}

-- events keep a lane's sizes
record SameSizes (old new : LaneView) : Type 0 where
  kind : new.kind ≡ old.kind
  buckets : length new.cache.lists ≡ length old.cache.lists
  key_words : new.cache.key_words ≡ old.cache.key_words
  places : new.pipe.places ≡ old.pipe.places

sizes_kept : (means : Standing) (f : Folding) (ways : ℕ) (events : List Event) (a b : Parts) → MakesAll means f ways events a b
    → (length b.cache.lists ≡ length a.cache.lists) × (b.cache.key_words ≡ a.cache.key_words) × (b.pipe.places ≡ a.pipe.places)
sizes_kept means f ways [] a b e = (ap (λ p. length p.cache.lists) e, ap (λ p. p.cache.key_words) e, ap (λ p. p.pipe.places) e)
sizes_kept means f ways (event ∷ events) a b made =
    let rest = sizes_kept means f ways events made.0 b made.2 in (
      rest.0 ∙ made.1.buckets,
      rest.1 ∙ made.1.key_words,
      rest.2
          ∙ made.1.places,
    )

makes_sizes : (ways : ℕ) (events : List Event) (old new : LaneView) → LaneMakes ways events old new → SameSizes old new
makes_sizes ways events old new m =
    let s = sizes_kept (ghosts.stands old.kind) (ghosts.folding old.kind) ways events (parts_of old) (parts_of new) m.made in
    record { kind = m.kind; buckets = s.0; key_words = s.1; places = s.2 }

-- what holds of lanes and of what belongs to them, where what the lanes make keeps it
each_next : {X : Type 0} (R : ℕ → LaneView → LaneView → Type 0) (P : ℕ → LaneView → X → Type 0)
    → ((n : ℕ) (a b : LaneView) (x : X) → R n a b → P n a x → P n b x) → (k : ℕ) (old new : List LaneView) (xs : List X)
    → EachFrom R k old new → EachFrom P k old xs → EachFrom P k new xs
each_next R P next k [] [] xs e f = f
each_next R P next k [] (b ∷ new) xs e f = absurd e
each_next R P next k (a ∷ old) [] xs e f = absurd e
each_next R P next k (a ∷ old) (b ∷ new) [] e f = absurd f
each_next R P next k (a ∷ old) (b ∷ new) (x ∷ xs) e f = (next k a b x e.0 f.0, each_next R P next (suc k) old new xs e.1 f.1)

-- all lanes have this many buckets
pub lanes_many : (entries : Entries) (plan : PlanParts) (buckets k : ℕ) (lanes : List LaneView) (groups : List GroupPlan)
    → EachFrom (λ n lane group. IsLaneOf entries buckets lane.cache (ghosts.sizes lane.kind) (ghosts.folding lane.kind)
    (ghosts.open_bound lane.kind) (ghosts.absorb_bound lane.kind) group (wiring_at plan n)) k lanes groups
    → (n : ℕ) (lane : LaneView) → slice_get lanes n ≡ Some lane → length lane.cache.lists ≡ buckets
lanes_many entries plan buckets k [] groups f n lane h = cc
lanes_many entries plan buckets k (a ∷ lanes) [] f n lane h = absurd f
lanes_many entries plan buckets k (a ∷ lanes) (g ∷ groups) f zero lane h = let same : a ≡ lane =
    cc in subst (λ l. length l.cache.lists ≡ buckets) same f.0.many
lanes_many entries plan buckets k (a ∷ lanes) (g ∷ groups) f (suc n) lane h =
    lanes_many entries plan buckets (suc k) lanes groups f.1 n lane h

-- the machines after the events

stand_after : (ways buckets : ℕ) (events : ℕ → List Event) (k : ℕ) (old new : List LaneView) (ms : List Machine)
    → ((n : ℕ) (lane : LaneView) → slice_get old n ≡ Some lane → length lane.cache.lists ≡ buckets)
    → EachFrom (λ n. LaneMakes ways (events n)) k old new → EachFrom (λ n. StandsFor) k old ms
    → EachFrom (λ n. StandsFor) k new (after_events (geometry_without_refresh ways buckets) events k ms)
stand_after ways buckets events k [] [] [] many e s = tt
stand_after ways buckets events k [] [] (m ∷ ms) many e s = absurd s
stand_after ways buckets events k [] (b ∷ new) ms many e s = absurd e
stand_after ways buckets events k (a ∷ old) [] ms many e s = absurd e
stand_after ways buckets events k (a ∷ old) (b ∷ new) [] many e s = absurd s
stand_after ways buckets events k (a ∷ old) (b ∷ new) (m ∷ ms) many e s =
    let after = followed (ghosts.stands a.kind) (ghosts.folding a.kind) ways (events k) (parts_of a) (parts_of b) m s.0 e.0.made in
    let same = subst (λ n. PartsStand (ghosts.stands a.kind) (ghosts.folding a.kind) (parts_of b)
    (run (geometry_without_refresh ways n) (events k) m))
    (many 0 a refl) after in (
      subst (λ kind. PartsStand (ghosts.stands kind) (ghosts.folding kind) (parts_of b)
          (run (geometry_without_refresh ways buckets) (events k) m))
          (sym e.0.kind) same,
      stand_after ways buckets events (suc k) old new ms (λ n lane h. many (suc n) lane h) e.1 s.1,
    )

same_others : (ways : ℕ) (events : ℕ → List Event) (k : ℕ) (old new : List LaneView) → EachFrom (λ n. LaneMakes ways (events n)) k old new
    → (i n : ℕ) → n ≡ k + i → events n ≡ [] → slice_get new i ≡ slice_get old i
same_others ways events k [] [] e i n q none = refl
same_others ways events k [] (b ∷ new) e i n q none = absurd e
same_others ways events k (a ∷ old) [] e i n q none = absurd e
same_others ways events k (a ∷ old) (b ∷ new) e zero n q none =
    let is : k ≡ n = omega arith in
    let made : MakesAll (ghosts.stands a.kind) (ghosts.folding a.kind) ways [] (parts_of a) (parts_of b) =
    subst (λ es. MakesAll (ghosts.stands a.kind) (ghosts.folding a.kind) ways es (parts_of a) (parts_of b)) (ap events is ∙ none)
    e.0.made in
    ap Some (view_is a b e.0.kind made)
  where
    view_is : (a b : LaneView) → b.kind ≡ a.kind → parts_of b ≡ parts_of a → b ≡ a
    view_is a b k p = let c = ap (λ x. x.cache) p in let d = ap (λ x. x.pipe) p in let f = ap (λ x. x.store) p in rw (k, c, d, f) refl
same_others ways events k (a ∷ old) (b ∷ new) e (suc i) n q none = same_others ways events (suc k) old new e.1 i n (omega arith) none

same_maps : {X : Type 0} (f : LaneView → X) (R : ℕ → LaneView → LaneView → Type 0) → ((n : ℕ) (a b : LaneView) → R n a b → f b ≡ f a)
    → (k : ℕ) (old new : List LaneView) → EachFrom R k old new → map f new ≡ map f old
same_maps f R same k [] [] e = refl
same_maps f R same k [] (b ∷ new) e = absurd e
same_maps f R same k (a ∷ old) [] e = absurd e
same_maps f R same k (a ∷ old) (b ∷ new) e = let s = same k a b e.0 in let rest = same_maps f R same (suc k) old new e.1 in rw (s, rest)

pipeline_makes : (ways : ℕ) (events : ℕ → List Event) (entries : Entries) (plan : PlanParts) (buckets : ℕ) (old new : List LaneView)
    → AreLanesOf entries plan buckets old → LanesMake ways events old new
    → PipelineMakes ways events (record { plan = plan; entries = entries; buckets = buckets; lanes = old })
    (record { plan = plan; entries = entries; buckets = buckets; lanes = new })
pipeline_makes ways events entries plan buckets old new are e = record {
  stands = λ ms s. stand_after ways buckets events 0 old new ms (lanes_many entries plan buckets 0 old plan.groups are) e s;
  others = λ n none. same_others ways events 0 old new e n n (omega arith) none;
  kinds = same_maps (λ lane. lane.kind) (λ n. LaneMakes ways (events n)) (λ n a b m. m.kind) 0 old new e;
  plan = refl;
  entries = refl;
  buckets = refl;
  places = same_maps (λ lane. lane.pipe.places) (λ n. LaneMakes ways (events n)) (λ n a b m. (makes_sizes ways (events n) a b m).places) 0
      old new e;
}

-- lanes of the plan, made for its groupbys
pub record AreKeptLanes (entries : Entries) (plan : PlanParts) (buckets : ℕ) (all : List LaneView) : Type 0 where
  pub lanes : AreLanesOf entries plan buckets all
  pub made : Each IsMadeFor all plan.groups

-- and they made these events
pub record LanesAfter (ways : ℕ) (events : ℕ → List Event) (entries : Entries) (plan : PlanParts) (buckets : ℕ) (old new : List LaneView)
    : Type 0 where
  pub kept : AreKeptLanes entries plan buckets new
  pub makes : PipelineMakes ways events (record { plan = plan; entries = entries; buckets = buckets; lanes = old })
      (record { plan = plan; entries = entries; buckets = buckets; lanes = new })

pub lanes_after : (ways : ℕ) (events : ℕ → List Event) (entries : Entries) (plan : PlanParts) (buckets : ℕ) (old new : List LaneView)
    → LanesMake ways events old new → AreLanesOf entries plan buckets old → Each IsMadeFor old plan.groups
    → LanesAfter ways events entries plan buckets old new
lanes_after ways events entries plan buckets old new e are made =
    let R = λ (n : ℕ). LaneMakes ways (events n) in record {
      kept = record {
        lanes = each_next R _ (λ n a b g m own. let s = makes_sizes ways (events n) a b m in rw s.kind
            record { many = s.buckets ∙ own.many; keys = s.key_words ∙ own.keys; args = own.args; class = own.class; kind = own.kind })
            0 old new plan.groups e are;
        made = each_next R (λ n. IsMadeFor)
            (λ n a b g m own. record { program = ap program_in m.kind ∙ own.program; merges = rw m.kind own.merges })
            0 old new plan.groups e made;
      };
      makes = pipeline_makes ways events entries plan buckets old new are e;
    }

-- the lanes as a call gives them back that was lent them
pub given_back : (ways : ℕ) (events : ℕ → List Event) (entries : Entries) (plan : PlanParts) (buckets len : ℕ)
    (old lent new : List LaneView)
    → lent ≡ old → length new ≡ len → LanesMake ways events lent new → AreLanesOf entries plan buckets old
    → Each IsMadeFor old plan.groups → LanesAfter ways events entries plan buckets old (take len (new ++ drop (length new) old))
given_back ways events entries plan buckets len old lent new is long e are made =
    rw (whole_written new (drop (length new) old) len long)
    (lanes_after ways events entries plan buckets old new (subst (λ x. LanesMake ways events x new) is e) are made)

pub none_made : (ways k : ℕ) (lanes : List LaneView) → EachFrom (λ n. LaneMakes ways []) k lanes lanes
none_made ways k [] = tt
none_made ways k (lane ∷ lanes) = (record { kind = refl; made = refl }, none_made ways (suc k) lanes)

-- a sweep

-- the machines after a sweep have the epochs of those with all buckets emptied
swept_alike : EventsKeepAlike → BucketsEmptyByEvictions → (ways buckets k j : ℕ) (all lanes : List LaneView) (ms : List Machine)
    → ((n i : ℕ) → n ≡ k + i → slice_get all n ≡ slice_get lanes i)
    → ((n : ℕ) (lane : LaneView) → slice_get lanes n ≡ Some lane → length lane.cache.lists ≡ buckets) → EachFrom (λ n. StandsFor) k lanes ms
    → EachFrom (λ i m n. SameEpochs n (empty_buckets buckets m)) j ms
    (after_events (geometry_without_refresh ways buckets) (upkeeps_at due.Sweep all) k ms)
swept_alike alike emptied ways buckets k j all [] [] same many s = tt
swept_alike alike emptied ways buckets k j all [] (m ∷ ms) same many s = absurd s
swept_alike alike emptied ways buckets k j all (lane ∷ lanes) [] same many s = absurd s
swept_alike alike emptied ways buckets k j all (lane ∷ lanes) (m ∷ ms) same many s =
    let g = geometry_without_refresh ways buckets in
    let here : sweep_from 0 lane.cache lane.pipe ≡ upkeeps_at due.Sweep all k = ap (upkeep_at due.Sweep) (sym (same k 0 (omega arith))) in
    let led : SameEpochs (run g (sweep_from 0 lane.cache lane.pipe) m) (empty_buckets buckets m) =
    subst (λ n. SameEpochs (run g (sweep_from 0 lane.cache lane.pipe) m) (empty_buckets n m)) (many 0 lane refl)
    (sweep_alike alike emptied (ghosts.stands lane.kind) g lane.cache lane.pipe m s.0.front.cached) in (
      subst (λ events. SameEpochs (run g events m) (empty_buckets buckets m)) here led,
      swept_alike alike emptied ways buckets (suc k) (suc j) all lanes ms (λ n i q. same n (suc i) (omega arith))
          (λ n l h. many (suc n) l h) s.1,
    )

swept_empty : (lanes : List LaneView) → AreKept due.Sweep lanes → list_all (λ lane. held_in lane.cache == 0) lanes ≡ true
swept_empty [] kept = refl
swept_empty (lane ∷ lanes) kept =
    let none : (held_in lane.cache == 0) ≡ true = let h = kept 0 lane refl in rw h refl in
    let rest = swept_empty lanes (λ n l e. kept (suc n) l e) in rw (none, rest) refl

pub pipeline_is_swept : EventsKeepAlike → BucketsEmptyByEvictions → (ways : ℕ) (old new : PipelineView)
    → AreLanesOf old.entries old.plan old.buckets old.lanes
    → PipelineMakes ways (upkeeps_at due.Sweep old.lanes) old new → AreKept due.Sweep new.lanes → PipelineIsSwept old new
pipeline_is_swept alike emptied ways old new are made kept = record {
  stands = λ ms s. (
    after_events (geometry_without_refresh ways old.buckets) (upkeeps_at due.Sweep old.lanes) 0 ms,
    made.stands ms s,
    swept_alike alike emptied ways old.buckets 0 0 old.lanes old.lanes ms
        (λ n i q. ap (slice_get old.lanes) (let e : n ≡ i = omega arith in e))
        (lanes_many old.entries old.plan old.buckets 0 old.lanes old.plan.groups are) s,
  );
  held = swept_empty new.lanes kept;
}

-- the lane of a groupby has entries of the groupby's kind
pub kind_at : (p : PipelineView) (n : ℕ) (lane : LaneView) (group : GroupPlan) (f : TypedFold)
    → AreLanesOf p.entries p.plan p.buckets p.lanes
    → slice_get p.lanes n ≡ Some lane → slice_get p.plan.groups n ≡ Some group → IsProgramOf f group.program
    → IsKindFor p.entries f (ghosts.sizes lane.kind) (ghosts.folding lane.kind) (ghosts.open_bound lane.kind)
    (ghosts.absorb_bound lane.kind)
kind_at p n lane group f are here at is =
    let R = λ (i : ℕ) (l : LaneView) (x : GroupPlan). IsLaneOf p.entries p.buckets l.cache (ghosts.sizes l.kind) (ghosts.folding l.kind)
    (ghosts.open_bound l.kind) (ghosts.absorb_bound l.kind) x (wiring_at p.plan i) in
    let found = each_at R 0 n p.lanes p.plan.groups lane are here in
    let same : found.0 ≡ group = same_some found.0 group (sym found.1 ∙ at) in
    (subst (R n lane) same (found.2 n (omega arith))).kind f is

-- and they are made of its own program
pub made_at : (p : PipelineView) (n : ℕ) (lane : LaneView) (group : GroupPlan) → Each IsMadeFor p.lanes p.plan.groups
    → slice_get p.lanes n ≡ Some lane → slice_get p.plan.groups n ≡ Some group → IsMadeFor lane group
made_at p n lane group within here at =
    let found = each_at (λ i. IsMadeFor) 0 n p.lanes p.plan.groups lane within here in
    subst (IsMadeFor lane) (same_some found.0 group (sym found.1 ∙ at)) (found.2 n (omega arith))
