-- The events of a packet's turn, one list of them after another.
use Rattle.std.proofs.Common.{◌≡◌, ℕ, suc, true, false, List, [], ◌∷◌, ◌++◌, length, map, zero, refl, sym, ap, ◌∙◌, subst, arith}
use Rattle.std.proofs.{Common.{append-nil, append_assoc}, lemmas.List.length-map}
use Rattle.epoch_model.specs.{Driving.{EventsKeepAlike, event_of}, Epochs.Geometry, Machine.{Machine, Event, empty_buckets, run, step}}
use Rattle.stage_plan.specs.{Planned.taken, Sound.PlanParts}
use Rattle.switch_core.specs.Pipelines.{after_events, geometry_without_refresh, packet_events}
use Rattle.switch_core.specs.PlanLanes.{LaneView, PipelineMakes, PipelineStands, PipelineView, upkeeps_at}
use Rattle.switch_core.specs.declared.upkeep.Upkeep.TheVariants as due
use Rattle.trace_drive.specs.{Follows.{FollowsBy, Keeps}, Turns.turn_at}
use Rattle.trace_drive.proofs.Following.{keeps_along, makes_keeps, packet_follows, upkeep_follows}

run_on : (g : Geometry) (xs ys : List Event) (m : Machine) → run g (xs ++ ys) m ≡ run g ys (run g xs m)
run_on g [] ys m = refl
run_on g (x ∷ xs) ys m = run_on g xs ys (step g m x)

after_both : (g : Geometry) (xs ys : ℕ → List Event) (k : ℕ) (ms : List Machine) → after_events g (λ n. xs n ++ ys n) k ms
    ≡ after_events g ys k (after_events g xs k ms)
after_both g xs ys k [] = refl
after_both g xs ys k (m ∷ ms) = ap (λ n. n ∷ after_events g (λ n. xs n ++ ys n) (suc k) ms) (run_on g (xs k) (ys k) m) ∙ ap
    (λ ns. run g (ys k) (run g (xs k) m) ∷ ns) (after_both g xs ys (suc k) ms)

both_empty : (xs ys : List Event) → xs ++ ys ≡ [] → (xs ≡ []) × (ys ≡ [])
both_empty [] ys e = (refl, e)
both_empty (x ∷ xs) ys e = absurd (never e)
  where
    never : x ∷ (xs ++ ys) ≡ [] → ⊥
    never e = cc

-- events, and then others
pub makes_on : (ways : ℕ) (xs ys : ℕ → List Event) (a b c : PipelineView) → PipelineMakes ways xs a b → PipelineMakes ways ys b c
    → PipelineMakes ways (λ n. xs n ++ ys n) a c
makes_on ways xs ys a b c first next = record {
  stands = λ ms s.
      let g = geometry_without_refresh ways a.buckets in
      let later : PipelineStands c (after_events g ys 0 (after_events g xs 0 ms)) =
      subst (λ n. PipelineStands c (after_events (geometry_without_refresh ways n) ys 0 (after_events g xs 0 ms))) first.buckets
      (next.stands (after_events g xs 0 ms) (first.stands ms s)) in
      subst (PipelineStands c) (sym (after_both g xs ys 0 ms)) later;
  others = λ n none. let empty = both_empty (xs n) (ys n) none in next.others n empty.1 ∙ first.others n empty.0;
  kinds = next.kinds ∙ first.kinds;
  plan = next.plan ∙ first.plan;
  entries = next.entries ∙ first.entries;
  buckets = next.buckets ∙ first.buckets;
  places = next.places ∙ first.places;
}

-- the same events, said in another way
makes_as : (ways : ℕ) (xs ys : ℕ → List Event) (a b : PipelineView) → ((n : ℕ) → xs n ≡ ys n) → PipelineMakes ways xs a b
    → PipelineMakes ways ys a b
makes_as ways xs ys a b same made = record {
  stands = λ ms s. subst (PipelineStands b) (same_after (geometry_without_refresh ways a.buckets) 0 ms) (made.stands ms s);
  others = λ n none. made.others n (same n ∙ none);
  kinds = made.kinds;
  plan = made.plan;
  entries = made.entries;
  buckets = made.buckets;
  places = made.places;
}
  where
    same_after : (g : Geometry) (k : ℕ) (ms : List Machine) → after_events g xs k ms ≡ after_events g ys k ms
    same_after g k [] = refl
    same_after g k (m ∷ ms) = ap (λ es. run g es m ∷ after_events g xs (suc k) ms) (same k) ∙ ap (λ ns. run g (ys k) m ∷ ns)
        (same_after g (suc k) ms)

-- room, and then the packet
pub packet_turn : (ways : ℕ) (words : List ℕ) (old roomy new : PipelineView) → PipelineMakes ways (upkeeps_at due.Room old.lanes) old roomy
    → PipelineMakes ways (packet_events roomy.plan words) roomy new → PipelineMakes ways (turn_at words false old) old new
packet_turn ways words old roomy new room took =
    makes_as ways (λ n. upkeeps_at due.Room old.lanes n ++ packet_events roomy.plan words n) (turn_at words false old) old new
    (λ n. ap (λ plan. upkeeps_at due.Room old.lanes n ++ packet_events plan words n) room.plan
    ∙ ap (λ es. upkeeps_at due.Room old.lanes n ++ es) (sym (append-nil (packet_events old.plan words n))))
    (makes_on ways (upkeeps_at due.Room old.lanes) (packet_events roomy.plan words) old roomy new room took)

-- a merge of each lane is the same wherever the pipeline is
lag_as : (olds news : List LaneView) (n : ℕ) → length news ≡ length olds → upkeeps_at due.Lag news n ≡ upkeeps_at due.Lag olds n
lag_as [] [] n e = refl
lag_as [] (b ∷ news) n e = absurd (omega arith)
lag_as (a ∷ olds) [] n e = absurd (omega arith)
lag_as (a ∷ olds) (b ∷ news) zero e = refl
lag_as (a ∷ olds) (b ∷ news) (suc n) e = lag_as olds news n (omega arith)

pub kinds_long : (old new : PipelineView) → map (λ lane. lane.kind) new.lanes ≡ map (λ lane. lane.kind) old.lanes → length new.lanes
    ≡ length old.lanes
kinds_long old new kinds =
    sym (length-map new.lanes (λ (lane : LaneView). lane.kind)) ∙ (ap length kinds ∙ length-map old.lanes (λ (lane : LaneView). lane.kind))

-- a packet, and then a merge of each lane
pub lag_turn : (ways : ℕ) (words : List ℕ) (old packed new : PipelineView) → PipelineMakes ways (turn_at words false old) old packed
    → PipelineMakes ways (upkeeps_at due.Lag packed.lanes) packed new → PipelineMakes ways (turn_at words true old) old new
lag_turn ways words old packed new took merged =
    makes_as ways (λ n. turn_at words false old n ++ upkeeps_at due.Lag packed.lanes n) (turn_at words true old) old new
    (λ n. ap (λ es. turn_at words false old n ++ es) (lag_as old.lanes packed.lanes n (kinds_long old packed took.kinds))
    ∙ joined (upkeeps_at due.Room old.lanes n) (packet_events old.plan words n) (upkeeps_at due.Lag old.lanes n))
    (makes_on ways (turn_at words false old) (upkeeps_at due.Lag packed.lanes) old packed new took merged)
  where
    joined : (xs ys zs : List Event) → (xs ++ (ys ++ [])) ++ zs ≡ xs ++ (ys ++ zs)
    joined xs ys zs = append_assoc xs (ys ++ []) zs ∙ ap (λ es. xs ++ es) (ap (λ es. es ++ zs) (append-nil ys))

-- no events
pub makes_none : (ways : ℕ) (p : PipelineView) → PipelineMakes ways (λ n. []) p p
makes_none ways p = record {
  stands = λ ms s. subst (PipelineStands p) (sym (same (geometry_without_refresh ways p.buckets) 0 ms)) s;
  others = λ n none. refl;
  kinds = refl;
  plan = refl;
  entries = refl;
  buckets = refl;
  places = refl;
}
  where
    same : (g : Geometry) (k : ℕ) (ms : List Machine) → after_events g (λ n. []) k ms ≡ ms
    same g k [] = refl
    same g k (m ∷ ms) = ap (λ ns. m ∷ ns) (same g (suc k) ms)

-- the machines after a packet with these words
abbrev pub past : ℕ → List ℕ → PipelineView → (ℕ → Machine) → ℕ → Machine
past ways words old after i = run (geometry_without_refresh ways old.buckets) (event_of (taken old.plan i words)) (after i)

-- what the packet of a turn, with the room before it, makes of a pipeline
pub record IsPacked (ways : ℕ) (words : List ℕ) (old packed : PipelineView) : Type 0 where
  pub makes : PipelineMakes ways (turn_at words false old) old packed
  pub keeps : Keeps old packed
  pub follows : (after : ℕ → Machine) → FollowsBy after old → FollowsBy (past ways words old after) packed

pub packed_by : EventsKeepAlike → (ways : ℕ) (words : List ℕ) (old roomy packed : PipelineView)
    → PipelineMakes ways (upkeeps_at due.Room old.lanes) old roomy → PipelineMakes ways (packet_events roomy.plan words) roomy packed
    → IsPacked ways words old packed
packed_by alike ways words old roomy packed room took = record {
  makes = packet_turn ways words old roomy packed room took;
  keeps = keeps_along old roomy packed (makes_keeps ways (upkeeps_at due.Room old.lanes) old roomy room)
      (makes_keeps ways (packet_events roomy.plan words) roomy packed took);
  follows = λ after f.
      let led = packet_follows alike ways words roomy packed after took (upkeep_follows alike ways due.Room old roomy after tt room f) in
      subst (λ (n : ℕ). FollowsBy (λ i. run (geometry_without_refresh ways n) (event_of (taken old.plan i words)) (after i)) packed)
      room.buckets
      (subst (λ (plan : PlanParts). FollowsBy
      (λ i. run (geometry_without_refresh ways roomy.buckets) (event_of (taken plan i words)) (after i)) packed) room.plan led);
}

-- a sweep after it
pub swept_after : (ways : ℕ) (words : List ℕ) (old packed new : PipelineView) → IsPacked ways words old packed
    → ((after : ℕ → Machine) → FollowsBy after packed → FollowsBy (λ i. empty_buckets packed.buckets (after i)) new)
    → (after : ℕ → Machine) → FollowsBy after old → FollowsBy (λ i. empty_buckets old.buckets (past ways words old after i)) new
swept_after ways words old packed new p led after f =
    subst (λ (n : ℕ). FollowsBy (λ i. empty_buckets n (past ways words old after i)) new) p.keeps.buckets
    (led (past ways words old after) (p.follows after f))
