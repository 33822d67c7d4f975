-- Pipelines, and the machines that their lanes are as far as.
use Rattle.std.proofs.Common.{◌≡◌, ℕ, zero, suc, ◌<◌, Bool, true, false, List, [], ◌∷◌, Option, Some, None, Result, Ok, Err, OnOk, length}
use Rattle.std.proofs.{Common.{nat_lt, replicate, refl, sym, ap, ◌∙◌, subst, if◌then◌else◌}, lemmas.{Bool.lt-ltb, List.length-map}}
use Rattle.std.specs.List.{slice_get, list_all}
use Rattle.epoch_model.specs.{Driving.{EventsKeepAlike, Taken, after_packet, event_of}, Epochs.{Geometry, is_refresh}, Laws.SameEpochs}
use Rattle.epoch_model.specs.Machine.{Machine, Event, Packet, Evict, Merge, merge, run, empty_buckets, empty_machine}
use Rattle.stage_plan.specs.{Planned.taken, declared.group.GroupPlan.GroupPlan}
use Rattle.switch_core.specs.{Pipelines.{after_events, empty_machines, geometry_without_refresh, packet_events}, PlanLanes.LaneView}
use Rattle.switch_core.specs.PlanLanes.{PipelineView, PipelineMakes, PipelineIsSwept, PipelineStands, lane_is_ready, upkeep_at, upkeeps_at}
use Rattle.switch_core.specs.declared.upkeep.Upkeep.{Upkeep}
use Rattle.switch_core.specs.declared.upkeep.Upkeep.TheVariants as due
use Rattle.switch_core.specs.Rows.{EachFrom}
use Rattle.trace_drive.specs.Follows.{AlikeFrom, FollowsBy, Keeps}

pub on_ok : {X E : Type 0} (P Q : Type 0) (r : Result X E) → (P → Q) → OnOk r P → OnOk r Q
on_ok P Q (Ok x) f p = f p
on_ok P Q (Err e) f p = p

alike_along : (m n o : Machine) → SameEpochs m n → SameEpochs n o → SameEpochs m o
alike_along m n o a b = record { recent = a.recent ∙ b.recent; closed = a.closed ∙ b.closed }

pub keeps_along : (a b c : PipelineView) → Keeps a b → Keeps b c → Keeps a c
keeps_along a b c k l = record {
  plan = l.plan ∙ k.plan;
  entries = l.entries ∙ k.entries;
  buckets = l.buckets ∙ k.buckets;
  lanes = l.lanes
      ∙ k.lanes;
  places = l.places ∙ k.places;
}

-- the same machines, said in another way
alike_as : (after later : ℕ → Machine) → ((i : ℕ) → after i ≡ later i) → (i : ℕ) (machines : List Machine) → AlikeFrom after i machines
    → AlikeFrom later i machines
alike_as after later same i [] a = tt
alike_as after later same i (m ∷ machines) a = (subst (SameEpochs m) (same i) a.0, alike_as after later same (suc i) machines a.1)

pub follows_as : (after later : ℕ → Machine) (p : PipelineView) → ((i : ℕ) → after i ≡ later i) → FollowsBy after p → FollowsBy later p
follows_as after later p same f = record {
  machines = f.machines;
  stands = f.stands;
  alike =
      alike_as after later same 0 f.machines f.alike;
}

-- events

events_alike : (g : Geometry) (events : ℕ → List Event) (after later : ℕ → Machine)
    → ((i : ℕ) (m : Machine) → SameEpochs m (after i) → SameEpochs (run g (events i) m) (later i))
    → (i : ℕ) (machines : List Machine) → AlikeFrom after i machines → AlikeFrom later i (after_events g events i machines)
events_alike g events after later h i [] a = tt
events_alike g events after later h i (m ∷ machines) a = (h i m a.0, events_alike g events after later h (suc i) machines a.1)

makes_follow : (ways : ℕ) (events : ℕ → List Event) (old new : PipelineView) (after later : ℕ → Machine) → PipelineMakes ways events old new
    → ((i : ℕ) (m : Machine) → SameEpochs m (after i) → SameEpochs (run (geometry_without_refresh ways old.buckets) (events i) m) (later i))
    → FollowsBy after old → FollowsBy later new
makes_follow ways events old new after later made h f = record {
  machines = after_events (geometry_without_refresh ways old.buckets) events 0 f.machines;
  stands = made.stands f.machines f.stands;
  alike = events_alike (geometry_without_refresh ways old.buckets) events after later h 0 f.machines f.alike;
}

-- merges change no epoch

AreMerges : List Event → Type 0
AreMerges [] = Unit {0}
AreMerges (Packet key row ∷ events) = ⊥
AreMerges (Evict bucket ∷ events) = ⊥
AreMerges (Merge ∷ events) = AreMerges events

merges_alike : EventsKeepAlike → (g : Geometry) (events : List Event) (m n : Machine) → AreMerges events → SameEpochs m n
    → SameEpochs (run g events m) n
unfolding AreMerges
merges_alike alike g [] m n are s = s
merges_alike alike g (Packet key row ∷ events) m n are s = absurd are
merges_alike alike g (Evict bucket ∷ events) m n are s = absurd are
merges_alike alike g (Merge ∷ events) m n are s = merges_alike alike g events (merge m) n are (alike.on_merge m n s)

-- an upkeep that is no sweep
abbrev pub IsMerging : Upkeep → Type 0
IsMerging due.Room = Unit {0}
IsMerging due.Lag = Unit {0}
IsMerging due.Sweep = ⊥
IsMerging due.Rest = Unit {0}

merges_many : (n : ℕ) → AreMerges (replicate n Merge)
unfolding AreMerges
merges_many zero = tt
merges_many (suc n) = merges_many n

room_merges : (room : Bool) → AreMerges (if room then [] else Merge ∷ [])
unfolding AreMerges
room_merges true = tt
room_merges false = tt

upkeep_merges : (upkeep : Upkeep) (lane : Option LaneView) → IsMerging upkeep → AreMerges (upkeep_at upkeep lane)
unfolding AreMerges
upkeep_merges upkeep None is = tt
upkeep_merges due.Room (Some lane) is = room_merges (nat_lt (length lane.pipe.records) lane.pipe.places)
upkeep_merges due.Lag (Some lane) is = tt
upkeep_merges due.Sweep (Some lane) is = absurd is
upkeep_merges due.Rest (Some lane) is = merges_many (suc (length lane.pipe.records))

-- an upkeep that only merges leads to no other machine
pub upkeep_follows : EventsKeepAlike → (ways : ℕ) (upkeep : Upkeep) (old new : PipelineView) (after : ℕ → Machine) → IsMerging upkeep
    → PipelineMakes ways (upkeeps_at upkeep old.lanes) old new → FollowsBy after old → FollowsBy after new
upkeep_follows alike ways upkeep old new after is made f =
    makes_follow ways (upkeeps_at upkeep old.lanes) old new after after made
    (λ i m s. merges_alike alike (geometry_without_refresh ways old.buckets) (upkeeps_at upkeep old.lanes i) m (after i)
    (upkeep_merges upkeep (slice_get old.lanes i) is) s) f

-- events leave what is kept of a pipeline
pub makes_keeps : (ways : ℕ) (events : ℕ → List Event) (old new : PipelineView) → PipelineMakes ways events old new → Keeps old new
makes_keeps ways events old new made = record {
  plan = made.plan;
  entries = made.entries;
  buckets = made.buckets;
  lanes = sym (length-map new.lanes (λ (lane : LaneView). lane.kind)) ∙ (ap length made.kinds
      ∙ length-map old.lanes (λ (lane : LaneView). lane.kind));
  places = made.places;
}

-- where each pipe has room, all have
pub all_ready : (lanes : List LaneView) → ((n : ℕ) (lane : LaneView) → slice_get lanes n ≡ Some lane
    → length lane.pipe.records < lane.pipe.places) → list_all lane_is_ready lanes ≡ true
all_ready [] ready = refl
all_ready (lane ∷ lanes) ready =
    let here = lt-ltb (length lane.pipe.records) lane.pipe.places (ready 0 lane refl) in
    let rest = all_ready lanes (λ n l e. ready (suc n) l e) in rw (here, rest) refl

packet_alike : EventsKeepAlike → (g : Geometry) (taking : Option Taken) (m n : Machine) → SameEpochs m n
    → SameEpochs (run g (event_of taking) m) (run g (event_of taking) n)
packet_alike alike g None m n s = s
packet_alike alike g (Some t) m n s = alike.on_packet g m n t.key t.row s

pub packet_follows : EventsKeepAlike → (ways : ℕ) (words : List ℕ) (old new : PipelineView) (after : ℕ → Machine)
    → PipelineMakes ways (packet_events old.plan words) old new → FollowsBy after old
    → FollowsBy (λ i. run (geometry_without_refresh ways old.buckets) (event_of (taken old.plan i words)) (after i)) new
packet_follows alike ways words old new after made f =
    let g = geometry_without_refresh ways old.buckets in
    makes_follow ways (packet_events old.plan words) old new after (λ i. run g (event_of (taken old.plan i words)) (after i)) made
    (λ i m s. packet_alike alike g (taken old.plan i words) m (after i) s) f

swept_alike : EventsKeepAlike → (buckets : ℕ) (after : ℕ → Machine) (i k : ℕ) (machines swept : List Machine)
    → EachFrom (λ n m s. SameEpochs s (empty_buckets buckets m)) k machines swept → AlikeFrom after i machines
    → AlikeFrom (λ j. empty_buckets buckets (after j)) i swept
swept_alike alike buckets after i k [] [] e a = tt
swept_alike alike buckets after i k [] (s ∷ swept) e a = absurd e
swept_alike alike buckets after i k (m ∷ machines) [] e a = absurd e
swept_alike alike buckets after i k (m ∷ machines) (s ∷ swept) e a = (
  alike_along s (empty_buckets buckets m) (empty_buckets buckets (after i)) e.0 (alike.on_sweep m (after i) buckets a.0),
  swept_alike alike buckets after (suc i) (suc k) machines swept e.1 a.1,
)

pub sweep_follows : EventsKeepAlike → (old new : PipelineView) (after : ℕ → Machine) → PipelineIsSwept old new → FollowsBy after old
    → FollowsBy (λ i. empty_buckets old.buckets (after i)) new
sweep_follows alike old new after swept f =
    let s = swept.stands f.machines f.stands in
    record { machines = s.0; stands = s.1; alike = swept_alike alike old.buckets after 0 0 f.machines s.0 s.2 f.alike }

-- merges after a sweep change no epoch
pub sweep_then : EventsKeepAlike → (ways : ℕ) (upkeep : Upkeep) (old swept new : PipelineView) → IsMerging upkeep
    → PipelineIsSwept old swept → PipelineMakes ways (upkeeps_at upkeep swept.lanes) swept new → (after : ℕ → Machine) → FollowsBy after old
    → FollowsBy (λ i. empty_buckets old.buckets (after i)) new
sweep_then alike ways upkeep old swept new is led made after f =
    upkeep_follows alike ways upkeep swept new (λ i. empty_buckets old.buckets (after i)) is made
    (sweep_follows alike old swept after led f)

pub both_keep : (ways : ℕ) (first later : ℕ → List Event) (old mid new : PipelineView) → PipelineMakes ways first old mid
    → PipelineMakes ways later mid new → Keeps old new
both_keep ways first later old mid new a b =
    keeps_along old mid new (makes_keeps ways first old mid a) (makes_keeps ways later mid new b)

-- a packet doesn't depend on the refresh of a geometry
run_as : (g h : Geometry) (taking : Option Taken) (m : Machine) → g.buckets ≡ h.buckets → g.ways ≡ h.ways
    → run g (event_of taking) m ≡ run h (event_of taking) m
run_as g h None m b w = refl
run_as g h (Some t) m b w =
    ap (λ n. run (record { buckets = n; ways = g.ways; refresh = 0 }) (Packet t.key t.row ∷ []) m) b
    ∙ ap (λ n. run (record { buckets = h.buckets; ways = n; refresh = 0 }) (Packet t.key t.row ∷ []) m) w

-- a packet, and a sweep where the clock is_due
pub turn_as : (ways number : ℕ) (g : Geometry) (is_due : Bool) (buckets next : ℕ) (taking : Option Taken) (m : Machine) → g.ways ≡ ways
    → g.buckets ≡ buckets → next ≡ buckets → is_due ≡ is_refresh g.refresh number
    → (if is_due then empty_buckets next (run (geometry_without_refresh ways buckets) (event_of taking) m) else run
    (geometry_without_refresh ways buckets)
    (event_of taking) m) ≡ after_packet g number (event_of taking) m
turn_as ways number g is_due buckets next taking m w b k s =
    let same = run_as (geometry_without_refresh ways buckets) g taking m (sym b) (sym w) in
    ap (λ x. if is_due then empty_buckets next x else x) same
    ∙ (ap (λ n. if is_due then empty_buckets n (run g (event_of taking) m) else run g (event_of taking) m) (k ∙ sym b)
    ∙ ap (λ (t : Bool). if t then empty_buckets g.buckets (run g (event_of taking) m) else run g (event_of taking) m) s)

-- a turn leads to the machines after the packet's number, whether the clock is due or not
pub turn_leads : {X E : Type 0} (ways refresh : ℕ) (old new : PipelineView) (words : List ℕ) (is_due : Bool) (Counted : ℕ → Type 0)
    (r : Result X E)
    → ((number : ℕ) → Counted number → is_due ≡ is_refresh refresh (suc number))
    → OnOk r ((after : ℕ → Machine) → FollowsBy after old → FollowsBy (λ i. if is_due then empty_buckets old.buckets
    (run (geometry_without_refresh ways old.buckets) (event_of (taken old.plan i words)) (after i))
    else run (geometry_without_refresh ways old.buckets) (event_of (taken old.plan i words)) (after i)) new)
    → OnOk r ((number : ℕ) (after : ℕ → Machine) → Counted number → FollowsBy after old
    → FollowsBy (λ i. after_packet (record { buckets = old.buckets; ways = ways; refresh = refresh }) (suc number)
    (event_of (taken old.plan i words)) (after i)) new)
turn_leads ways refresh old new words is_due Counted r told =
    let geometry : Geometry = record { buckets = old.buckets; ways = ways; refresh = refresh } in
    let past = λ (after : ℕ → Machine) (i : ℕ). run (geometry_without_refresh ways old.buckets) (event_of (taken old.plan i words))
    (after i) in
    let swept = λ (after : ℕ → Machine) (i : ℕ). if is_due then empty_buckets old.buckets (past after i) else past after i in
    on_ok ((after : ℕ → Machine) → FollowsBy after old → FollowsBy (swept after) new)
    ((number : ℕ) (after : ℕ → Machine) → Counted number → FollowsBy after old
    → FollowsBy (λ i. after_packet geometry (suc number) (event_of (taken old.plan i words)) (after i)) new)
    r
    (λ led number after counted f.
    follows_as (swept after) (λ i. after_packet geometry (suc number) (event_of (taken old.plan i words)) (after i)) new
    (λ i. turn_as ways (suc number) geometry is_due old.buckets old.buckets (taken old.plan i words) (after i) refl refl refl
    (told number counted))
    (led after f))

start_alike : EventsKeepAlike → (g : Geometry) (i : ℕ) (groups : List GroupPlan)
    → AlikeFrom (λ j. empty_machine g) i (empty_machines g groups)
start_alike alike g i [] = tt
start_alike alike g i (group ∷ groups) = (alike.start (empty_machine g), start_alike alike g (suc i) groups)

pub start_follows : EventsKeepAlike → (g : Geometry) (p : PipelineView) (groups : List GroupPlan)
    → PipelineStands p (empty_machines g groups) → FollowsBy (λ i. empty_machine g) p
start_follows alike g p groups s = record { machines = empty_machines g groups; stands = s; alike = start_alike alike g 0 groups }
