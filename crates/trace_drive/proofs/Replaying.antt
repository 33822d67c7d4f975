-- A trace on its way, packet by packet and at its end.
use Rattle.std.proofs.Common.{◌≡◌, ℕ, suc, ◌+◌, ◌<◌, List, [], ◌∷◌, length, drop, refl, sym, ap, ◌∙◌, subst, arith, length-drop, true}
use Rattle.std.{proofs.lemmas.List.length-map, specs.List.list_all}
use Rattle.epoch_model.specs.Driving.{EventsKeepAlike, PacketsFollowTheTrace, SweepsReachTheEnd, TakenUsesAreInTrace, after_packet}
use Rattle.epoch_model.specs.{Driving.event_of, Machine.{Machine, after_packets, empty_buckets, empty_machine}}
use Rattle.marple_base.specs.declared.field.Packet.{Packet}
use Rattle.stage_plan.specs.Planned.{taken}
use Rattle.switch_core.specs.Pipelines.{empty_machines, geometry_without_refresh}
use Rattle.switch_core.specs.{PlanLanes.{AreKept, AreLanesOf, PipelineView, PipelineStands, lane_is_drained}, Ends.{end_machines, uses_by}}
use Rattle.switch_core.specs.declared.upkeep.Upkeep.TheVariants as due
use Rattle.trace_drive.specs.{Clocks.HasCounted, Drives.{coming, geometry_for, words_of}, Follows.{FollowsBy, Keeps}}
use Rattle.trace_drive.specs.{Replays.{Advances, IsUnderWay}, declared.{packets.Packets.Packets, replay.Replay.Replay}}
use Rattle.trace_drive.{specs.declared.schedule.Schedule.Schedule, proofs.{Ending.whole_trace, Following.{follows_as, start_follows}}}
use Rattle.trace_drive.proofs.Taking.{after_turn, all_taken, more_left, next_left}

pub keeps_itself : (p : PipelineView) → Keeps p p
keeps_itself p = record { plan = refl; entries = refl; buckets = refl; lanes = refl; places = refl }

-- the machines of a pipeline that had no event yet
pub start_way : EventsKeepAlike → PacketsFollowTheTrace → (ways : ℕ) (schedule : Schedule) (all : List Packet) (p : PipelineView)
    → PipelineStands p (empty_machines (geometry_without_refresh ways p.buckets) p.plan.groups) → p.buckets ≡ schedule.buckets
    → FollowsBy (λ i. after_packets (geometry_for ways schedule) (uses_by p.plan i (words_of all)) 0) p
start_way alike follow ways schedule all p stands buckets =
    let g = geometry_for ways schedule in
    follows_as (λ (i : ℕ). empty_machine (geometry_without_refresh ways p.buckets))
    (λ (i : ℕ). after_packets g (uses_by p.plan i (words_of all)) 0) p
    (λ i. ap (λ n. empty_machine (geometry_without_refresh ways n)) buckets ∙ sym (follow.start g (uses_by p.plan i (words_of all))))
    (start_follows alike (geometry_without_refresh ways p.buckets) p p.plan.groups stands)

-- one packet more, with its turn
pub one_more : PacketsFollowTheTrace → TakenUsesAreInTrace → {ways : ℕ} (schedule : Schedule) (all : List Packet) (count : ℕ) (p : Packet)
    (old new : Replay ways) → IsUnderWay schedule all count old
    → coming old.packets ≡ p ∷ coming new.packets → Keeps old.pipeline new.pipeline
    → FollowsBy (λ i. after_packet (record { buckets = old.pipeline.buckets; ways = ways; refresh = old.refreshes.every }) (suc count)
    (event_of (taken old.pipeline.plan i p.words)) (after_packets (geometry_for ways schedule)
    (uses_by old.pipeline.plan i (words_of all)) count)) new.pipeline
    → HasCounted (suc count) new.refreshes → HasCounted (suc count) new.lags → new.refreshes.every ≡ old.refreshes.every
    → new.lags.every ≡ old.lags.every
    → IsUnderWay schedule all (count + 1) new
one_more follow law {ways} schedule all count p old new way given keeps follows refreshes lags refresh lag =
    let g = geometry_for ways schedule in
    let plan = old.pipeline.plan in
    let left : drop count all ≡ p ∷ coming new.packets = sym way.rest ∙ given in
    let inside = more_left all count p (coming new.packets) left in
    let turned = follows_as
    (λ (i : ℕ). after_packet (record { buckets = old.pipeline.buckets; ways = ways; refresh = old.refreshes.every }) (suc count)
    (event_of (taken plan i p.words)) (after_packets g (uses_by plan i (words_of all)) count))
    (λ (i : ℕ). after_packets g (uses_by plan i (words_of all)) (suc count)) new.pipeline
    (after_turn follow law g plan plan old.pipeline.buckets old.refreshes.every all count p (coming new.packets) left refl way.buckets
    way.refresh) follows in
    let past : IsUnderWay schedule all (suc count) new = record {
      within = omega arith;
      rest = (next_left all count p (coming new.packets) left).1;
      buckets = keeps.buckets ∙ way.buckets;
      follows = subst (λ x. FollowsBy (λ i. after_packets g (uses_by x i (words_of all)) (suc count)) new.pipeline) (sym keeps.plan) turned;
      refreshes = refreshes;
      lags = lags;
      refresh = refresh ∙ way.refresh;
      lag = lag ∙ way.lag;
    } in
    let next : suc count ≡ count + 1 = omega arith in
    subst (λ n. IsUnderWay schedule all n new) next past

-- no packet was left
pub none_more : {ways : ℕ} (schedule : Schedule) (all : List Packet) (count : ℕ) (old : Replay ways) (packets : Packets)
    → IsUnderWay schedule all count old → coming old.packets ≡ [] → coming packets ≡ []
    → (length all < count + 1) × IsUnderWay schedule all (length all) (record old { packets = packets })
none_more {ways} schedule all count old packets way gone left =
    let nothing : drop count all ≡ [] = sym way.rest ∙ gone in
    let whole = all_taken all count nothing way.within in
    let here : IsUnderWay schedule all count (record old { packets = packets }) = record {
      within = way.within;
      rest = left ∙ sym nothing;
      buckets = way.buckets;
      follows = way.follows;
      refreshes = way.refreshes;
      lags = way.lags;
      refresh = way.refresh;
      lag = way.lag;
    } in
    (omega arith, subst (λ n. IsUnderWay schedule all n (record old { packets = packets })) whole here)

pub none_taken : {ways : ℕ} (replay : Replay ways) → Advances 0 replay replay
none_taken replay schedule all count way = let same : count ≡ count + 0 =
    omega arith in subst (λ n. IsUnderWay schedule all n replay) same way

-- one packet more after those so far
pub taken_next : {ways : ℕ} (number : ℕ) (start old new : Replay ways) → Advances number start old → Advances 1 old new
    → Advances (number + 1) start new
taken_next number start old new before next schedule all count way =
    let same : (count + number) + 1 ≡ count + (number + 1) = omega arith in
    subst (λ n. IsUnderWay schedule all n new) same (next schedule all (count + number) (before schedule all count way))

-- fewer packets are left after each one
pub less_left : {ways : ℕ} (schedule : Schedule) (all : List Packet) (count : ℕ) (old new : Replay ways) → IsUnderWay schedule all count old
    → IsUnderWay schedule all (count + 1) new → length (coming new.packets) < length (coming old.packets)
less_left schedule all count old new before after =
    let a = ap length before.rest in
    let b = ap length after.rest in
    let within = after.within in
    omega (arith, length-drop {A = Packet} count all, length-drop {A = Packet} (count + 1) all)

-- the pipeline after the end of a trace all of whose packets were taken
pub at_the_end : SweepsReachTheEnd → {ways : ℕ} (schedule : Schedule) (all : List Packet) (took : Replay ways) (done : PipelineView)
    → IsUnderWay schedule all (length all) took → Keeps took.pipeline done
    → AreLanesOf done.entries done.plan done.buckets done.lanes → ((after : ℕ → Machine) → FollowsBy after took.pipeline
    → FollowsBy (λ i. empty_buckets took.pipeline.buckets (after i)) done)
    → AreKept due.Rest done.lanes
    → PipelineStands done (end_machines done.plan (geometry_for ways schedule) (words_of all))
    × (list_all lane_is_drained done.lanes ≡ true)
at_the_end law {ways} schedule all took done way keeps lanes follows none =
    let g = geometry_for ways schedule in
    let words = words_of all in
    whole_trace law g done.plan words (length all) took.pipeline took.pipeline done (sym keeps.plan) way.buckets
    (sym (length-map all (λ (p : Packet). p.words))) (keeps_itself took.pipeline) keeps lanes
    (follows (λ (i : ℕ). after_packets g (uses_by took.pipeline.plan i words) (length all)) way.follows) none
