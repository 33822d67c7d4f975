-- The calls of upkeeps, and what they leave of a network's fronts.
use Rattle.std.proofs.Common.{◌≡◌, ◌≢◌, ℕ, zero, suc, ◌+◌, ◌<◌, ◌==◌, nat_lt, true, List, [], ◌∷◌, ◌++◌, length, replicate, set, Option}
use Rattle.std.proofs.{Common.{Some, None, refl, sym, ap, subst, ◌∙◌, arith}, lemmas.Bool.Decides.nat_tests}
use Rattle.std.specs.{Prelude.{slice_get, if◌then◌else◌}, List.list_all}
use Rattle.epoch_model.{specs.{Machine.{Event, Packet, Evict, Merge}, Timeline.NoPacket}, proofs.KeyLists.by_test}
use Rattle.epoch_entry.specs.declared.any.AnyEpochs.{AnyEpochs}
use Rattle.switch_core.specs.{Closing.{held_in, is_drained}, FrontParts.FrontOf, Rows.EachFrom}
use Rattle.switch_core.specs.Upkeeps.{IsKept, Try, counts_of, left_waiting, room_events, sweep_events, tries}
use Rattle.switch_core.specs.declared.upkeep.Upkeep.{Upkeep}
use Rattle.switch_core.specs.declared.upkeep.Upkeep.TheVariants as due
use Rattle.switch_core.proofs.{LaneFacts.{got_other, got_set, set_same}, SideBySide.{got_below, got_some}}
use Rattle.network.specs.Groups.{GroupKept, GroupView, group_is_drained}
use Rattle.network.specs.Events.{GroupBreaksOff, GroupMakesAll, IsLeft, StaysBut, is_ready_at, upkeep_in}
use Rattle.network.specs.{Networks.{IsNetwork, NetworkView}, Running.{Evicts, FrontsStay, Merges, NetworkRuns, RunBreaksOff, calls_of}}
use Rattle.network.{specs.Running.{front_at, front_of, lane_calls, upkeep_calls}, proofs.{GroupSteps.group_at, CostSteps.kept_at}}
use Rattle.network.proofs.{MakeSteps.{make_one, ready_at, switch_within}, NetworkSteps.with_groups}
use Rattle.network.proofs.{Runs.{NetworkKept, below_same, kept_long}, SharedSteps.{all_pass, set_set}}

-- ---- no upkeep takes a packet

packets_on : (xs ys : List Event) → NoPacket xs → NoPacket ys → NoPacket (xs ++ ys)
packets_on [] _ a b = b
packets_on (Packet _ _ ∷ _) _ a b = absurd a
packets_on (Evict _ ∷ xs) ys a b = packets_on xs ys a b
packets_on (Merge ∷ xs) ys a b = packets_on xs ys a b

packets_first : (xs ys : List Event) → NoPacket (xs ++ ys) → NoPacket xs
packets_first [] _ a = tt
packets_first (Packet _ _ ∷ _) _ a = absurd a
packets_first (Evict _ ∷ xs) ys a = packets_first xs ys a
packets_first (Merge ∷ xs) ys a = packets_first xs ys a

room_packets : (places waiting : ℕ) → NoPacket (room_events places waiting)
room_packets places waiting = by_test (nat_lt waiting places) (λ t. rw t tt) (λ t. rw t tt)

sweep_packets : (places : ℕ) (ts : List Try) (waiting : ℕ) → NoPacket (sweep_events places waiting ts)
sweep_packets _ [] _ = tt
sweep_packets places (t ∷ ts) waiting =
    let left = left_waiting places waiting + (if t.finds then 1 else 0) in
    packets_on (room_events places waiting) (Evict t.bucket ∷ sweep_events places left ts) (room_packets places waiting)
    (sweep_packets places ts left)

rest_packets : (n : ℕ) → NoPacket (replicate n Merge)
rest_packets zero = tt
rest_packets (suc n) = rest_packets n

pub upkeep_packets : (upkeep : Upkeep) (o : Option (FrontOf AnyEpochs)) → NoPacket (upkeep_in upkeep o)
upkeep_packets _ None = tt
upkeep_packets due.Room (Some front) = room_packets front.pipe.places (length front.pipe.records)
upkeep_packets due.Lag (Some _) = tt
upkeep_packets due.Sweep (Some front) = sweep_packets front.pipe.places (tries 0 (counts_of front.cache)) (length front.pipe.records)
upkeep_packets due.Rest (Some front) = rest_packets (suc (length front.pipe.records))

-- ---- the calls of what a groupby makes

calls_on : (at lane : ℕ) (xs ys : List Event) → calls_of at lane (xs ++ ys) ≡ calls_of at lane xs ++ calls_of at lane ys
calls_on at _ [] _ = refl
calls_on at lane (Packet _ _ ∷ xs) ys = calls_on at lane xs ys
calls_on at lane (Evict bucket ∷ xs) ys = ap (λ es. Evicts at lane bucket ∷ es) (calls_on at lane xs ys)
calls_on at lane (Merge ∷ xs) ys = ap (λ es. Merges at lane ∷ es) (calls_on at lane xs ys)

module _ (ways at lane : ℕ) where
  pub lane_runs : (events : List Event) (net : NetworkView) (group new : GroupView) → NoPacket events
      → slice_get net.groups lane ≡ Some group → GroupMakesAll ways at events group new
      → NetworkRuns ways (calls_of at lane events) net (with_groups net (set net.groups lane new))
  lane_runs [] net group _ _ here same =
      rw (same, set_same net.groups lane group here)
  lane_runs (Packet _ _ ∷ _) _ _ _ none _ _ = absurd none
  lane_runs (Evict bucket ∷ events) net group new none here made =
      let middle = with_groups net (set net.groups lane made.0) in
      let there = got_set net.groups lane made.0 (got_below net.groups lane _ here) in (
        middle,
        record {
          groups = make_one ways at lane (Evict bucket) net.groups group made.0 here made.1;
          switches = refl;
          keeps = record { plan = refl; buckets = refl; pipe_records = refl };
        },
        rw (← set_set net.groups lane made.0 new) (lane_runs events middle made.0 new none there made.2),
      )
  lane_runs (Merge ∷ events) net group new none here made =
      let middle = with_groups net (set net.groups lane made.0) in
      let there = got_set net.groups lane made.0 (got_below net.groups lane _ here) in (
        middle,
        record {
          groups = make_one ways at lane Merge net.groups group made.0 here made.1;
          switches = refl;
          keeps = record { plan = refl; buckets = refl; pipe_records = refl };
        },
        rw (← set_set net.groups lane made.0 new) (lane_runs events middle made.0 new none there made.2),
      )

  pub lane_breaks : (events : List Event) (net : NetworkView) (group new : GroupView) → NoPacket events
      → slice_get net.groups lane ≡ Some group → GroupBreaksOff ways at events group new
      → RunBreaksOff ways (calls_of at lane events) net (with_groups net (set net.groups lane new))
  lane_breaks _ net group new none here broke =
      let first = broke.0 in
      let rest = broke.1.0 in (
        calls_of at lane first,
        (calls_of at lane rest, sym (calls_on at lane first rest) ∙ ap (calls_of at lane) broke.1.1),
        lane_runs first net group new (packets_first first rest (rw broke.1.1 none)) here broke.2,
      )

-- the front of a groupby that is there
pub front_here : (at lane : ℕ) (net : NetworkView) (group : GroupView) → slice_get net.groups lane ≡ Some group
    → front_at net lane at ≡ slice_get group.fronts at
front_here at _ _ _ here = rw here

-- one groupby is another one, whose fronts of other switches are the same
pub lane_stays : (at lane : ℕ) (net : NetworkView) (group new : GroupView) → slice_get net.groups lane ≡ Some group → StaysBut at group new
    → FrontsStay lane at net (with_groups net (set net.groups lane new))
lane_stays at lane net group new here stays n s apart = by_test (n == lane)
    (λ t.
    let same : n ≡ lane = grind (arith, nat_tests) in
    let there = got_set net.groups lane new (got_below net.groups lane _ here) in
    ap (λ k. front_of s (slice_get (set net.groups lane new) k)) same
    ∙ (ap (front_of s) there ∙ (stays s (λ e. apart (same, e))
    ∙ (sym (ap (front_of s) here) ∙ ap (λ k. front_of s (slice_get net.groups k)) (sym same)))))
    (λ t.
    let far : n ≢ lane = grind (arith, nat_tests) in
    rw (got_other net.groups lane n new far))

-- ---- calls by fronts alone

pub calls_same : (at : ℕ) (upkeep : Upkeep) (a b : NetworkView) → length b.groups ≡ length a.groups
    → ((n : ℕ) → front_at b n at ≡ front_at a n at)
    → upkeep_calls at upkeep b ≡ upkeep_calls at upkeep a
calls_same at upkeep a b long same =
    rw (
      below_same (lane_calls at upkeep b) (lane_calls at upkeep a) (length b.groups)
          (λ n less. ap (λ o. calls_of at n (upkeep_in upkeep o)) (same n)),
      long,
    )

lag_in : (k n at : ℕ) (olds news : List GroupView) → EachFrom (λ n. GroupKept) k olds news
    → upkeep_in due.Lag (front_of at (slice_get news n)) ≡ upkeep_in due.Lag (front_of at (slice_get olds n))
lag_in k n at [] [] e = refl
lag_in k n at [] (b ∷ _) e = absurd e
lag_in k n at (a ∷ _) [] e = absurd e
lag_in k zero at (a ∷ _) (b ∷ _) e = kept_at (upkeep_in due.Lag) (upkeep_in due.Lag) refl
    (λ x y one. refl) 0 at a.fronts b.fronts e.0.fronts
lag_in k (suc n) at (a ∷ olds) (b ∷ news) e = lag_in (suc k) n at olds news e.1

pub lag_same : (at : ℕ) (a b : NetworkView) → NetworkKept a b → upkeep_calls at due.Lag b ≡ upkeep_calls at due.Lag a
lag_same at a b kept =
    rw (
      below_same (lane_calls at due.Lag b) (lane_calls at due.Lag a) (length b.groups)
          (λ n less. ap (calls_of at n) (lag_in 0 n at a.groups b.groups kept.groups)),
      kept_long a b kept,
    )

-- ---- what an upkeep leaves

left_now : (upkeep : Upkeep) (o : Option (FrontOf AnyEpochs)) (now : FrontOf AnyEpochs) → IsLeft upkeep o (Some now)
    → IsKept upkeep now.cache now.pipe
left_now _ None _ left = absurd left
left_now _ (Some _) _ left = left.0

-- every pipe of the switch has room
pub ready_left : (ways at : ℕ) (upkeep : Upkeep) (a b : NetworkView) → IsNetwork ways b → at < b.switches
    → length b.groups ≡ length a.groups
    → ((front : FrontOf AnyEpochs) → IsKept upkeep front.cache front.pipe → length front.pipe.records < front.pipe.places)
    → ((n : ℕ) → n < length a.groups → IsLeft upkeep (front_at a n at) (front_at b n at)) → list_all (is_ready_at at) b.groups ≡ true
ready_left ways at upkeep a b is within long room left = all_pass (is_ready_at at) b.groups (λ n group e.
    let front = got_some group.fronts at (switch_within b.plan b.switches at n b.groups group within is.groups e) in
    let less = got_below b.groups n _ e in
    let here = subst (IsLeft upkeep (front_at a n at)) (ap (front_of at) e ∙ front.1)
    (left n (omega arith)) in
    ready_at at group front.0 front.1 (room front.0 (left_now upkeep (front_at a n at) front.0 here)))

-- this front has no open epoch and no record
abbrev pub IsEmptied : Option (FrontOf AnyEpochs) → Type 0
IsEmptied None = Unit {0}
IsEmptied (Some front) = is_drained front.cache front.pipe ≡ true

pub emptied : (o m n : Option (FrontOf AnyEpochs)) → IsLeft due.Sweep o m → IsLeft due.Rest m n → IsEmptied n
emptied o m None a b = tt
emptied o None (Some _) a b = absurd b
emptied None (Some _) (Some _) a b = absurd a
emptied (Some _) (Some _) (Some _) a b =
    let held = ap (λ c. held_in c) b.1 ∙ a.0 in rw (held, b.0)

-- the fronts of all switches are drained
pub all_emptied : (ways : ℕ) (net : NetworkView) → IsNetwork ways net
    → ((n s : ℕ) → n < length net.groups → s < net.switches → IsEmptied (front_at net n s)) → list_all group_is_drained net.groups ≡ true
all_emptied ways net is each = all_pass group_is_drained net.groups (λ n group e.
    all_pass (λ (front : FrontOf AnyEpochs). is_drained front.cache front.pipe) group.fronts (λ s front f.
    let many = (group_at net.plan net.switches n net.groups _ is.groups e).2.count in
    let less = got_below group.fronts s _ f in
    subst IsEmptied (ap (front_of s) e ∙ f) (each n s (got_below net.groups n _ e) (omega arith))))
