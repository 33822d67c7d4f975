-- The events of one switch in a run, as turns of its machine.
use Rattle.std.proofs.Common.{◌≡◌, ℕ, suc, true, false, ◌==◌, List, [], ◌∷◌, ◌++◌, map, filter, Option, Some, None, refl, sym, ap, ◌∙◌}
use Rattle.std.proofs.lemmas.{Bool.false≢true, List.{map-append, Elements.filter-append}}
use Rattle.epoch_model.specs.{Machine.{Machine, Event, Packet, Evict, Merge, run}, Laws.unmerged}
use Rattle.epoch_model.{specs.Timeline.{Turn, NoEvict, NoPacket, AreTurns, events_of_turn}, proofs.KeyLists.by_test}
use Rattle.epoch_model.specs.Timeline as timeline
use Rattle.epoch_model.specs.Driving.{Taken, event_of, uses_taken}
use Rattle.additive_laws.specs.Network.{SwitchEvent, all_events, events_at}
use Rattle.additive_laws.specs.Traces.{Step, from_switch, given, taken_of, unless_merge, without_switch_merges, unrefreshed}

pub events_append : (s : ℕ) (xs ys : List SwitchEvent) → events_at s (xs ++ ys) ≡ events_at s xs ++ events_at s ys
events_append s xs ys = ap all_events (filter-append (λ e. e.switch == s) xs ys)
    ∙ map-append (λ e. e.event) (filter (λ e. e.switch == s) xs) (filter (λ e. e.switch == s) ys)

no_rest : (event : Event) (events : List Event) → NoPacket (event ∷ events) → NoPacket events
no_rest (Packet key row) events n = absurd n
no_rest (Evict bucket) events n = n
no_rest Merge events n = n

no_first : (event : Event) (events others : List Event) → NoPacket (event ∷ events) → NoPacket others → NoPacket (event ∷ others)
no_first (Packet key row) events others n m = absurd n
no_first (Evict bucket) events others n m = m
no_first Merge events others n m = m

-- where no event is a packet, none of a switch is
pub no_packet_at : (s : ℕ) (events : List SwitchEvent) → NoPacket (all_events events) → NoPacket (events_at s events)
no_packet_at s [] n = tt
no_packet_at s (e ∷ events) n =
    let rest = no_packet_at s events (no_rest e.event (all_events events) n) in
    by_test (e.switch == s) (λ t. rw t (no_first e.event (all_events events) (events_at s events) n rest)) (λ t. rw t rest)

unmerged_own : (k s : ℕ) → (k == s) ≡ true → (event : Event) (more : List Event) (events : List SwitchEvent)
    → unmerged more ≡ events_at s events → unmerged (event ∷ more) ≡ events_at s (unless_merge k event events)
unmerged_own k s t (Packet key row) more events h = rw t (ap (λ es. Packet key row ∷ es) h)
unmerged_own k s t (Evict bucket) more events h = rw t (ap (λ es. Evict bucket ∷ es) h)
unmerged_own k s t Merge more events h = h

unmerged_other : (k s : ℕ) → (k == s) ≡ false → (event : Event) (events : List SwitchEvent)
    → events_at s (unless_merge k event events) ≡ events_at s events
unmerged_other k s t (Packet key row) events = rw t refl
unmerged_other k s t (Evict bucket) events = rw t refl
unmerged_other k s t Merge events = refl

-- merges are left out before or after
pub unmerged_at : (s : ℕ) (events : List SwitchEvent) → unmerged (events_at s events) ≡ events_at s (without_switch_merges events)
unmerged_at s [] = refl
unmerged_at s (e ∷ events) =
    let rest = unmerged_at s events in
    by_test (e.switch == s) (λ t. rw t (unmerged_own e.switch s t e.event (events_at s events) (without_switch_merges events) rest))
    (λ t. rw t (rest ∙ sym (unmerged_other e.switch s t e.event (without_switch_merges events))))

pub unmerged_append : (xs ys : List Event) → unmerged (xs ++ ys) ≡ unmerged xs ++ unmerged ys
unmerged_append [] ys = refl
unmerged_append (Packet key row ∷ xs) ys = ap (λ es. Packet key row ∷ es) (unmerged_append xs ys)
unmerged_append (Evict bucket ∷ xs) ys = ap (λ es. Evict bucket ∷ es) (unmerged_append xs ys)
unmerged_append (Merge ∷ xs) ys = unmerged_append xs ys

pub unmerged_none : (events : List Event) → NoPacket events → NoPacket (unmerged events)
unmerged_none [] n = tt
unmerged_none (Packet key row ∷ events) n = absurd n
unmerged_none (Evict bucket ∷ events) n = unmerged_none events n
unmerged_none (Merge ∷ events) n = unmerged_none events n

-- a turn for each packet
abbrev pub turn_of : Option Taken → Turn
turn_of taken = record { packets = event_of taken; sweep = [] }

abbrev pub turns : List (Option Taken) → List Turn
turns taken = map turn_of taken

given_own : (k s : ℕ) → (k == s) ≡ true → (taken : Option Taken) (events : List SwitchEvent) {more : List Event} → events_at s events ≡ more
    → events_at s (from_switch k (event_of taken) ++ events) ≡ (event_of taken ++ []) ++ more
given_own k s t None events h = h
given_own k s t (Some one) events h = rw t (ap (λ es. Packet one.key one.row ∷ es) h)

pub given_other : (k s : ℕ) → (k == s) ≡ false → (taken : Option Taken) (events : List SwitchEvent)
    → events_at s (from_switch k (event_of taken) ++ events) ≡ events_at s events
given_other k s t None events = refl
given_other k s t (Some one) events = rw t refl

pub given_events : (s : ℕ) (steps : List Step) → events_at s (given steps) ≡ timeline.all_events (turns (taken_of s steps))
given_events s [] = refl
given_events s (one ∷ steps) = by_test (one.switch == s)
    (λ t. rw t (given_own one.switch s t one.taken (given steps) (given_events s steps)))
    (λ t. rw t (given_other one.switch s t one.taken (given steps) ∙ given_events s steps))

no_evict : (taken : Option Taken) → NoEvict (event_of taken)
no_evict None = tt
no_evict (Some one) = tt

pub are_turns : (buckets ways number : ℕ) (m : Machine) (taken : List (Option Taken))
    → AreTurns (unrefreshed buckets ways) number m (turns taken)
are_turns buckets ways number m [] = tt
are_turns buckets ways number m (one ∷ taken) = (
  record { packets = no_evict one; sweep = tt; at_refresh = λ e. absurd (false≢true e); elsewhere = λ e. tt },
  are_turns buckets ways (suc number) (run (unrefreshed buckets ways) (events_of_turn (turn_of one)) m) taken,
)

pub turn_uses : (number : ℕ) (taken : List (Option Taken)) → timeline.all_uses number (turns taken) ≡ uses_taken number taken
turn_uses number [] = refl
turn_uses number (None ∷ taken) = turn_uses (suc number) taken
turn_uses number (Some one ∷ taken) = ap (λ us. record { packet = number; key = one.key; row = one.row } ∷ us)
    (turn_uses (suc number) taken)
