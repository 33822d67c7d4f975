-- A trace's packets by switch, and the events that they give the machines of the switches.
use Rattle.std.specs.Prelude.{◌≡◌, ℕ, ◌==◌, List, [], ◌∷◌, ◌++◌, map, filter, Option}
use Rattle.epoch_model.specs.{Epochs.{Use, Geometry}, Machine.{Event, Packet, Evict, Merge}, Timeline.NoPacket}
use Rattle.epoch_model.specs.Driving.{Taken, event_of, uses_taken}
use Rattle.additive_laws.specs.Network.{SwitchEvent, all_events}

-- a packet of a switch, and what a groupby takes of it
pub record Step : Type 0 where
  pub switch : ℕ
  pub taken : Option Taken

-- these events, of this switch
abbrev pub from_switch : ℕ → List Event → List SwitchEvent
from_switch switch events = map (λ event. record { switch = switch; event = event }) events

-- the packet events of the steps, in order
abbrev pub given : List Step → List SwitchEvent
given [] = []
given (one ∷ steps) = from_switch one.switch (event_of one.taken) ++ given steps

-- what is taken of the packets of one switch, in order
abbrev pub taken_of : ℕ → List Step → List (Option Taken)
taken_of switch steps = map (λ one. one.taken) (filter (λ one. one.switch == switch) steps)

-- the uses of one switch's packets, as if there were no others
abbrev pub own_uses : ℕ → List Step → List Use
own_uses switch steps = uses_taken 1 (taken_of switch steps)

-- the uses of all packets
abbrev pub whole_uses : List Step → List Use
whole_uses steps = uses_taken 1 (map (λ one. one.taken) steps)

-- the event, unless it is a merge, before these
abbrev pub unless_merge : ℕ → Event → List SwitchEvent → List SwitchEvent
unless_merge switch (Packet key row) events = record { switch = switch; event = Packet key row } ∷ events
unless_merge switch (Evict bucket) events = record { switch = switch; event = Evict bucket } ∷ events
unless_merge switch Merge events = events

-- all events but the merges
abbrev pub without_switch_merges : List SwitchEvent → List SwitchEvent
without_switch_merges [] = []
without_switch_merges (e ∷ events) = unless_merge e.switch e.event (without_switch_merges events)

-- the event before these, where it is a packet's
abbrev pub if_packet : ℕ → Event → List SwitchEvent → List SwitchEvent
if_packet switch (Packet key row) events = record { switch = switch; event = Packet key row } ∷ events
if_packet switch (Evict bucket) events = events
if_packet switch Merge events = events

-- the packet events among these
abbrev pub packets_among : List SwitchEvent → List SwitchEvent
packets_among [] = []
packets_among (e ∷ events) = if_packet e.switch e.event (packets_among events)

-- The packet events among these are those of the steps, in order; evictions and merges may come anywhere.
abbrev pub HasPackets : List Step → List SwitchEvent → Type 0
HasPackets steps events = packets_among events ≡ given steps

-- The events are those of the steps in order, with merges anywhere, and then evictions and merges alone.
pub record IsRun (steps : List Step) (events : List SwitchEvent) : Type 0 where
  pub first : List SwitchEvent
  pub rest : List SwitchEvent
  pub parts : events ≡ first ++ rest
  pub packets : without_switch_merges first ≡ given steps
  pub ending : NoPacket (all_events rest)

-- caches with this number of buckets and ways, which no refresh empties
abbrev pub unrefreshed : ℕ → ℕ → Geometry
unrefreshed buckets ways = record { buckets = buckets; ways = ways; refresh = 0 }
