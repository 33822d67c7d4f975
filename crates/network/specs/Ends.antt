-- What the tables of a drained network are.
use Rattle.std.specs.{Prelude.{◌≡◌, ℕ, None, Some, List, [], ◌∷◌, ◌++◌, length, slice_get, slice_index, true}, List.list_all}
use Rattle.marple_base.specs.declared.field.TheConstants.{FIELDS}
use Rattle.query_lang.specs.{declared.{fold.TypedFold.TypedFold, typed.TypedQuery.TypedQuery}, TypedQueries.IsValidQuery}
use Rattle.fold_class.specs.Program.{IsProgramOf}
use Rattle.epoch_model.specs.{Driving.Taken, Keys.{ArgRow, Key}}
use Rattle.stage_plan.specs.{declared.group.GroupPlan.GroupPlan, Packets.AreWhole, Planned.{IsPlanOf, taken}, Sound.PlanParts}
use Rattle.net_wide.specs.{Combining.net_fault, NetLaws.TellsSwitches, NetTables.{caches_of, switch_in}}
use Rattle.net_wide.specs.NetEnds.{AreSwitchesNumbered, closed_pieces}
use Rattle.network.specs.{Groups.group_is_drained, Networks.NetworkView}
use Rattle.network.specs.Running.{Evicts, Merges, NetworkEvent, NetworkStands, Takes, all_given}

-- the packets that were taken, in order
abbrev pub packets_taken : List NetworkEvent → List (List ℕ)
packets_taken [] = []
packets_taken (Takes switch words ∷ events) = words ∷ packets_taken events
packets_taken (Evicts switch lane bucket ∷ events) = packets_taken events
packets_taken (Merges switch lane ∷ events) = packets_taken events

-- each of them was taken by the switch that has the number of the packet's switch
abbrev pub AreAtTheirSwitches : (ℕ → ℕ) → List NetworkEvent → Type 0
AreAtTheirSwitches number [] = Unit {0}
AreAtTheirSwitches number (Takes switch words ∷ events) = (switch ≡ number (switch_in words)) × AreAtTheirSwitches number events
AreAtTheirSwitches number (Evicts switch lane bucket ∷ events) = AreAtTheirSwitches number events
AreAtTheirSwitches number (Merges switch lane ∷ events) = AreAtTheirSwitches number events

-- A query whose groupbys all combine, with its plan, and events that take whole packets, each at its switch's number.
pub record CombineOver (q : TypedQuery) (plan : PlanParts) (number : ℕ → ℕ) (events : List NetworkEvent) : Type 0 where
  pub valid : IsValidQuery q
  pub combine : net_fault q ≡ None
  pub tells : TellsSwitches q
  pub planned : IsPlanOf q plan
  pub whole : AreWhole (packets_taken events)
  pub numbered : AreSwitchesNumbered number (packets_taken events)
  pub switches : AreAtTheirSwitches number events

-- by groupby and key, the row lists that the machines of all switches closed
abbrev pub pieces_closed : (ℕ → ℕ) → ℕ → NetworkView → List NetworkEvent → ℕ → Key → List (List ArgRow)
pieces_closed number ways net events i =
    closed_pieces number (caches_of net.buckets ways) (all_given net.plan i events) (packets_taken events)

-- no eviction is among these events
abbrev pub NoEviction : List NetworkEvent → Type 0
NoEviction [] = Unit {0}
NoEviction (Takes switch words ∷ events) = NoEviction events
NoEviction (Evicts switch lane bucket ∷ events) = ⊥
NoEviction (Merges switch lane ∷ events) = NoEviction events

-- No eviction is called for before the last packet.
pub record EvictsLast (events : List NetworkEvent) : Type 0 where
  pub first : List NetworkEvent
  pub rest : List NetworkEvent
  pub parts : events ≡ first ++ rest
  pub before : NoEviction first
  pub after : packets_taken rest ≡ []

-- Of these events those that take packets of the switch with this word take them at this switch.
abbrev pub AreTakenAt : ℕ → ℕ → List NetworkEvent → Type 0
AreTakenAt at word [] = Unit {0}
AreTakenAt at word (Takes switch words ∷ events) = (switch_in words ≡ word → switch ≡ at) × AreTakenAt at word events
AreTakenAt at word (Evicts switch lane bucket ∷ events) = AreTakenAt at word events
AreTakenAt at word (Merges switch lane ∷ events) = AreTakenAt at word events

-- at this place the groupby's keys have the switch of the packet that they are taken from
abbrev pub IsSwitchPlace : PlanParts → ℕ → ℕ → Type 0
IsSwitchPlace plan n j = (words : List ℕ) (t : Taken) → length words ≡ FIELDS → taken plan n words ≡ Some t
    → slice_index t.key j ≡ switch_in words

-- A drained network represents these events, and this is the fold of its groupby with this number.
pub record IsDrainedWith (ways : ℕ) (net : NetworkView) (n : ℕ) (f : TypedFold) (events : List NetworkEvent) : Type 0 where
  pub part : GroupPlan
  pub there : slice_get net.plan.groups n ≡ Some part
  pub program : IsProgramOf f part.program
  pub stands : NetworkStands ways net events
  pub drained : list_all group_is_drained net.groups ≡ true
