-- That the order of packets of different switches makes no difference, for each accepted text whose groupbys combine.
use Rattle.std.specs.Prelude.{◌≡◌, ◌≢◌, ℕ, List, ◌∷◌, ◌++◌, None, Ok}
use Rattle.query_lang.specs.declared.typed.TypedQuery.{TypedQuery}
use Rattle.stage_plan.specs.Packets.{AreWhole}
use Rattle.accepted_query.specs.Accepted.{accepted}
use Rattle.net_wide.specs.{Combining.net_fault, NetLaws.{SameOfEachSwitch, TellsSwitches}, NetTables.{switch_in, net_text}}

-- In each accepted text a groupby's key named `switch` is the packet's switch, unless some `map` makes a column of that name; and
-- the state variables start as words.
abbrev pub AcceptedTellSwitches : Type 0
AcceptedTellSwitches = (text : List ℕ) (q : TypedQuery) → accepted text ≡ Ok q → TellsSwitches q

-- Where every groupby of an accepted text combines, two lists that have the same packets of each switch in the same order are
-- printed as the same text, whatever the order of packets of different switches.
abbrev pub SwitchOrderIsFree : Type 0
SwitchOrderIsFree = (text : List ℕ) (q : TypedQuery) (buckets ways : ℕ) (packets other : List (List ℕ))
    → accepted text ≡ Ok q → net_fault q ≡ None → AreWhole packets → AreWhole other → SameOfEachSwitch packets other
    → net_text q buckets ways packets ≡ net_text q buckets ways other

-- So two neighbouring packets of different switches can be exchanged.
abbrev pub NeighboursMayChangePlaces : Type 0
NeighboursMayChangePlaces = (text : List ℕ) (q : TypedQuery) (buckets ways : ℕ) (front back : List (List ℕ)) (a b : List ℕ)
    → accepted text ≡ Ok q → net_fault q ≡ None → AreWhole (front ++ a ∷ b ∷ back) → switch_in a ≢ switch_in b
    → net_text q buckets ways (front ++ a ∷ b ∷ back) ≡ net_text q buckets ways (front ++ b ∷ a ∷ back)
