-- A network that has taken the packets of a trace.
use Rattle.std.specs.Prelude.{◌≡◌, ℕ, ◌<◌, List, length}
use Rattle.net_wide.specs.{Numbering.place_among, NetEnds.IsSeen}
use Rattle.network.specs.{Ends.{AreAtTheirSwitches, NoEviction, packets_taken}, Networks.NetworkView, Running.{NetworkEvent, NetworkStands}}

-- The network's switches are these, by their numbers, and all switches of the packets are among them. It represents events that take
-- the packets, each at the number of its switch, with merges among them.
pub record NetFollows (ways : ℕ) (known : List ℕ) (packets : List (List ℕ)) (net : NetworkView) : Type 0 where
  pub switches : net.switches ≡ length known
  pub all_known : (switch : ℕ) → IsSeen switch packets → place_among known switch < length known
  pub events : List NetworkEvent
  pub stands : NetworkStands ways net events
  pub takes : packets_taken events ≡ packets
  pub theirs : AreAtTheirSwitches (place_among known) events
  pub none : NoEviction events
