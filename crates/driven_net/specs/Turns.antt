-- The turns of a trace's packets at a network: which events it makes, and no others.
use Rattle.std.specs.Prelude.{◌≡◌, ◌<◌, ℕ, suc, List, [], ◌∷◌, ◌++◌, length}
use Rattle.epoch_model.specs.Epochs.{is_refresh}
use Rattle.net_wide.specs.{NetTables.{packets_at, switch_in}, Numbering.{place_among, with_switch}}
use Rattle.network.specs.{Networks.{NetworkGrows, NetworkView}, Running.{NetworkRuns, turn_events}}

-- these switches, and after them the others of the packets, by first appearance
abbrev pub known_after : List ℕ → List (List ℕ) → List ℕ
known_after known [] = known
known_after known (words ∷ packets) = known_after (with_switch known (switch_in words)) packets

-- A network meets a packet of a switch: one that is new gets caches and pipes, and otherwise nothing changes.
pub record Meets (ways : ℕ) (known : List ℕ) (switch : ℕ) (old met : NetworkView) : Type 0 where
  pub old_switch : place_among known switch < length known → met ≡ old
  pub new_switch : place_among known switch ≡ length known → NetworkGrows ways old met

-- A packet with these words after others: its switch has caches and pipes, and the network makes the events of the packet's turn, and
-- no others. The lag is over where the packet's number among those of its switch is a multiple of it.
abbrev pub MakesTurn : ℕ → ℕ → List (List ℕ) → List ℕ → NetworkView → NetworkView → Type 0
MakesTurn ways lag before words old new =
    let switch = switch_in words in
    let known = known_after [] before in
    (met : NetworkView) × Meets ways known switch old met
    × NetworkRuns ways (turn_events (place_among (with_switch known switch) switch) words
    (is_refresh lag (suc (length (packets_at switch before)))) met) met new

-- The turns of these packets after others, in order.
abbrev pub MakesTurns : ℕ → ℕ → List (List ℕ) → List (List ℕ) → NetworkView → NetworkView → Type 0
MakesTurns ways lag before [] old new = new ≡ old
MakesTurns ways lag before (words ∷ packets) old new = (middle : NetworkView) × MakesTurn ways lag before words old middle
    × MakesTurns ways lag (before ++ words ∷ []) packets middle new
