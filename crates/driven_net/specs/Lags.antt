-- The clocks of the switches' lags: when the lanes of a switch merge.
use Rattle.std.specs.Prelude.{◌≡◌, ◌≢◌, ◌+◌, ◌==◌, ℕ, suc, List, [], ◌∷◌, length, slice_get, Some, if◌then◌else◌}
use Rattle.trace_drive.specs.{Clocks.HasCounted, declared.clock.Clock.Clock}
use Rattle.network.specs.Running.{Evicts, Merges, NetworkEvent, Takes}

-- a clock for each of 64 switches, which is due at each multiple of the lag and counts the packets of its switch
pub record AreLagClocks (lag : ℕ) (clocks : List Clock) : Type 0 where
  pub count : length clocks ≡ 64
  pub lags : (at : ℕ) (clock : Clock) → slice_get clocks at ≡ Some clock → clock.every ≡ lag
  pub counted : (at : ℕ) (clock : Clock) → slice_get clocks at ≡ Some clock → (number : ℕ) × HasCounted number clock

-- The clock of this switch counts a packet, and all others are unchanged.
pub record CountsAt (at : ℕ) (olds news : List Clock) : Type 0 where
  pub own : (number : ℕ) (old : Clock) → slice_get olds at ≡ Some old → HasCounted number old
      → (new : Clock) × (slice_get news at ≡ Some new) × HasCounted (suc number) new
  pub others : (other : ℕ) → other ≢ at → slice_get news other ≡ slice_get olds other

-- how many packets this switch took
abbrev pub taken_by : ℕ → List NetworkEvent → ℕ
taken_by at [] = 0
taken_by at (Takes switch words ∷ events) = (if switch == at then 1 else 0) + taken_by at events
taken_by at (Evicts switch lane bucket ∷ events) = taken_by at events
taken_by at (Merges switch lane ∷ events) = taken_by at events

-- each clock counted the packets that its switch took
abbrev pub HaveCounted : List NetworkEvent → List Clock → Type 0
HaveCounted events clocks = (at : ℕ) (clock : Clock) → slice_get clocks at ≡ Some clock → HasCounted (taken_by at events) clock
