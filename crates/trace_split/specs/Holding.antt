-- What the sinks of all parts have taken of the parts' texts, of which the last bytes wait.
use Rattle.std.specs.{Prelude.{◌≡◌, ℕ, ◌<◌, List, Option, Some, slice_get}, Io.KnownBytes.Appends}
use Rattle.marple_base.specs.{Sink.TakesFront, Pieces.TakesAllBut}

-- the bytes that the sink of each part has taken, where they are known
abbrev pub Taken : Type 0
Taken = ℕ → Option (List ℕ)

-- each sink has taken its text but for what waits
pub record Holds (old new : Taken) (waiting : List (List ℕ)) (texts : ℕ → List ℕ) : Type 0 where
  pub each : (n : ℕ) (bytes : List ℕ) → slice_get waiting n ≡ Some bytes → TakesAllBut (old n) (new n) bytes (texts n)

-- the sinks of these parts have taken a prefix of their texts
abbrev pub TakeFronts : ℕ → Taken → Taken → (ℕ → List ℕ) → Type 0
TakeFronts parts old new texts = (n : ℕ) → n < parts → TakesFront (old n) (new n) (texts n)

-- the sinks of these parts have taken exactly their texts
abbrev pub TakeTexts : ℕ → Taken → Taken → (ℕ → List ℕ) → Type 0
TakeTexts parts old new texts = (n : ℕ) → n < parts → Appends (old n) (new n) (texts n)
