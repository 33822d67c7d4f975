-- The law of ranges.
use Rattle.std.specs.Prelude.{◌≡◌, ◌≤◌, ℕ, List, [], ◌∷◌, ◌++◌, None, length, ⊤}
use Rattle.marple_base.specs.declared.field.{FieldSet.FieldSet, Packet.Packet}
use Rattle.trace_pieces.specs.Wholes.{all_contents, all_packets, first_fault}
use Rattle.trace_ranges.specs.Ranges.{range_text}

-- Bounds that ascend from the first one to the end of a text or beyond it. Each range begins where the one before it ends.
abbrev pub AreBounds : List ℕ → ℕ → List ℕ → Type 0
AreBounds text from [] = length text ≤ from
AreBounds text from (to ∷ more) = (from ≤ to) × AreBounds text to more

module _ (text : List ℕ) (reads : FieldSet) where
  -- the packets of the ranges, one range after the other
  abbrev pub packets_of_ranges : ℕ → List ℕ → List Packet
  packets_of_ranges from [] = []
  packets_of_ranges from (to ∷ more) = all_packets (range_text from to text) reads ++ packets_of_ranges to more

  -- no range has a fault
  abbrev pub NoneIsFaulty : ℕ → List ℕ → Type 0
  NoneIsFaulty from [] = ⊤
  NoneIsFaulty from (to ∷ more) = (first_fault (range_text from to text) reads ≡ None) × NoneIsFaulty to more

-- Where no range has a fault, the trace has none, and its packets are those of the ranges.
abbrev pub RangesAreTheTrace : Type 0
RangesAreTheTrace = (text : List ℕ) (reads : FieldSet) (to : ℕ) (more : List ℕ) → AreBounds text 0 (to ∷ more)
    → NoneIsFaulty text reads 0 (to ∷ more)
    → all_contents text reads ≡ record { packets = packets_of_ranges text reads 0 (to ∷ more); fault = None }
