-- The words of packets.
use Rattle.std.specs.Prelude.{◌≡◌, ℕ, List, length, All}
use Rattle.marple_base.specs.declared.field.TheConstants.{FIELDS}

-- the packets have a word for each field
abbrev pub AreWhole : List (List ℕ) → Type 0
AreWhole packets = All (λ words. length words ≡ FIELDS) packets
