-- Packets of which only some fields are read.
use Rattle.std.specs.Prelude.{ℕ, List, [], ◌∷◌, map, if◌then◌else◌}
use Rattle.marple_base.specs.{Field.{all_fields, has_field}, declared.field.{Field.Field, FieldSet.FieldSet, Packet.Packet}}

-- the words of these fields, with 0 for each field that isn't in the set
abbrev pub zeroed : FieldSet → List Field → List ℕ → List ℕ
zeroed reads (field ∷ fields) (word ∷ words) = (if has_field reads field then word else 0) ∷ zeroed reads fields words
zeroed reads _ _ = []

-- the packet with 0 in the fields that aren't read
abbrev pub as_read : FieldSet → Packet → Packet
as_read reads packet = record { words = zeroed reads all_fields packet.words }

abbrev pub all_as_read : FieldSet → List Packet → List Packet
all_as_read reads packets = map (as_read reads) packets
