-- How the fields of `KeptPackets` show its packets.
use Rattle.std.specs.Prelude.{◌≡◌, ◌*◌, ℕ, zero, suc, List, [], ◌∷◌, drop, length}
use Rattle.trace_drive.specs.{Kept.{Kept, fields_kept, packet_in}, declared.kept.KeptPackets.TheInside.Inside}
use Rattle.marple_base.specs.declared.field.{Field.Field, Packet.Packet}

-- this many packets, each of as many words as there are fields
unfoldable pub packets_in : List Field → ℕ → List ℕ → List Packet
packets_in fields zero words = []
packets_in fields (suc count) words = packet_in fields words ∷ packets_in fields count (drop (length fields) words)

abbrev pub kept_in : Inside → Kept
kept_in kept = record { fields = kept.of; packets = packets_in kept.fields.items kept.count kept.words }

-- the fields are those of the set, and each packet has a word for each of them
pub record IsSound (kept : Inside) : Type 0 where
  pub fields : kept.fields.items ≡ fields_kept kept.of
  pub words : length kept.words ≡ kept.count * length kept.fields.items
