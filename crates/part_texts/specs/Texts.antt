-- The texts of the parts that a trace is split into.
use Rattle.std.specs.Prelude.{ℕ, ◌==◌, List, [], ◌∷◌, ◌++◌, filter, flat_map, map, slice_index}
use Rattle.epoch_model.specs.Keys.{bucket_of}
use Rattle.marple_base.specs.{Field.{all_fields, field_name, has_field, number_of}, declared.field.Field.{Field, TheVariants.Uid}}
use Rattle.marple_base.specs.declared.field.{FieldSet.FieldSet, Packet.Packet}
use Rattle.queue_sim.specs.TraceText.{fields_line, line}

-- the fields of a set, in the order of the fields
abbrev pub fields_in : FieldSet → List Field
fields_in fields = filter (has_field fields) all_fields

abbrev pub one_at_least : List Field → List Field
one_at_least [] = Uid ∷ []
one_at_least (field ∷ fields) = field ∷ fields

-- the columns of a part: the fields that are read; where none is, one column all the same, since a record has one at least
abbrev pub written_fields : FieldSet → List Field
written_fields reads = one_at_least (fields_in reads)

-- the packet's words of these fields
abbrev pub field_words : List Field → List ℕ → List ℕ
field_words fields words = map (λ field. slice_index words (number_of field)) fields

-- a header of these fields, and a line for each packet
abbrev pub lines_of : List Field → List Packet → List ℕ
lines_of fields packets = line (map field_name fields) ++ flat_map (λ packet. fields_line fields packet.words) packets

-- The text of packets of which these fields are read.
abbrev pub fields_text : FieldSet → List Packet → List ℕ
fields_text reads packets = lines_of (written_fields reads) packets

-- the part that a packet with these words goes to, by a hash of its words of the fields, begun with the salt
abbrev pub part_by_hash : List Field → ℕ → ℕ → List ℕ → ℕ
part_by_hash fields salt parts words = bucket_of parts (salt ∷ field_words fields words)

-- the packets of a part, in order
abbrev pub packets_of_part : (List ℕ → ℕ) → ℕ → List Packet → List Packet
packets_of_part partition n packets = filter (λ packet. partition packet.words == n) packets

-- The text of a part.
abbrev pub part_text : FieldSet → (List ℕ → ℕ) → ℕ → List Packet → List ℕ
part_text reads partition n packets = fields_text reads (packets_of_part partition n packets)
