-- Laws of the texts of parts.
use Rattle.std.specs.Prelude.{◌≡◌, ℕ, ◌≤◌, if◌then◌else◌, List, length, map, None, slice_index}
use Rattle.marple_base.specs.{Field.{all_fields, has_field, number_of}, declared.field.{Field.Field, FieldSet.FieldSet, Packet.Packet}}
use Rattle.trace_reader.specs.{Traces.{packets, trace_fault}, declared.fault.TheConstants.{MAX_RECORDS, MAX_TRACE}}
use Rattle.queue_sim.specs.ReadBack.{ArePackets}
use Rattle.part_texts.specs.Texts.{fields_text}

-- the word of a field of these words, 0 where the field isn't read
abbrev pub word_if_read : FieldSet → List ℕ → Field → ℕ
word_if_read reads words field = if has_field reads field then slice_index words (number_of field) else 0

-- the packet with 0 in the fields that aren't read, as a trace of which they aren't read gives it
abbrev pub as_read : FieldSet → Packet → Packet
as_read reads packet = record { words = map (word_if_read reads packet.words) all_fields }

-- The text of packets, of which these fields are read, contains these packets, with 0 in the other fields, and no fault, where
-- there are not too many of them and the text is not too long for one run.
abbrev pub FieldTextsReadBack : Type 0
FieldTextsReadBack = (reads : FieldSet) (sent : List Packet) → ArePackets sent
    → length sent ≤ MAX_RECORDS → length (fields_text reads sent) ≤ MAX_TRACE
    → (packets (fields_text reads sent) reads ≡ map (as_read reads) sent) × (trace_fault (fields_text reads sent) reads ≡ None)
