-- A trace that was written reads back.
use Rattle.std.specs.Prelude.{ℕ, ◌≡◌, ◌<◌, ◌≤◌, ◌^◌, ⊤, List, [], ◌∷◌, length, None}
use Rattle.marple_base.specs.{Field.HasField, declared.field.{Field.Field, FieldSet.FieldSet, Packet.Packet, TheConstants.FIELDS}}
use Rattle.trace_reader.specs.{Traces.{packets, trace_fault}, declared.fault.TheConstants.{MAX_RECORDS, MAX_TRACE}}
use Rattle.queue_sim.specs.TraceText.{trace_text}

abbrev pub ArePacketWords : List ℕ → Type 0
ArePacketWords [] = ⊤
ArePacketWords (word ∷ words) = (word < 2 ^ 64) × ArePacketWords words

-- each packet has a word for each field, as every packet of the program has
abbrev pub ArePackets : List Packet → Type 0
ArePackets [] = ⊤
ArePackets (packet ∷ packets) = (length packet.words ≡ FIELDS) × ArePacketWords packet.words × ArePackets packets

-- The text of packets, with all fields read, contains these packets and no fault, if there are not too many of them
-- and the text is not too long for a trace.
abbrev pub TextsReadBack : Type 0
TextsReadBack = (sent : List Packet) (reads : FieldSet) → ArePackets sent → ((field : Field) → HasField reads field)
    → length sent ≤ MAX_RECORDS → length (trace_text sent) ≤ MAX_TRACE
    → (packets (trace_text sent) reads ≡ sent) × (trace_fault (trace_text sent) reads ≡ None)
