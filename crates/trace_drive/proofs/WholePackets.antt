-- The packets of a trace have the words of all fields.
use Rattle.std.{proofs.{Common.{◌≡◌, ℕ, List, length, sym, ◌∙◌}, lemmas.List.Elements.All-map}, specs.List.zip}
use Rattle.marple_base.specs.{Field.all_fields, declared.field.{FieldSet.FieldSet, Packet.Packet, TheConstants.FIELDS}}
use Rattle.stage_plan.specs.Packets.{AreWhole}
use Rattle.trace_drive.specs.Drives as drives
use Rattle.trace_drive.proofs.EachPacket.{HoldsOfRead, each_long, each_packet, zip_long}
use Rattle.trace_reader.specs.Traces.{column_of_field, packets, word_at}

pub is_long : (reads : FieldSet) → HoldsOfRead reads (λ packet. length packet.words ≡ FIELDS)
is_long reads header fields columns packet c w =
    let wide = each_long (column_of_field reads header) all_fields columns c in
    each_long (λ p. word_at fields p.0 p.1) (zip all_fields columns) packet.words w ∙ zip_long all_fields columns (sym wide)

pub read_whole : (text : List ℕ) (reads : FieldSet) → AreWhole (drives.words_of (packets text reads))
read_whole text reads =
    All-map (λ words. length words ≡ FIELDS) (λ (packet : Packet). packet.words) (packets text reads)
    (each_packet (λ packet. length packet.words ≡ FIELDS) text reads (is_long reads))
