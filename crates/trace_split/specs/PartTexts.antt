-- What `PartTexts` holds of the packets that were sent.
use Rattle.std.specs.Prelude.{◌≡◌, ℕ, ◌<◌, ◌≤◌, List, length}
use Rattle.marple_base.specs.declared.field.{FieldSet.FieldSet, Packet.Packet, TheConstants.FIELDS}
use Rattle.trace_split.specs.{Holding.{Holds, Taken}, declared.{splitting.Splitting.Splitting, texts.PartTexts.PartTexts}}
use Rattle.part_texts.specs.Texts.{fields_in, lines_of, packets_of_part, part_by_hash, written_fields}

abbrev pub parts_of : PartTexts → ℕ
parts_of texts = texts.parts

-- the part of a packet with these words
abbrev pub partition_of : PartTexts → List ℕ → ℕ
partition_of texts = part_by_hash texts.by.items texts.salt texts.parts

-- the text of each part of these packets
abbrev pub texts_of : PartTexts → List Packet → ℕ → List ℕ
texts_of texts sent n = lines_of texts.columns.items (packets_of_part (partition_of texts) n sent)

-- there is a buffer for each part, and a line has room
pub record is_setting (texts : PartTexts) : Type 0 where
  pub parts : 0 < texts.parts
  pub buffers : length texts.waiting.items ≡ texts.parts
  pub some : 0 < length texts.columns.items
  pub few : length texts.columns.items ≤ FIELDS
  pub few_keys : length texts.by.items ≤ FIELDS

-- the same columns and parts
pub record SameSetting (old new : PartTexts) : Type 0 where
  pub columns : new.columns ≡ old.columns
  pub by : new.by ≡ old.by
  pub salt : new.salt ≡ old.salt
  pub parts : new.parts ≡ old.parts
  pub buffers : length new.waiting.items ≡ length old.waiting.items

-- of these read fields and this splitting
pub record IsOf (reads : FieldSet) (splitting : Splitting) (texts : PartTexts) : Type 0 where
  pub columns : texts.columns.items ≡ written_fields reads
  pub by : texts.by.items ≡ fields_in splitting.by
  pub salt : texts.salt ≡ splitting.salt
  pub parts : texts.parts ≡ splitting.parts
  pub setting : is_setting texts

-- the sinks have taken the texts of these packets but for what waits
abbrev pub HoldsPackets : Taken → Taken → PartTexts → List Packet → Type 0
HoldsPackets old new texts sent = Holds old new texts.waiting.items (texts_of texts sent)
