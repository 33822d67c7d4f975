-- Packets of which only some fields are kept.
use Rattle.std.specs.Prelude.{◌*◌, ℕ, List, [], ◌∷◌, filter, get_or, length, map, replicate, set, if◌then◌else◌}
use Rattle.marple_base.specs.{Field.{all_fields, has_field, number_of}, declared.field.{Field.Field, FieldSet.FieldSet, Packet.Packet}}
use Rattle.marple_base.specs.declared.field.TheConstants.{FIELDS}

-- the fields that are kept, and the packets, which have 0 in all others
pub record Kept : Type 0 where
  pub fields : FieldSet
  pub packets : List Packet

-- those of these fields that are in the set
unfoldable pub fields_among : List Field → FieldSet → List Field
fields_among fields set = filter (has_field set) fields

-- the fields of a set, in their order
abbrev pub fields_kept : FieldSet → List Field
fields_kept set = fields_among all_fields set

-- a field's word
abbrev pub word_in : Packet → Field → ℕ
word_in packet field = get_or packet.words (number_of field) 0

-- the packet with 0 in the fields that aren't in the set
unfoldable pub kept_of : FieldSet → Packet → Packet
kept_of set packet = record { words = map (λ field. if has_field set field then word_in packet field else 0) all_fields }

-- a packet's words, where those of these fields are replaced
abbrev pub written : List Field → List ℕ → List ℕ → List ℕ
written [] words old = old
written (field ∷ fields) [] old = old
written (field ∷ fields) (word ∷ words) old = written fields words (set old (number_of field) word)

-- the packet in which these fields have these words, and all others 0
abbrev pub packet_in : List Field → List ℕ → Packet
packet_in fields words = record { words = written fields words (replicate FIELDS 0) }

-- the number of words that the packets take
abbrev pub kept_words : Kept → ℕ
kept_words kept = length kept.packets * length (fields_kept kept.fields)
