-- The text of a trace: a header with the names of all fields, and a line for each packet.
use Rattle.std.specs.Prelude.{ℕ, ◌-◌, ◌^◌, ◌==◌, List, [], ◌∷◌, ◌++◌, codes, decimal, flat_map, if◌then◌else◌, map, slice_index}
use Rattle.marple_base.specs.{Field.{all_fields, field_name, number_of}, declared.field.{Field.{Field, TheVariants.Tout}, Packet.Packet}}

-- a word of a field: the time at which a dropped packet leaves is infinite
abbrev pub word_text : Field → ℕ → List ℕ
word_text Tout word = if word == 2 ^ 64 - 1 then codes "inf" else decimal word
word_text field word = decimal word

-- the texts of a packet's words of these fields
abbrev pub word_texts : List ℕ → List Field → List (List ℕ)
word_texts words fields = map (λ field. word_text field (slice_index words (number_of field))) fields

-- further parts, each with a comma before it
abbrev pub continued : List (List ℕ) → List ℕ
continued [] = []
continued (part ∷ parts) = 44 ∷ (part ++ continued parts)

-- the parts with a comma between each two
abbrev pub joined : List (List ℕ) → List ℕ
joined [] = []
joined (part ∷ parts) = part ++ continued parts

abbrev pub line : List (List ℕ) → List ℕ
line parts = joined parts ++ 10 ∷ []

abbrev pub header : List (List ℕ)
header = map field_name all_fields

-- the line of a packet with these words
abbrev pub fields_line : List Field → List ℕ → List ℕ
fields_line fields words = line (word_texts words fields)

abbrev pub packet_texts : Packet → List (List ℕ)
packet_texts packet = word_texts packet.words all_fields

-- The text of the packets.
abbrev pub trace_text : List Packet → List ℕ
trace_text packets = line header ++ flat_map (λ packet. line (packet_texts packet)) packets
