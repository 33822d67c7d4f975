-- Names and numbers as a trace writes them.
use Rattle.std.specs.Prelude.{ℕ, Bool, ◌+◌, ◌-◌, ◌*◌, ◌^◌, ◌==◌, ◌&&◌, ◌||◌, nat_lt, nat_le, if◌then◌else◌, List, [], ◌∷◌, length, codes}
use Rattle.std.specs.{Prelude.{Option, Some, None}, Char.is_ascii_digit, List.{list_all, slice_split}, Option.{option_and_then, option_map}}
use Rattle.std.specs.Str.{bytes_eq, Parse.digits_value}
use Rattle.marple_base.specs.declared.field.Field.{Field}
use Rattle.marple_base.specs.declared.field.Field.TheVariants as f

-- a space or a tab
abbrev pub is_field_blank : ℕ → Bool
is_field_blank byte = (byte == 32) || (byte == 9)

-- a text without the blanks at its start
abbrev pub without_first_blanks : List ℕ → List ℕ
without_first_blanks [] = []
without_first_blanks (byte ∷ rest) = if is_field_blank byte then without_first_blanks rest else byte ∷ rest

-- a byte before a text that has no blanks at its end, without those at the new end
abbrev pub before_last_blanks : ℕ → List ℕ → List ℕ
before_last_blanks byte [] = if is_field_blank byte then [] else byte ∷ []
before_last_blanks byte (next ∷ rest) = byte ∷ next ∷ rest

-- a text without the blanks at its end
abbrev pub without_last_blanks : List ℕ → List ℕ
without_last_blanks [] = []
without_last_blanks (byte ∷ rest) = before_last_blanks byte (without_last_blanks rest)

-- a text without the blanks at its ends
abbrev pub without_blanks : List ℕ → List ℕ
without_blanks text = without_last_blanks (without_first_blanks text)

-- a number of 1 to `most` digits, if it is below the limit
abbrev pub number_below : ℕ → ℕ → List ℕ → Option ℕ
number_below most limit text =
    if nat_lt 0 (length text) && nat_le (length text) most && list_all is_ascii_digit text && nat_lt (digits_value 10 text) limit
    then Some (digits_value 10 text) else None

abbrev pub decimal_word : List ℕ → Option ℕ
decimal_word text = number_below 20 (2 ^ 64) text

abbrev pub octet_word : List ℕ → Option ℕ
octet_word text = number_below 3 256 text

abbrev pub is_dot : ℕ → Bool
is_dot byte = byte == 46

-- four octets as one word, the first the most significant
abbrev pub quad_of : List (List ℕ) → Option ℕ
quad_of [] = None
quad_of (a ∷ []) = None
quad_of (a ∷ b ∷ []) = None
quad_of (a ∷ b ∷ c ∷ []) = None
quad_of (a ∷ b ∷ c ∷ d ∷ []) =
    option_and_then (λ w. option_and_then
    (λ x. option_and_then (λ y. option_map (λ z. ((w * 256 + x) * 256 + y) * 256 + z) (octet_word d)) (octet_word c))
    (octet_word b)) (octet_word a)
quad_of (a ∷ b ∷ c ∷ d ∷ e ∷ rest) = None

-- four octets separated by dots
abbrev pub quad_word : List ℕ → Option ℕ
quad_word text = quad_of (slice_split is_dot text)

abbrev pub infinity_word : List ℕ → Option ℕ
infinity_word text = if bytes_eq text (codes "inf") then Some (2 ^ 64 - 1) else None

-- the further form that some fields have
abbrev pub further_word : Field → List ℕ → Option ℕ
further_word f.Switch text = None
further_word f.Qid text = None
further_word f.Uid text = None
further_word f.SrcIp text = quad_word text
further_word f.DstIp text = quad_word text
further_word f.SrcPort text = None
further_word f.DstPort text = None
further_word f.Proto text = None
further_word f.PktLen text = None
further_word f.PayloadLen text = None
further_word f.TcpSeq text = None
further_word f.Tin text = None
further_word f.Tout text = infinity_word text
further_word f.QSize text = None

abbrev pub first_some : Option ℕ → Option ℕ → Option ℕ
first_some (Some n) other = Some n
first_some None other = other

-- the word of a field's text, if the text is in the field's form
abbrev pub word_of_text : Field → List ℕ → Option ℕ
word_of_text field text = first_some (decimal_word text) (further_word field text)
