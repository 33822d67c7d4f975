-- Words with an absent element as coefficients.
use Rattle.std.specs.Prelude.{ℕ, ◌+◌, ◌-◌, ◌^◌, min, max, ◌==◌, if◌then◌else◌, List, [], ◌∷◌, slice_index}
use Rattle.query_lang.specs.Words.{IsWord}
use Rattle.coeff_algebra.specs.{Elements.Elements, declared.max_plus.MaxPlus64.{MaxPlus64, TheVariants.{Absent, Word}}}

abbrev pub max_plus_embed : ℕ → MaxPlus64
max_plus_embed n = Word n

abbrev pub max_plus_to_word : MaxPlus64 → ℕ
max_plus_to_word Absent = 0
max_plus_to_word (Word a) = a

abbrev pub IsMaxPlus : MaxPlus64 → Type 0
IsMaxPlus Absent = Unit {0}
IsMaxPlus (Word a) = IsWord a

abbrev pub max_plus_zero : MaxPlus64
max_plus_zero = Absent

abbrev pub max_plus_one : MaxPlus64
max_plus_one = Word 0

-- the greater, with the absent element below all
abbrev pub max_plus_add : MaxPlus64 → MaxPlus64 → MaxPlus64
max_plus_add Absent y = y
max_plus_add (Word a) Absent = Word a
max_plus_add (Word a) (Word b) = Word (max a b)

-- the sum that saturates, absent where either is
abbrev pub max_plus_mul : MaxPlus64 → MaxPlus64 → MaxPlus64
max_plus_mul Absent y = Absent
max_plus_mul (Word a) Absent = Absent
max_plus_mul (Word a) (Word b) = Word (min (a + b) (2 ^ 64 - 1))

abbrev pub max_plus_words : MaxPlus64 → List ℕ
max_plus_words Absent = 0 ∷ 0 ∷ []
max_plus_words (Word a) = 1 ∷ a ∷ []

abbrev pub max_plus_from_words : List ℕ → MaxPlus64
max_plus_from_words ws = if slice_index ws 0 == 0 then Absent else Word (slice_index ws 1)

abbrev pub max_plus_elements : Elements MaxPlus64
max_plus_elements = record {
  zero = max_plus_zero;
  one = max_plus_one;
  add = max_plus_add;
  mul = max_plus_mul;
  embed = max_plus_embed;
  to_word = max_plus_to_word;
}
