-- Words modulo 2^64 as coefficients.
use Rattle.std.specs.Prelude.{ℕ, ◌+◌, ◌*◌, ◌%◌, ◌^◌, List, [], ◌∷◌, slice_index}
use Rattle.query_lang.specs.Words.{IsWord}
use Rattle.coeff_algebra.specs.{Elements.Elements, declared.wrapping.Wrapping64.Wrapping64}

abbrev pub wrapping_embed : ℕ → Wrapping64
wrapping_embed n = record { word = n }

abbrev pub wrapping_to_word : Wrapping64 → ℕ
wrapping_to_word x = x.word

abbrev pub IsWrapping : Wrapping64 → Type 0
IsWrapping x = IsWord x.word

abbrev pub wrapping_zero : Wrapping64
wrapping_zero = wrapping_embed 0

abbrev pub wrapping_one : Wrapping64
wrapping_one = wrapping_embed 1

abbrev pub wrapping_add : Wrapping64 → Wrapping64 → Wrapping64
wrapping_add x y = wrapping_embed ((x.word + y.word) % 2 ^ 64)

abbrev pub wrapping_mul : Wrapping64 → Wrapping64 → Wrapping64
wrapping_mul x y = wrapping_embed ((x.word * y.word) % 2 ^ 64)

abbrev pub wrapping_words : Wrapping64 → List ℕ
wrapping_words x = x.word ∷ []

abbrev pub wrapping_from_words : List ℕ → Wrapping64
wrapping_from_words ws = wrapping_embed (slice_index ws 0)

abbrev pub wrapping_elements : Elements Wrapping64
wrapping_elements = record {
  zero = wrapping_zero;
  one = wrapping_one;
  add = wrapping_add;
  mul = wrapping_mul;
  embed = wrapping_embed;
  to_word = wrapping_to_word;
}
