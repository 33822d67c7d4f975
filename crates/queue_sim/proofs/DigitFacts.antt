-- What a reader makes of decimal digits.
use Rattle.std.proofs.Common.{◌≡◌, ℕ, ◌-◌, ◌^◌, ◌<◌, ◌≤◌, true, false, List, [], ◌∷◌, Some, refl, sym, ap, ◌∙◌, inl, inr, arith}
use Rattle.std.proofs.lemmas.{Bool.{ne_eqb, Decides.{eqb_tells, nat_tests}}, Fmt.{decimal_is_IsNumeral, length-decimal-le}}
use Rattle.std.{proofs.lemmas.Str.Parse.digit_at, specs.{Prelude.{◌==◌, decimal}, Char.is_ascii_digit, List.{list_all, list_any}}}
use Rattle.std.specs.Str.Parse.{AllDigits, digits_value}
use Rattle.csv.specs.{Quoting.needs_byte, Writing.default_writer}
use Rattle.trace_reader.specs.Numbers.{before_last_blanks, decimal_word, is_field_blank, without_blanks, without_last_blanks, word_of_text}
use Rattle.trace_reader.proofs.NumberFacts.{number_some}
use Rattle.marple_base.specs.declared.field.Field.{Field, TheVariants.Tout}
use Rattle.queue_sim.{specs.TraceText.word_text, proofs.QueueFacts.by_test}

-- a decimal digit
abbrev IsDigit : ℕ → Type 0
IsDigit c = (48 ≤ c) × (c ≤ 57)

first_digit : (c : ℕ) (cs : List ℕ) → AllDigits 10 (c ∷ cs) → IsDigit c
first_digit c cs all =
    let at = digit_at (c ∷ cs) 0 all (omega arith) in
    (omega (arith, at), omega (arith, at))

digit_test : (c : ℕ) → IsDigit c → is_ascii_digit c ≡ true
digit_test c d = grind (arith, nat_tests)

digit_blank : (c : ℕ) → IsDigit c → is_field_blank c ≡ false
digit_blank c d = rw (ne_eqb c 32 (λ e. absurd (omega (arith, d, e))), ne_eqb c 9 (λ e. absurd (omega (arith, d, e)))) refl

digit_plain : (c : ℕ) → IsDigit c → needs_byte default_writer c ≡ false
digit_plain c d =
    rw (
      ne_eqb c 44 (λ e. absurd (omega (arith, d, e))),
      ne_eqb c 34 (λ e. absurd (omega (arith, d, e))),
      ne_eqb c 13
          (λ e. absurd (omega (arith, d, e))),
      ne_eqb c 10 (λ e. absurd (omega (arith, d, e))),
    ) refl

all_digits : (ds : List ℕ) → AllDigits 10 ds → list_all is_ascii_digit ds ≡ true
all_digits [] all = refl
all_digits (c ∷ cs) all = rw (digit_test c (first_digit c cs all), all_digits cs all.1) refl

-- digits need no quotes
digits_plain : (ds : List ℕ) → AllDigits 10 ds → list_any (needs_byte default_writer) ds ≡ false
digits_plain [] all = refl
digits_plain (c ∷ cs) all = rw (digit_plain c (first_digit c cs all), digits_plain cs all.1) refl

-- and have no blanks
last_kept : (ds : List ℕ) → AllDigits 10 ds → without_last_blanks ds ≡ ds
last_kept [] all = refl
last_kept (c ∷ []) all = rw (digit_blank c (first_digit c [] all)) refl
last_kept (c ∷ d ∷ ds) all = ap (before_last_blanks c) (last_kept (d ∷ ds) all.1)

digits_kept : (ds : List ℕ) → AllDigits 10 ds → without_blanks ds ≡ ds
digits_kept [] all = refl
digits_kept (c ∷ cs) all = rw (digit_blank c (first_digit c cs all)) (last_kept (c ∷ cs) all)

-- the digits of a word are read as the word
decimal_read : (n : ℕ) → n < 2 ^ 64 → decimal_word (without_blanks (decimal n)) ≡ Some n
decimal_read n word =
    let numeral = decimal_is_IsNumeral n word in
    let small : digits_value 10 (decimal n) < 2 ^ 64 = omega (arith, numeral.1) in
    rw (digits_kept (decimal n) numeral.0.1)
    (number_some 20 (2 ^ 64) (decimal n) numeral.0.0 (length-decimal-le 20 n (omega arith) (omega arith) word)
    (all_digits (decimal n) numeral.0.1) small ∙ ap Some numeral.1)

-- what is written for a word of a field is read as that word
pub word_read : (field : Field) (n : ℕ) → n < 2 ^ 64 → word_of_text field (without_blanks (word_text field n)) ≡ Some n
word_read Tout n word = elim (eqb_tells n (2 ^ 64 - 1)) [
  | inl same ↦ rw same.0 (ap Some (sym same.1))
  | inr differs ↦ rw (differs.0, decimal_read n word) refl
]
word_read field n word = rw (decimal_read n word) refl

plain_number : (n : ℕ) → n < 2 ^ 64 → list_any (needs_byte default_writer) (decimal n) ≡ false
plain_number n word = digits_plain (decimal n) (decimal_is_IsNumeral n word).0.1

-- and needs no quotes
pub word_plain : (field : Field) (n : ℕ) → n < 2 ^ 64 → list_any (needs_byte default_writer) (word_text field n) ≡ false
word_plain Tout n word = by_test (n == 2 ^ 64 - 1) (λ same. rw same refl) (λ other. rw other (plain_number n word))
word_plain field n word = plain_number n word
