-- Numbers that are written are read again.
use Rattle.marple_laws.proofs.Words
use Words.{◌≡◌, ℕ, ◌^◌, ◌<◌, ◌≤◌, Bool, true, false, List, [], ◌∷◌, length, get_or, Some, None, refl, ap, ◌∙◌, inl, inr, arith, decimal}
use Words.{if◌then◌else◌, ◌==◌, list_all, AllDigits, digits_value, cases_lt, nat_tests, decimal_is_IsNumeral, decimal_digit, first_decimal}
use Words.{digit_from_value, is_first_digit, number}
use Rattle.marple_laws.proofs.Tokens.{both_are, is_plain, is_token}
use Rattle.std.specs.Prelude.{not, nat_lt}
use Rattle.query_lang.specs.Lexis.{below_limit, is_digit}

-- a decimal digit, which is neither a space nor LF
digit_in : (c : ℕ) → 48 ≤ c → c ≤ 57 → is_digit c ≡ true
digit_in c low high =
    let a : nat_lt c 58 ≡ true = grind arith in
    let b : nat_lt c 48 ≡ false = grind arith in
    both_are a (ap (λ t. if t then false else true) b)

plain_digit : (c : ℕ) → 48 ≤ c → is_plain c ≡ true
plain_digit c low =
    let a : (c == 32) ≡ false = grind arith in
    let b : (c == 10) ≡ false = grind arith in
    both_are (ap not a) (ap not b)

digits_are : (ds : List ℕ) → AllDigits 10 ds → list_all is_digit ds ≡ true
digits_are [] d = refl
digits_are (c ∷ ds) d = let k = digit_from_value c d.0 in both_are (digit_in c k.0 k.1) (digits_are ds d.1)

plain_digits : (ds : List ℕ) → AllDigits 10 ds → is_token ds ≡ true
plain_digits [] d = refl
plain_digits (c ∷ ds) d = let k = digit_from_value c d.0 in both_are (plain_digit c k.0) (plain_digits ds d.1)

pub token_decimal : {n : ℕ} → n < 2 ^ 64 → is_token (decimal n) ≡ true
token_decimal {n} small = plain_digits _ (decimal_is_IsNumeral n small).0.1

-- after a byte that says what kind of number it is
pub token_marked : (mark n : ℕ) → is_plain mark ≡ true → n < 2 ^ 64 → is_token (mark ∷ decimal n) ≡ true
token_marked mark n plain small = both_are plain (token_decimal small)

one_digit : (ds : List ℕ) → AllDigits 10 ds → 0 < length ds → (get_or ds 0 0 ≡ 48 → length ds ≡ 1) → digits_value 10 ds < 2 ^ 64
    → number ds ≡ Some (digits_value 10 ds)
one_digit [] d some first small = absurd (omega arith)
one_digit (c ∷ ds) d some first small =
    ap (λ t. if t then below_limit (digits_value 10 (c ∷ ds)) else None)
    (both_are (digits_are (c ∷ ds) d) (leads ds first))
    ∙ ap (λ t. if t then Some (digits_value 10 (c ∷ ds)) else None) below
  where
    below : nat_lt (digits_value 10 (c ∷ ds)) (2 ^ 64) ≡ true
    below = grind (arith, nat_tests)

    leads : (ds : List ℕ) → (c ≡ 48 → length (c ∷ ds) ≡ 1) → is_first_digit c ds ≡ true
    leads [] h = refl
    leads (next ∷ rest) h = by (c == 48) refl
      where
        by : (b : Bool) → (c == 48) ≡ b → not (c == 48) ≡ true
        by false e = ap not e
        by true e = let same : c ≡ 48 = grind (arith, nat_tests) in absurd (omega (arith, h same))

-- the number that a text's digits say
pub number_decimal : {n : ℕ} → n < 2 ^ 64 → number (decimal n) ≡ Some n
number_decimal {n} small =
    let d = decimal_is_IsNumeral n small in
    one_digit _ d.0.1 d.0.0 leading (omega arith) ∙ ap Some d.1
  where
    leading : get_or (decimal n) 0 0 ≡ 48 → length (decimal n) ≡ 1
    leading e = elim (cases_lt 0 n) [
      | inl some ↦ absurd (omega (arith, first_decimal n some small))
      | inr none ↦ (let zero_is : n ≡ 0 = omega arith in ap (λ m. length (decimal m)) zero_is ∙ ap length (decimal_digit 0 (omega arith)))
    ]
