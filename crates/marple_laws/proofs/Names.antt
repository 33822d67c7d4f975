-- Names are tokens.
use Rattle.marple_laws.proofs.Words.{◌≡◌, ℕ, Bool, true, false, List, [], ◌∷◌, refl, ap, subst, arith, ◌==◌, list_all, nat_tests}
use Rattle.marple_laws.proofs.{Words.is_name, Tokens.{both_true, both_are, is_plain, is_token}}
use Rattle.std.specs.Prelude.{not, ◌&&◌}
use Rattle.query_lang.specs.Lexis.{is_digit, is_word_byte, reserved}

plain_byte : (b : ℕ) → is_word_byte b ≡ true → is_plain b ≡ true
plain_byte b e = both_are (apart _ refl _ refl) (apart _ refl _ refl)
  where
    apart : (c : ℕ) → is_word_byte c ≡ false → (t : Bool) → (b == c) ≡ t → not (b == c) ≡ true
    apart c bad false is = ap not is
    apart c bad true is =
        let same : b ≡ c = grind (arith, nat_tests) in
        let wrong : is_word_byte c ≡ true = subst (λ x. is_word_byte x ≡ true) same e in
        cc

plain_bytes : (word : List ℕ) → list_all is_word_byte word ≡ true → is_token word ≡ true
plain_bytes [] e = refl
plain_bytes (b ∷ word) e =
    let p = both_true _ e in
    both_are (plain_byte b p.0) (plain_bytes word p.1)

pub token_name : (name : List ℕ) → is_name name ≡ true → is_token name ≡ true
token_name [] e = refl
token_name (first ∷ rest) e =
    plain_bytes (first ∷ rest) (both_true (list_all is_word_byte (first ∷ rest))
    e).0
