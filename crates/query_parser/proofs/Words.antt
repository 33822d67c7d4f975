-- The digits that a word begins with.
use Rattle.std.proofs.Common.{◌≡◌, ℕ, ◌<◌, ◌≤◌, Bool, true, false, List, [], ◌∷◌, get_or, take, refl, ap, ◌∙◌, arith}
use Rattle.std.{proofs.lemmas.List.{get_or-take, Sums.prefix_len_passes}, specs.List.prefix_len}
use Rattle.query_lang.specs.Lexis.{is_word_byte, is_digit}

pub digits_within : (bs : List ℕ) → prefix_len is_digit bs ≤ prefix_len is_word_byte bs
digits_within [] = omega arith
digits_within (b ∷ bs) = go (is_digit b) refl (digits_within bs)
  where
    go : (d : Bool) → is_digit b ≡ d → prefix_len is_digit bs ≤ prefix_len is_word_byte bs
        → prefix_len is_digit (b ∷ bs) ≤ prefix_len is_word_byte (b ∷ bs)
    go true e h = rw e (omega arith)
    go false e h = rw e (omega arith)

pub digits_of_word : (bs : List ℕ) (k : ℕ) → k < prefix_len is_digit bs
    → is_digit (get_or (take (prefix_len is_word_byte bs) bs) k 0) ≡ true
digits_of_word bs k lt = ap is_digit (get_or-take (prefix_len is_word_byte bs) bs k 0 (omega (arith, digits_within bs)))
    ∙ prefix_len_passes is_digit bs k 0 lt
