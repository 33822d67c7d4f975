-- Texts of whole lines, and what their lines make.
use Rattle.marple_laws.proofs.Words
use Words.{IsLineOf, LineWord, List, Made, Make, [], ap, append-nil, append_assoc, first_line_word, flat_map-append, line, line_word, refl}
use Words.{spaced, subst, sym, tokens, true, word_named, ℕ, ◌++◌, ◌∙◌, ◌∷◌, ◌≡◌}
use Rattle.marple_laws.proofs.Tokens.{AreLines, AreTokens, ended, is_token, lines_append, none_in_line, tokens_of}

pub make_both : (xs ys : List (List ℕ)) (before mid after : Made) → Make xs before mid → Make ys mid after → Make (xs ++ ys) before after
make_both [] ys before mid after a b = subst (λ m. Make ys m after) a b
make_both (x ∷ xs) ys before mid after a b = (a.0, a.1, make_both xs ys a.0 mid after a.2 b)

-- a text of whole lines, which are valid after what was made before, and make this with it
pub record IsWritten (text : List ℕ) (before after : Made) : Type 0 where
  pub all : List (List ℕ)
  pub each : AreLines all
  pub text_is : text ≡ ended all
  pub make : Make all before after

pub nothing_written : {before after : Made} → after ≡ before → IsWritten [] before after
nothing_written e = record { all = []; each = tt; text_is = refl; make = e }

pub written_then : {a : List ℕ} (b : List ℕ) {before mid after : Made} → IsWritten a before mid → IsWritten b mid after
    → IsWritten (a ++ b) before after
written_then b p q = record {
  all = p.all ++ q.all;
  each = lines_append _ _ p.each q.each;
  text_is = ap (λ t. t ++ b) p.text_is ∙ ap (λ t. ended p.all ++ t) q.text_is ∙ sym (flat_map-append (λ one. one ++ 10 ∷ []) _ _);
  make = make_both _ _ _ _ _ p.make q.make;
}

-- one line of these words
pub line_written : {word : LineWord} {first : List ℕ} (words : List (List ℕ)) {before after : Made} → is_token first ≡ true
    → AreTokens words → word_named first ≡ word → (tokens (first ++ spaced words) ≡ first ∷ words
    → IsLineOf word before (first ++ spaced words) after) → IsWritten (line first words) before after
line_written {first} words {before} {after} t are named valid = record {
  all = (first ++ spaced words) ∷ [];
  each = (none_in_line first words t are, tt);
  text_is = sym (append_assoc first (spaced words) (10 ∷ [])) ∙ sym (append-nil ((first ++ spaced words) ++ 10 ∷ []));
  make = (
    after,
    subst (λ w. IsLineOf w before (first ++ spaced words) after) (sym (first_is ∙ named)) (valid (tokens_of first words t are)),
    refl,
  );
}
  where
    first_is : line_word (first ++ spaced words) ≡ word_named first
    first_is = ap (λ l. word_named (first_line_word l)) (tokens_of first words t are)
