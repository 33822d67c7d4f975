-- How a text is cut: into blanks, names, which are whole words, and other tokens, with the end as the last one.
use Rattle.std.proofs.Common.{◌≡◌, ℕ, zero, suc, ◌+◌, ◌<◌, ◌≤◌, Bool, true, false, cond, List, [], ◌∷◌, length, take, drop, Option, Some}
use Rattle.std.{proofs.{Common.{None, Ok, Err, refl, ap, subst}, lemmas.List.Folds.length-prefix_len}, specs.Prelude.{nat_eq, codes}}
use Rattle.std.specs.{List.prefix_len, Str.{bytes_eq, Parse.digits_value}}
use Rattle.query_lang.{proofs.Pieces.takes_some, specs.{Names.{number_in, with_name}, declared.{fault.Span.Span, query.Name.Name}}}
use Rattle.query_lang.specs.{declared.token.{Mark.Mark, Piece.Piece, Token.Token, TokenKind.TokenKind, Word.Word}, Lexis.{Cut, TakesSome}}
use Rattle.query_lang.specs.Lexis.{below_limit, cut, cut_piece, is_blank, is_digit, is_word_byte, mark_at, name_piece, number_piece}
use Rattle.query_lang.specs.Lexis.{one_mark, piece, piece_of_mark, reserved, token_at, tokens_of, two_mark, with_front, word_piece}
use Rattle.query_grammar.specs.{Fault.HasEnd, Kinds.name_of}
use Rattle.query_lang.specs.declared.token.Piece.TheVariants as pieces
use Rattle.query_lang.specs.declared.token.TokenKind.TheVariants as kinds

-- 1 where a word begins, and else 0
abbrev pub word_begins : List ℕ → ℕ
word_begins [] = 0
word_begins (b ∷ bytes) = cond (is_word_byte b) 1 0

abbrev pub IsOther : TokenKind → Type 0
IsOther kind = (span : Span) (n : Name) → name_of kind span ≡ Some n → ⊥

-- a name is a whole word, and another token is no name
abbrev IsPiece : Piece → List ℕ → Type 0
IsPiece (pieces.Blank n) bytes = Unit {0}
IsPiece (pieces.Name n) bytes = (word_begins bytes ≡ 1) × (n ≡ prefix_len is_word_byte bytes)
IsPiece (pieces.Token kind n) bytes = IsOther kind
IsPiece (pieces.Fault kind n) bytes = Unit {0}

piece_either : (b : Bool) (p q : Piece) (bytes : List ℕ) → IsPiece p bytes → IsPiece q bytes → IsPiece (cond b p q) bytes
piece_either true p q bytes f g = f
piece_either false p q bytes f g = g

number_is : (o : Option ℕ) (len : ℕ) (bytes : List ℕ) → IsPiece (number_piece o len) bytes
number_is None len bytes = tt
number_is (Some n) len bytes = λ span m e. absurd (cc e)

name_is : (o : Option Word) (len : ℕ) (bytes : List ℕ) → word_begins bytes ≡ 1 → len ≡ prefix_len is_word_byte bytes
    → IsPiece (name_piece o len) bytes
name_is None len bytes begins same = (begins, same)
name_is (Some w) len bytes begins same = λ span m e. absurd (cc e)

mark_is : (two one : Option Mark) (bytes : List ℕ) → IsPiece (piece_of_mark two one) bytes
mark_is (Some t) one bytes = λ span m e. absurd (cc e)
mark_is None (Some o) bytes = λ span m e. absurd (cc e)
mark_is None None bytes = tt

mark_at_is : (b : ℕ) (rest bytes : List ℕ) → IsPiece (mark_at b rest) bytes
mark_at_is b [] bytes = mark_is None (one_mark b) bytes
mark_at_is b (c ∷ rest) bytes = mark_is (two_mark b c) (one_mark b) bytes

five_tuple_is : (len : ℕ) (bytes : List ℕ) → IsPiece (pieces.Token kinds.FiveTuple len) bytes
five_tuple_is len bytes = λ span m e. absurd (cc e)

word_is : (w : List ℕ) (digits : ℕ) (bytes : List ℕ) → word_begins bytes ≡ 1 → length w ≡ prefix_len is_word_byte bytes
    → IsPiece (word_piece w digits) bytes
word_is w digits bytes begins same = piece_either (nat_eq digits (length w)) _ _ bytes
    (number_is (below_limit (digits_value 10 w)) (length w) bytes)
    (piece_either (bytes_eq w (codes "5tuple")) _ _ bytes (five_tuple_is (length w) bytes) (piece_either (nat_eq digits 0) _ _ bytes
    (name_is (reserved w) (length w) bytes begins same) tt))

piece_is : (b : ℕ) (bytes : List ℕ) → IsPiece (piece (b ∷ bytes)) (b ∷ bytes)
piece_is b bytes = piece_either (is_blank b) _ _ (b ∷ bytes) tt (piece_either (nat_eq b 35) _ _ (b ∷ bytes) tt (go (is_word_byte b) refl))
  where
    go : (w : Bool) → is_word_byte b ≡ w → IsPiece (cond w (word_piece (take (prefix_len is_word_byte (b ∷ bytes)) (b ∷ bytes))
        (prefix_len is_digit (b ∷ bytes))) (mark_at b bytes)) (b ∷ bytes)
    go true e = word_is (take (prefix_len is_word_byte (b ∷ bytes)) (b ∷ bytes)) (prefix_len is_digit (b ∷ bytes)) (b ∷ bytes)
        (ap (λ w. cond w 1 0) e) (length-prefix_len is_word_byte (b ∷ bytes))
    go false e = mark_at_is b bytes (b ∷ bytes)

-- these bytes, after these names, are these tokens with these names
pub data IsCut : List (List ℕ) → List ℕ → List Token → List (List ℕ) → Type 0 where
  ends : {known : List (List ℕ)} {bytes : List ℕ} (at : ℕ) → IsCut known bytes (token_at kinds.End at at ∷ []) known
  skips : {known names : List (List ℕ)} {bytes : List ℕ} {tokens : List Token} (n : ℕ) → 0 < n → n ≤ length bytes
      → IsCut known (drop n bytes) tokens names → IsCut known bytes tokens names
  named : {known names : List (List ℕ)} {bytes : List ℕ} {tokens : List Token} (n at : ℕ) → 0 < n → n ≤ length bytes
      → word_begins bytes ≡ 1 → n ≡ prefix_len is_word_byte bytes → IsCut (with_name known (take n bytes)) (drop n bytes) tokens names
      → IsCut known bytes (token_at (kinds.Name (number_in known (take n bytes))) at (at + n) ∷ tokens) names
  other : {known names : List (List ℕ)} {bytes : List ℕ} {tokens : List Token} (kind : TokenKind) (n at : ℕ) → 0 < n → n ≤ length bytes
      → IsOther kind → IsCut known (drop n bytes) tokens names → IsCut known bytes (token_at kind at (at + n) ∷ tokens) names

abbrev pub Pair : Type 0
Pair = List Token × List (List ℕ)

abbrev CutsTo : List (List ℕ) → List ℕ → Pair → Type 0
CutsTo known bytes found = IsCut known bytes found.0 found.1

same_found : (a b : Pair) → ◌≡◌ {A = Cut} (Ok a) (Ok b) → a ≡ b
same_found a b e = cc

-- what comes after the first token of a cut text
after_front : (t : Token) (o : Cut) (found : Pair) → with_front t o ≡ Ok found → (got : Pair) × (o ≡ Ok got) × ((t ∷ got.0, got.1) ≡ found)
after_front t (Ok got) found e = (got, refl, same_found (t ∷ got.0, got.1) found e)
after_front t (Err fault) found e = absurd cc

piece_cut : (p : Piece) (at : ℕ) (known : List (List ℕ)) (bytes : List ℕ) (next : ℕ → List (List ℕ) → Cut) (found : Pair)
    → TakesSome p (length bytes) → IsPiece p bytes
    → ((k : ℕ) (later : List (List ℕ)) (got : Pair) → next k later ≡ Ok got → CutsTo later (drop k bytes) got)
    → cut_piece p at known bytes next ≡ Ok found → CutsTo known bytes found
piece_cut (pieces.Blank n) at known bytes next found some is h e = skips n some.0 some.1 (h n known found e)
piece_cut (pieces.Name n) at known bytes next found some is h e =
    let got = after_front _ _ found e in
    subst (CutsTo known bytes) got.2 (named n at some.0 some.1 is.0 is.1 (h n (with_name known (take n bytes)) got.0 got.1))
piece_cut (pieces.Token kind n) at known bytes next found some is h e =
    let got = after_front _ _ found e in
    subst (CutsTo known bytes) got.2 (other kind n at some.0 some.1 is (h n known got.0 got.1))
piece_cut (pieces.Fault kind n) at known bytes next found some is h e = absurd cc

only_end : (at : ℕ) (known : List (List ℕ)) (bytes : List ℕ) (found : Pair)
    → ◌≡◌ {A = Cut} (Ok (token_at kinds.End at at ∷ [], known)) (Ok found) → CutsTo known bytes found
only_end at known bytes found e = subst (CutsTo known bytes) (same_found _ _ e) (ends at)

is_cut : (n at : ℕ) (known : List (List ℕ)) (bytes : List ℕ) (found : Pair) → cut n at known bytes ≡ Ok found → CutsTo known bytes found
unfolding cut
is_cut zero at known bytes found e = only_end at known bytes found e
is_cut (suc n) at known [] found e = only_end at known [] found e
is_cut (suc n) at known (b ∷ bytes) found e =
    piece_cut (piece (b ∷ bytes)) at known (b ∷ bytes) (λ k later. cut n (at + k) later (drop k (b ∷ bytes))) found (takes_some b bytes)
    (piece_is b bytes) (λ k later got h. is_cut n (at + k) later (drop k (b ∷ bytes)) got h) e

pub text_is_cut : (text : List ℕ) (found : Pair) → tokens_of text ≡ Ok found → IsCut [] text found.0 found.1
text_is_cut text found e = is_cut (length text) 0 [] text found e

one_more : (t : Token) {ts : List Token} → HasEnd ts → HasEnd (t ∷ ts)
one_more t h = (t ∷ h.0, h.1, ap (λ (l : List Token). t ∷ l) h.2, h.3)

pub cut_end : {known names : List (List ℕ)} {bytes : List ℕ} {tokens : List Token} → IsCut known bytes tokens names → HasEnd tokens
cut_end (ends at) = ([], token_at kinds.End at at, refl, refl)
cut_end (skips n some within c) = cut_end c
cut_end (named n at some within begins same c) = one_more _ (cut_end c)
cut_end (other kind n at some within is c) = one_more _ (cut_end c)
