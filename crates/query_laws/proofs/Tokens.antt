-- The numbers among the tokens of a text are words.
use Rattle.std.proofs.Common.{◌≡◌, ℕ, zero, suc, ◌+◌, ◌^◌, Bool, true, false, cond, List, [], ◌∷◌, length, take, drop, Option, Some, None}
use Rattle.std.proofs.{Common.{Ok, Err, refl, subst}, lemmas.Bool.ltb-true}
use Rattle.std.specs.{Prelude.{nat_eq, nat_lt, codes}, List.prefix_len, Str.{bytes_eq, Parse.digits_value}}
use Rattle.query_lang.specs.declared.token.{Mark.Mark, Piece.Piece, Token.Token, Word.Word}
use Rattle.query_lang.specs.declared.token.Piece.TheVariants as pieces
use Rattle.query_lang.specs.declared.token.TokenKind.TheVariants as kinds
use Rattle.query_lang.specs.Lexis.{Cut, below_limit, cut, cut_piece, is_blank, is_digit, is_word_byte, mark_at, name_piece, number_piece}
use Rattle.query_lang.specs.Lexis.{one_mark, piece, piece_of_mark, reserved, token_at, with_front, word_piece}
use Rattle.query_laws.proofs.{Terms.{TokenKind, with_name, IsWord}, Steps.by_test}

-- a number is a word
abbrev pub IsWordKind : TokenKind → Type 0
IsWordKind (kinds.Number n) = IsWord n
IsWordKind (kinds.Name _) = Unit {0}
IsWordKind kinds.FiveTuple = Unit {0}
IsWordKind kinds.End = Unit {0}
IsWordKind (kinds.Word w) = Unit {0}
IsWordKind (kinds.Mark m) = Unit {0}

abbrev pub AreWordTokens : List Token → Type 0
AreWordTokens [] = Unit {0}
AreWordTokens (t ∷ ts) = IsWordKind t.kind × AreWordTokens ts

abbrev IsWordPiece : Piece → Type 0
IsWordPiece (pieces.Blank n) = Unit {0}
IsWordPiece (pieces.Name n) = Unit {0}
IsWordPiece (pieces.Token kind n) = IsWordKind kind
IsWordPiece (pieces.Fault _ n) = Unit {0}

of_either : (b : Bool) (p q : Piece) → IsWordPiece p → IsWordPiece q → IsWordPiece (cond b p q)
of_either true p q f g = f
of_either false p q f g = g

of_number : (n len : ℕ) → IsWordPiece (number_piece (below_limit n) len)
of_number n len = by_test (nat_lt n (2 ^ 64)) (λ is. rw is (ltb-true n (2 ^ 64) is)) (λ is. rw is tt)

of_name : (o : Option Word) (len : ℕ) → IsWordPiece (name_piece o len)
of_name None _ = tt
of_name (Some w) _ = tt

of_mark : (two one : Option Mark) → IsWordPiece (piece_of_mark two one)
of_mark (Some t) _ = tt
of_mark None (Some o) = tt
of_mark None None = tt

of_mark_at : (b : ℕ) (bytes : List ℕ) → IsWordPiece (mark_at b bytes)
of_mark_at b [] = of_mark None (one_mark b)
of_mark_at b (c ∷ _) = of_mark _ _

of_word : (w : List ℕ) (digits : ℕ) → IsWordPiece (word_piece w digits)
of_word w digits = of_either (nat_eq digits (length w)) _ _ (of_number (digits_value 10 w) (length w))
    (of_either (bytes_eq w (codes "5tuple")) _ _ tt (of_either (nat_eq digits 0) _ _ (of_name (reserved w) (length w)) tt))

of_piece : (b : ℕ) (bytes : List ℕ) → IsWordPiece (piece (b ∷ bytes))
of_piece b bytes = of_either (is_blank b) _ _ tt (of_either (nat_eq b 35) _ _ tt
    (of_either (is_word_byte b) _ _ (of_word (take (prefix_len is_word_byte (b ∷ bytes)) (b ∷ bytes)) (prefix_len is_digit (b ∷ bytes)))
    (of_mark_at b bytes)))

abbrev Pair : Type 0
Pair = List Token × List (List ℕ)

abbrev HasWords : Pair → Type 0
HasWords found = AreWordTokens found.0

same_found : {a b : Pair} → ◌≡◌ {A = Cut} (Ok a) (Ok b) → a ≡ b
same_found e = cc

of_front : (t : Token) (o : Cut) {found : Pair} → IsWordKind t.kind → ((got : Pair) → o ≡ Ok got → HasWords got)
    → with_front t o ≡ Ok found → HasWords found
of_front t (Ok got) word h e = subst HasWords (same_found e) (word, h got refl)
of_front t (Err _) _ h e = absurd cc

of_cut_piece : (p : Piece) (at : ℕ) (known : List (List ℕ)) (bytes : List ℕ) {next : ℕ → List (List ℕ) → Cut} {found : Pair} → IsWordPiece p
    → ((k : ℕ) (later : List (List ℕ)) (got : Pair) → next k later ≡ Ok got → HasWords got) → cut_piece p at known bytes next ≡ Ok found
    → HasWords found
of_cut_piece (pieces.Blank n) _ known _ {found} _ h e = h n known found e
of_cut_piece (pieces.Name n) _ known bytes _ h e = of_front _ _ tt (h n (with_name known (take n bytes))) e
of_cut_piece (pieces.Token _ n) _ known _ word h e = of_front _ _ word (h n known) e
of_cut_piece (pieces.Fault _ n) _ _ _ _ h e = absurd cc

of_end : {at : ℕ} {known : List (List ℕ)} {found : Pair} → ◌≡◌ {A = Cut} (Ok (token_at kinds.End at at ∷ [], known)) (Ok found)
    → HasWords found
of_end e = subst HasWords (same_found e) (tt, tt)

-- the numbers among the tokens that these bytes are cut into are words
pub cut_words : (n at : ℕ) (known : List (List ℕ)) (bytes : List ℕ) {found : Pair} → cut n at known bytes ≡ Ok found → HasWords found
unfolding cut
cut_words zero _ _ _ e = of_end e
cut_words (suc n) _ _ [] e = of_end e
cut_words (suc n) at known (b ∷ bytes) e = of_cut_piece (piece (b ∷ bytes)) at known (b ∷ bytes) (of_piece b bytes)
    (λ k later got h. cut_words n (at + k) later (drop k (b ∷ bytes)) h) e
