-- Each piece takes a byte.
use Rattle.std.proofs.Common.{◌≡◌, ℕ, zero, suc, ◌+◌, ◌<◌, ◌≤◌, true, List, [], ◌∷◌, length, drop, take, Option, Some, None, refl, sym, ap}
use Rattle.std.proofs.{Common.{◌∙◌, arith, Ok}, lemmas.{Bool.{cond_both, eqb-false}, List.{length-drop, length-take}}}
use Rattle.std.{proofs.lemmas.List.Sums.prefix_len-le-length, specs.{Prelude.{codes, nat_eq}, List.prefix_len, Str.bytes_eq}}
use Rattle.std.specs.Str.Parse.{digits_value}
use Rattle.query_lang.specs.declared.token.{Word.Word, Mark.Mark, Piece.Piece}
use Rattle.query_lang.specs.declared.token.Piece.TheVariants as pieces
use Rattle.query_lang.specs.{declared.token.TokenKind.TheVariants.{End, Name}, Names.{with_name, number_in}, Lexis.{is_digit, is_word_byte}}
use Rattle.query_lang.specs.Lexis.{is_blank, is_not_line_feed, one_mark, two_mark, reserved, below_limit, number_piece, name_piece}
use Rattle.query_lang.specs.Lexis.{word_piece, piece_of_mark, mark_at, piece, Cut, with_front, token_at, cut_piece, cut, TakesSome}

number_takes : (o : Option ℕ) (len most : ℕ) → 0 < len → len ≤ most → TakesSome (number_piece o len) most
number_takes None len most more le = omega arith
number_takes (Some n) len most more le = (more, le)

name_takes : (o : Option Word) (len most : ℕ) → 0 < len → len ≤ most → TakesSome (name_piece o len) most
name_takes None len most more le = (more, le)
name_takes (Some w) len most more le = (more, le)

word_takes : (w : List ℕ) (digits most : ℕ) → 0 < length w → length w ≤ most → digits ≤ length w → TakesSome (word_piece w digits) most
word_takes w digits most more le within = cond_both (nat_eq digits (length w)) _ _ (λ p. TakesSome p most)
    (λ _. number_takes (below_limit (digits_value 10 w)) (length w) most more le)
    (λ ne.
    let lt : digits < length w = omega (arith, eqb-false digits (length w) ne) in
    cond_both (bytes_eq w (codes "5tuple")) _ _ (λ p. TakesSome p most) (λ _. (more, le))
    (λ _. cond_both (nat_eq digits 0) _ _ (λ p. TakesSome p most) (λ _. name_takes (reserved w) (length w) most more le)
    (λ _. omega arith)))

mark_takes : (two one : Option Mark) (most : ℕ) → 1 < most → TakesSome (piece_of_mark two one) most
mark_takes (Some t) one most h = (omega arith, omega arith)
mark_takes None (Some o) most h = (omega arith, omega arith)
mark_takes None None most h = omega arith

first_mark : (one : Option Mark) (most : ℕ) → 0 < most → TakesSome (piece_of_mark None one) most
first_mark (Some o) most h = (omega arith, omega arith)
first_mark None most h = omega arith

mark_at_takes : (b : ℕ) (bytes : List ℕ) → TakesSome (mark_at b bytes) (length (b ∷ bytes))
mark_at_takes b [] = first_mark (one_mark b) 1 (omega arith)
mark_at_takes b (c ∷ bytes) = mark_takes (two_mark b c) (one_mark b) (length (b ∷ c ∷ bytes)) (omega arith)

digits_within : (bs : List ℕ) → prefix_len is_digit bs ≤ prefix_len is_word_byte bs
digits_within [] = omega arith
digits_within (b ∷ bs) =
    let h = digits_within bs in
    cond_both (is_digit b) _ _ (λ n. n ≤ prefix_len is_word_byte (b ∷ bs)) (λ e. rw e (omega arith)) (λ _. omega arith)

word_first : (b : ℕ) (bytes : List ℕ) → is_word_byte b ≡ true
    → TakesSome (word_piece (take (prefix_len is_word_byte (b ∷ bytes)) (b ∷ bytes)) (prefix_len is_digit (b ∷ bytes))) (length (b ∷ bytes))
word_first b bytes e =
    let n = prefix_len is_word_byte (b ∷ bytes) in
    let some : 0 < n = rw e (omega arith) in
    let all : n ≤ length (b ∷ bytes) = prefix_len-le-length is_word_byte (b ∷ bytes) in
    let long : length (take n (b ∷ bytes)) ≡ n = omega (arith, length-take n (b ∷ bytes)) in
    word_takes (take n (b ∷ bytes)) (prefix_len is_digit (b ∷ bytes)) (length (b ∷ bytes)) (omega (arith, long, some))
    (omega (arith, long, all)) (omega (arith, long, digits_within (b ∷ bytes)))

pub takes_some : (b : ℕ) (bytes : List ℕ) → TakesSome (piece (b ∷ bytes)) (length (b ∷ bytes))
takes_some b bytes =
    let most = length (b ∷ bytes) in
    cond_both (is_blank b) _ _ (λ p. TakesSome p most) (λ _. (omega arith, omega arith))
    (λ _. cond_both (nat_eq b 35) _ _ (λ p. TakesSome p most)
    (λ _. (omega arith, omega (arith, prefix_len-le-length is_not_line_feed bytes)))
    (λ _. cond_both (is_word_byte b) _ _ (λ p. TakesSome p most) (λ e. word_first b bytes e) (λ _. mark_at_takes b bytes)))

cut_none : (n at : ℕ) (names : List (List ℕ)) → cut n at names [] ≡ Ok (token_at End at at ∷ [], names)
unfolding cut
cut_none zero at names = refl
cut_none (suc n) at names = refl

cut_some : (n at : ℕ) (names : List (List ℕ)) (b : ℕ) (bytes : List ℕ)
    → cut (suc n) at names (b ∷ bytes) ≡ cut_piece (piece (b ∷ bytes)) at names (b ∷ bytes)
    (λ k known. cut n (at + k) known (drop k (b ∷ bytes)))
unfolding cut
cut_some n at names b bytes = refl

-- a piece that takes some gives the same where what comes after it gives the same
same_piece : (p : Piece) (at : ℕ) (names : List (List ℕ)) (bytes : List ℕ) (f g : ℕ → List (List ℕ) → Cut) → TakesSome p (length bytes)
    → ((k : ℕ) (known : List (List ℕ)) → 0 < k → k ≤ length bytes → f k known ≡ g k known)
    → cut_piece p at names bytes f ≡ cut_piece p at names bytes g
same_piece (pieces.Blank n) at names bytes f g h same = same n names h.0 h.1
same_piece (pieces.Name n) at names bytes f g h same = ap (with_front (token_at (Name (number_in names (take n bytes))) at (at + n)))
    (same n (with_name names (take n bytes)) h.0 h.1)
same_piece (pieces.Token kind n) at names bytes f g h same = ap (with_front (token_at kind at (at + n))) (same n names h.0 h.1)
same_piece (pieces.Fault kind n) at names bytes f g h same = refl

-- two bounds that are enough
both_enough : (n m at : ℕ) (names : List (List ℕ)) (bytes : List ℕ) → length bytes ≤ n → length bytes ≤ m
    → cut n at names bytes ≡ cut m at names bytes
both_enough n m at names [] le also = cut_none n at names ∙ sym (cut_none m at names)
both_enough zero m at names (b ∷ bytes) le also = absurd (omega arith)
both_enough (suc n) zero at names (b ∷ bytes) le also = absurd (omega arith)
both_enough (suc n) (suc m) at names (b ∷ bytes) le also =
    cut_some n at names b bytes
    ∙ same_piece (piece (b ∷ bytes)) at names (b ∷ bytes) (λ k known. cut n (at + k) known (drop k (b ∷ bytes)))
    (λ k known. cut m (at + k) known (drop k (b ∷ bytes))) (takes_some b bytes)
    (λ k known more within. both_enough n m (at + k) known (drop k (b ∷ bytes)) (omega (arith, length-drop k (b ∷ bytes)))
    (omega (arith, length-drop k (b ∷ bytes))))
    ∙ sym (cut_some m at names b bytes)

pub enough : (n at : ℕ) (names : List (List ℕ)) (bytes : List ℕ) → length bytes ≤ n
    → cut n at names bytes ≡ cut (length bytes) at names bytes
enough n at names bytes le = both_enough n (length bytes) at names bytes le (omega arith)
