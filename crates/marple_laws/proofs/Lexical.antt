-- The names of a text are names by the rule of names, and no two of them are the same.
use Rattle.marple_laws.proofs.Words
use Words.{AreOnce, Bool, Err, Field, List, None, Ok, Option, Piece, Some, Switch, Token, [], add-one, add_comm, all_fields, ap, arith}
use Words.{bytes_eq, codes, cond, digits_value, drop, false, field_name, inl, inr, is_name, is_none, length, length-prefix_len, list_all}
use Words.{list_any, number_in, prefix_len, refl, same_Some, slice_get, subst, suc, sym, take, true, typed_names, with_fields, with_name}
use Words.{zero, ℕ, ◌++◌, ◌+◌, ◌||◌, ◌∙◌, ◌∷◌, ◌≡◌, ◌⊎◌}
use Rattle.marple_laws.proofs.Tokens.{both_are}
use Rattle.std.{proofs.lemmas.Slice.Eq.bytes_eq-Decides, specs.Prelude.{nat_eq, not}}
use Rattle.query_lang.{proofs.NameFacts.has_number, specs.Lexis.{Cut, below_limit, cut, cut_piece, is_blank, is_digit, is_word_byte}}
use Rattle.query_lang.specs.Lexis.{mark_at, name_piece, number_piece, one_mark, piece, piece_of_mark, reserved, token_at, two_mark}
use Rattle.query_lang.specs.{Lexis.{with_front, word_piece}, declared.token.{Mark.Mark, Word.Word}}
use Rattle.query_lang.specs.declared.token.Piece.TheVariants as pieces
use Rattle.query_lang.specs.declared.token.TokenKind.TheVariants as kinds

-- ---- names, in sequence

-- names by the rule of names, none of them twice
pub record AreGood (names : List (List ℕ)) : Type 0 where
  pub once : AreOnce names
  pub lexical : (i : ℕ) (text : List ℕ) → slice_get names i ≡ Some text → is_name text ≡ true

absent : (names : List (List ℕ)) {text : List ℕ} (i : ℕ) → list_any (bytes_eq text) names ≡ false → slice_get names i ≡ Some text → ⊥
absent [] i e h = cc
absent (n ∷ names) {text} i e h = go _ refl e i h (λ k. absent names k)
  where
    go : (b : Bool) → bytes_eq text n ≡ b → (b || list_any (bytes_eq text) names) ≡ false → (i : ℕ) → slice_get (n ∷ names) i ≡ Some text
        → ((k : ℕ) → list_any (bytes_eq text) names ≡ false → slice_get names k ≡ Some text → ⊥) → ⊥
    go true t e i h rest = cc
    go false t e zero h rest = let y : bytes_eq text n ≡ true = (bytes_eq-Decides _ n).1 (sym (same_Some n _ h)) in cc
    go false t e (suc i) h rest = rest i e h

at_push : (names : List (List ℕ)) {text : List ℕ} (i : ℕ) (t : List ℕ) → slice_get (names ++ text ∷ []) i ≡ Some t
    → (slice_get names i ≡ Some t) ⊎ ((i ≡ length names) × (text ≡ t))
at_push [] {text} zero t h = inr (refl, same_Some text t h)
at_push [] (suc i) t h = cc
at_push (n ∷ names) zero t h = inl h
at_push (n ∷ names) (suc i) t h = elim (at_push names i t h) [ inl old ↦ inl old | inr new ↦ inr (omega (arith, new.0), new.1) ]

pushed : {names : List (List ℕ)} (text : List ℕ) → AreGood names → is_name text ≡ true → list_any (bytes_eq text) names ≡ false
    → AreGood (names ++ text ∷ [])
pushed text good lexical none = record {
  once = λ i j t h g. elim (at_push _ i t h) [
    | inl oi ↦ elim (at_push _ j t g) [ inl oj ↦ good.once i j t oi oj | inr nj ↦ absurd (absent _ i none (oi ∙ ap Some (sym nj.1))) ]
    | inr ni ↦ elim (at_push _ j t g) [ inl oj ↦ absurd (absent _ j none (oj ∙ ap Some (sym ni.1))) | inr nj ↦ ni.0 ∙ sym nj.0 ]
  ];
  lexical = λ i t h. elim (at_push _ i t h) [ inl old ↦ good.lexical i t old | inr new ↦ subst (λ w. is_name w ≡ true) new.1 lexical ];
}

with_good : {names : List (List ℕ)} (text : List ℕ) → AreGood names → is_name text ≡ true → AreGood (with_name names text)
with_good {names} text good lexical = go _ refl
  where
    go : (b : Bool) → list_any (bytes_eq text) names ≡ b → AreGood (cond b names (names ++ text ∷ []))
    go true e = good
    go false e = pushed text good lexical e

-- the number of a name is its place
pub number_at : (names : List (List ℕ)) (i : ℕ) (text : List ℕ) → AreOnce names → slice_get names i ≡ Some text → number_in names text ≡ i
number_at names i text once h = once _ i _ (there _ refl (has_number _ _)) h
  where
    there : (b : Bool) → list_any (bytes_eq text) names ≡ b → slice_get (cond b names (names ++ text ∷ [])) (number_in names text) ≡ Some
        text → slice_get names (number_in names text) ≡ Some text
    there true e k = k
    there false e k = absurd (absent _ i e h)

-- ---- the fields' names

field_lexical : (f : Field) → is_name (field_name f) ≡ true
unfolding reserved
field_lexical Switch = refl
field_lexical _ = refl

fields_good : (fields : List Field) {names : List (List ℕ)} → AreGood names → AreGood (with_fields names fields)
fields_good [] good = good
fields_good (f ∷ fields) good = fields_good fields (with_good (field_name f) good (field_lexical f))

pub typed_good : {names : List (List ℕ)} → AreGood names → AreGood (typed_names names)
typed_good good = fields_good all_fields good

-- ---- the names that a text is split into

-- a piece that is a name is one by the rule of names
abbrev IsNamePiece : List ℕ → Piece → Type 0
IsNamePiece bytes (pieces.Blank n) = Unit {0}
IsNamePiece bytes (pieces.Name n) = is_name (take n bytes) ≡ true
IsNamePiece bytes (pieces.Token kind n) = Unit {0}
IsNamePiece bytes (pieces.Fault kind n) = Unit {0}

of_either : (bytes : List ℕ) (b : Bool) (p q : Piece) → (b ≡ true → IsNamePiece bytes p) → (b ≡ false → IsNamePiece bytes q)
    → IsNamePiece bytes (cond b p q)
of_either bytes true p q f g = f refl
of_either bytes false p q f g = g refl

of_number : (bytes : List ℕ) (o : Option ℕ) (len : ℕ) → IsNamePiece bytes (number_piece o len)
of_number bytes None len = tt
of_number bytes (Some n) len = tt

of_name : (bytes : List ℕ) (o : Option Word) (len : ℕ) → (is_none o ≡ true → is_name (take len bytes) ≡ true)
    → IsNamePiece bytes (name_piece o len)
of_name bytes None len f = f refl
of_name bytes (Some w) len f = tt

of_mark : (bytes : List ℕ) (two one : Option Mark) → IsNamePiece bytes (piece_of_mark two one)
of_mark bytes (Some t) one = tt
of_mark bytes None (Some o) = tt
of_mark bytes None None = tt

of_mark_at : (all : List ℕ) (b : ℕ) (bytes : List ℕ) → IsNamePiece all (mark_at b bytes)
of_mark_at all b [] = of_mark all None (one_mark b)
of_mark_at all b (c ∷ bytes) = of_mark all (two_mark b c) (one_mark b)

word_bytes : (bytes : List ℕ) → list_all is_word_byte (take (prefix_len is_word_byte bytes) bytes) ≡ true
word_bytes [] = refl
word_bytes (b ∷ bytes) = go _ refl (word_bytes bytes)
  where
    go : (t : Bool) → is_word_byte b ≡ t → list_all is_word_byte (take (prefix_len is_word_byte bytes) bytes) ≡ true
        → list_all is_word_byte (take (cond t (1 + prefix_len is_word_byte bytes) 0) (b ∷ bytes)) ≡ true
    go true e h =
        ap (λ n. list_all is_word_byte (take n (b ∷ bytes))) (add_comm 1 (prefix_len is_word_byte bytes)
        ∙ add-one (prefix_len is_word_byte bytes))
        ∙ both_are e h
    go false e h = refl

first_byte : (b : ℕ) (bytes : List ℕ) → is_word_byte b ≡ true
    → take (prefix_len is_word_byte (b ∷ bytes)) (b ∷ bytes) ≡ b ∷ take (prefix_len is_word_byte bytes) bytes
first_byte b bytes e =
    ap (λ t. take (cond t (1 + prefix_len is_word_byte bytes) 0) (b ∷ bytes)) e
    ∙ ap (λ n. take n (b ∷ bytes)) (add_comm 1 (prefix_len is_word_byte bytes) ∙ add-one (prefix_len is_word_byte bytes))

no_digit : (b : ℕ) (bytes : List ℕ) → nat_eq (prefix_len is_digit (b ∷ bytes)) 0 ≡ true → is_digit b ≡ false
no_digit b bytes e = go _ refl e
  where
    go : (t : Bool) → is_digit b ≡ t → nat_eq (cond t (1 + prefix_len is_digit bytes) 0) 0 ≡ true → is_digit b ≡ false
    go true h e = let wrong : 1 + prefix_len is_digit bytes ≡ 0 = grind arith in absurd (omega arith)
    go false h e = h

name_word : (b : ℕ) (bytes word : List ℕ) → word ≡ b ∷ take (prefix_len is_word_byte bytes) bytes → list_all is_word_byte word ≡ true
    → is_digit b ≡ false → is_none (reserved word) ≡ true → is_name word ≡ true
name_word b bytes word e all digit free =
    let rest : List ℕ = take (prefix_len is_word_byte bytes) bytes in
    subst (λ w. is_name w ≡ true) (sym e) (both_are
    (subst (λ w. list_all is_word_byte w ≡ true) e all)
    (both_are (ap not digit) (subst (λ w. is_none (reserved w) ≡ true) e free)))

of_word : (b : ℕ) (bytes : List ℕ) → is_word_byte b ≡ true
    → IsNamePiece (b ∷ bytes) (word_piece (take (prefix_len is_word_byte (b ∷ bytes)) (b ∷ bytes)) (prefix_len is_digit (b ∷ bytes)))
of_word b bytes e =
    let word : List ℕ = take (prefix_len is_word_byte (b ∷ bytes)) (b ∷ bytes) in
    let digits : ℕ = prefix_len is_digit (b ∷ bytes) in
    let whole : take (length word) (b ∷ bytes) ≡ word = ap (λ n. take n (b ∷ bytes)) (length-prefix_len is_word_byte (b ∷ bytes)) in
    of_either (b ∷ bytes) (nat_eq digits (length word)) _ _ (λ t. of_number (b ∷ bytes) (below_limit (digits_value 10 word)) (length word))
    (λ t. of_either (b ∷ bytes) (bytes_eq word (codes "5tuple")) _ _ (λ t. tt)
    (λ t. of_either (b ∷ bytes) (nat_eq digits 0) _ _
    (λ t. of_name (b ∷ bytes) (reserved word) (length word)
    (λ free. subst (λ w. is_name w ≡ true) (sym whole) (name_word b bytes word (first_byte b bytes e) (word_bytes (b ∷ bytes))
    (no_digit b bytes t) free)))
    (λ t. tt)))

of_piece : (b : ℕ) (bytes : List ℕ) → IsNamePiece (b ∷ bytes) (piece (b ∷ bytes))
of_piece b bytes = of_either (b ∷ bytes) (is_blank b) _ _ (λ t. tt) (λ t. of_either (b ∷ bytes) (nat_eq b 35) _ _ (λ t. tt)
    (λ t. of_either (b ∷ bytes) (is_word_byte b) _ _ (λ w. of_word b bytes w) (λ t. of_mark_at (b ∷ bytes) b bytes)))

abbrev Pair : Type 0
Pair = List Token × List (List ℕ)

same_found : (a b : Pair) → ◌≡◌ {A = Cut} (Ok a) (Ok b) → a ≡ b
same_found a b e = cc

of_front : (t : Token) (o : Cut) {found : Pair} → ((got : Pair) → o ≡ Ok got → AreGood got.1) → with_front t o ≡ Ok found → AreGood found.1
of_front t (Ok got) {found} h e = subst (λ (p : Pair). AreGood p.1) (same_found _ found e) (h got refl)
of_front t (Err fault) h e = absurd cc

of_cut_piece : (p : Piece) (at : ℕ) {known : List (List ℕ)} (bytes : List ℕ) (next : ℕ → List (List ℕ) → Cut) {found : Pair} → AreGood known
    → IsNamePiece bytes p → ((k : ℕ) (later : List (List ℕ)) (got : Pair) → AreGood later → next k later ≡ Ok got → AreGood got.1)
    → cut_piece p at known bytes next ≡ Ok found → AreGood found.1
of_cut_piece (pieces.Blank n) at {known} bytes next {found} good is h e = h n known found good e
of_cut_piece (pieces.Name n) at {known} bytes next good is h e =
    of_front _ _
    (λ got. h n (with_name known (take n _)) got (with_good _ good is)) e
of_cut_piece (pieces.Token kind n) at {known} bytes next good is h e = of_front _ _ (λ got. h n known got good) e
of_cut_piece (pieces.Fault kind n) at bytes next good is h e = absurd cc

of_end : (at : ℕ) {known : List (List ℕ)} {found : Pair} → AreGood known
    → ◌≡◌ {A = Cut} (Ok (token_at kinds.End at at ∷ [], known)) (Ok found) → AreGood found.1
of_end at {found} good e = subst (λ (p : Pair). AreGood p.1) (same_found _ found e) good

pub cut_good : (n at : ℕ) {known : List (List ℕ)} (bytes : List ℕ) (found : Pair) → AreGood known → cut n at known bytes ≡ Ok found
    → AreGood found.1
unfolding cut
cut_good zero at bytes found good e = of_end at good e
cut_good (suc n) at [] found good e = of_end at good e
cut_good (suc n) at (b ∷ bytes) found good e =
    of_cut_piece (piece (b ∷ bytes)) at (b ∷ bytes) (λ k later. cut n (at + k) later (drop k (b ∷ bytes))) good
    (of_piece b bytes)
    (λ k later got g h. cut_good n (at + k) (drop k (b ∷ bytes)) got g h) e
