-- Words without a space and without LF, and how a line of them is split.
use Rattle.marple_laws.proofs.Words
use Words.{◌≡◌, ℕ, Bool, true, false, List, [], ◌∷◌, ◌++◌, refl, ap, ◌∙◌, append-nil, append_assoc, All, flat_map, list_all, All-nil}
use Words.{All-cons, list_all-append, is_line_feed, is_space, pieces, lines, bytes_after_lines, all_but_last, last_of, tokens, spaced}
use Rattle.std.{specs.Prelude.{not, ◌&&◌}, proofs.lemmas.List.Splits.{slice_split_at, slice_split_none}}

-- both of two tests
pub both_true : (a : Bool) {b : Bool} → (a && b) ≡ true → (a ≡ true) × (b ≡ true)
both_true true e = (refl, e)
both_true false e = cc

pub both_are : {a b : Bool} → a ≡ true → b ≡ true → (a && b) ≡ true
both_are e f = cc

not_false : (b : Bool) → not b ≡ true → b ≡ false
not_false true e = cc
not_false false e = refl

-- a test holds for no byte
abbrev pub has_none : (ℕ → Bool) → List ℕ → Bool
has_none test text = list_all (λ b. not (test b)) text

none_pass : (test : ℕ → Bool) (text : List ℕ) → has_none test text ≡ true → All (λ x. test x ≡ false) text
none_pass test [] e = All-nil _
none_pass test (b ∷ text) e =
    let parts = both_true _ e in
    All-cons (λ x. test x ≡ false) b text (not_false (test b) parts.0) (none_pass test text parts.1)

-- a byte that is neither a space nor LF
abbrev pub is_plain : ℕ → Bool
is_plain b = not (is_space b) && not (is_line_feed b)

abbrev pub is_token : List ℕ → Bool
is_token word = list_all is_plain word

abbrev pub AreTokens : List (List ℕ) → Type 0
AreTokens [] = Unit {0}
AreTokens (word ∷ words) = (is_token word ≡ true) × AreTokens words

-- what no plain byte is, no byte of a token is
none_in : (test : ℕ → Bool) → ((b : ℕ) → is_plain b ≡ true → not (test b) ≡ true) → (word : List ℕ) → is_token word ≡ true
    → has_none test word ≡ true
none_in test plain [] e = refl
none_in test plain (b ∷ word) e = (let p = both_true _ e in both_are (plain b p.0) (none_in test plain word p.1))

pub no_space : (word : List ℕ) → is_token word ≡ true → has_none is_space word ≡ true
no_space = none_in _ (λ b plain. (both_true _ plain).0)

pub no_line_feed : (word : List ℕ) → is_token word ≡ true → has_none is_line_feed word ≡ true
no_line_feed = none_in _ (λ b plain. (both_true _ plain).1)

-- the tokens of words with a space between each two
pub tokens_of : (first : List ℕ) (words : List (List ℕ)) → is_token first ≡ true → AreTokens words → tokens (first ++ spaced words) ≡ first
    ∷ words
tokens_of first [] e are = ap tokens (append-nil first) ∙ slice_split_none _ first (none_pass is_space first (no_space first e))
tokens_of first (word ∷ words) e are =
    slice_split_at _ _ _ (word ++ spaced words) (none_pass is_space first (no_space first e)) refl
    ∙ ap (λ l. first ∷ l) (tokens_of word words are.0 are.1)

none_after : (words : List (List ℕ)) → AreTokens words → has_none is_line_feed (spaced words) ≡ true
none_after [] are = refl
none_after (word ∷ words) are =
    list_all-append (λ b. not (is_line_feed b)) word (spaced words)
    ∙ both_are (no_line_feed word are.0) (none_after words are.1)

pub none_in_line : (first : List ℕ) (words : List (List ℕ)) → is_token first ≡ true → AreTokens words
    → has_none is_line_feed (first ++ spaced words) ≡ true
none_in_line first words e are =
    list_all-append (λ b. not (is_line_feed b)) first (spaced words)
    ∙ both_are (no_line_feed first e) (none_after words are)

-- lines without LF
abbrev pub AreLines : List (List ℕ) → Type 0
AreLines [] = Unit {0}
AreLines (one ∷ rest) = (has_none is_line_feed one ≡ true) × AreLines rest

pub lines_append : (xs ys : List (List ℕ)) → AreLines xs → AreLines ys → AreLines (xs ++ ys)
lines_append [] ys a b = b
lines_append (x ∷ xs) ys a b = (a.0, lines_append xs ys a.1 b)

-- each line with LF after it
abbrev pub ended : List (List ℕ) → List ℕ
ended all = flat_map (λ one. one ++ 10 ∷ []) all

pub pieces_of : (all : List (List ℕ)) → AreLines all → pieces (ended all) ≡ all ++ [] ∷ []
pieces_of [] are = refl
pieces_of (one ∷ all) are =
    ap pieces (append_assoc one (10 ∷ []) (ended all))
    ∙ slice_split_at _ _ _ (ended all) (none_pass is_line_feed one are.0) refl
    ∙ ap (λ l. one ∷ l) (pieces_of all are.1)

but_last : (all : List (List ℕ)) → all_but_last (all ++ [] ∷ []) ≡ all
but_last (one ∷ next ∷ all) = ap (λ l. one ∷ l) (but_last _)
but_last _ = refl

the_last : (all : List (List ℕ)) → last_of (all ++ [] ∷ []) ≡ []
the_last (one ∷ next ∷ all) = the_last (next ∷ all)
the_last _ = refl

pub lines_of : {all : List (List ℕ)} → AreLines all → lines (ended all) ≡ all
lines_of are = ap all_but_last (pieces_of _ are) ∙ but_last _

pub nothing_after : (all : List (List ℕ)) → AreLines all → bytes_after_lines (ended all) ≡ []
nothing_after all are = ap last_of (pieces_of all are) ∙ the_last all
