-- The words of a body are read as the tokens that write it.
use Rattle.marple_laws.proofs.Words
use Words.{◌≡◌, ℕ, ◌+◌, ◌-◌, ◌^◌, ◌<◌, ◌≤◌, Bool, true, false, eqb, List, [], ◌∷◌, ◌++◌, Some, None, refl, ap, ◌∙◌, arith, decimal, codes}
use Words.{if◌then◌else◌, decimal_is_IsNumeral, map-append, digit_from_value, AllDigits, Op, Block, End, Set, Fork, Term, Literal, Read}
use Words.{Negation, Operation, IsValidTerm, IsValidBlock, block_count, MAX_STATEMENTS, number, function_named, lexeme_among, lexeme_of}
use Words.{other_named, comparison_named, slot_lexeme, written, written_block, open_braces, IsBody, function_word, number_word, state_word}
use Words.{slot_word, term_words, block_words}
use Rattle.std.specs.Prelude.{map, nat_lt}
use Rattle.query_lang.specs.declared.fold.Op.TheVariants as ops
use Rattle.plan_file.specs.declared.lexemes.Lexeme.TheVariants as word
use Rattle.marple_laws.proofs.{Tokens.{is_token, AreTokens}, Numbers.{number_decimal, token_marked}}

pub function_read : (op : Op) → function_named (function_word op) ≡ Some op
unfolding function_named comparison_named other_named
function_read ops.Mul = refl
function_read _ = refl

pub token_function : (op : Op) → is_token (function_word op) ≡ true
token_function ops.Mul = refl
token_function _ = refl

function_lexeme : (op : Op) → lexeme_of (function_word op) ≡ word.Function op
unfolding lexeme_of function_named comparison_named other_named
function_lexeme ops.Mul = refl
function_lexeme _ = refl

number_lexeme : (n : ℕ) → n < 2 ^ 64 → lexeme_of (number_word n) ≡ word.Number n
unfolding lexeme_of function_named comparison_named other_named
number_lexeme n small = ap (λ o. lexeme_among None o None None) (number_decimal small)

-- a digit is none of the letters that follow `s` or `a` in another word
other_byte : (c d : ℕ) → c ≤ 57 → 57 < d → eqb c d ≡ false
other_byte c d low high = grind arith

state_digits : (ds : List ℕ) (v : ℕ) → AllDigits 10 ds → number ds ≡ Some v → lexeme_of (115 ∷ ds) ≡ word.State v
unfolding lexeme_of function_named comparison_named other_named
state_digits [] v d e = cc
state_digits (c ∷ ds) v d e =
    let k = digit_from_value c d.0 in
    let low : c ≤ 57 = k.1 in
    rw (
      other_byte c 101 low (omega arith),
      other_byte c 117 low (omega arith),
      other_byte c 104 low (omega arith),
      other_byte c 97 low (omega arith),
    )
    (ap (λ o. lexeme_among None None o None) e)

argument_digits : (ds : List ℕ) {v : ℕ} → AllDigits 10 ds → number ds ≡ Some v → lexeme_of (97 ∷ ds) ≡ word.Argument v
unfolding lexeme_of function_named comparison_named other_named
argument_digits [] d e = cc
argument_digits (c ∷ ds) d e =
    let k = digit_from_value c d.0 in
    let low : c ≤ 57 = k.1 in
    rw (other_byte c 100 low (omega arith), other_byte c 110 low (omega arith))
    (ap (λ o. lexeme_among None None None o) e)

state_lexeme : (v : ℕ) → v < 2 ^ 64 → lexeme_of (state_word v) ≡ word.State v
state_lexeme v small = state_digits _ v (decimal_is_IsNumeral v small).0.1 (number_decimal small)

slot_read : (states s : ℕ) → s < 2 ^ 64 → lexeme_of (slot_word states s) ≡ slot_lexeme states s
slot_read states s small = by _
  where
    less : s - states < 2 ^ 64
    less = omega arith

    by : (b : Bool) → lexeme_of (if b then state_word s else 97 ∷ decimal (s - states))
        ≡ (if b then word.State s else word.Argument (s - states))
    by true = state_lexeme s small
    by false = argument_digits _ (decimal_is_IsNumeral (s - states) less).0.1 (number_decimal less)

-- the lexemes of the words that are the same in all bodies
record FixedLexemes : Type 0 where
  set : lexeme_of (codes "set") ≡ word.Set
  if_word : lexeme_of (codes "if") ≡ word.If
  opening : lexeme_of (codes "{") ≡ word.Open
  closing : lexeme_of (codes "}") ≡ word.Close
  not : lexeme_of (codes "not") ≡ word.Not

fixed : FixedLexemes
unfolding lexeme_of
fixed = record { set = refl; if_word = refl; opening = refl; closing = refl; not = refl }

-- this many slots have numbers that fit a word
abbrev pub AreFew : ℕ → Type 0
AreFew slots = slots < 2 ^ 64

pub term_read : (states slots : ℕ) (e : Term) → AreFew slots → IsValidTerm slots e → map lexeme_of (term_words states e) ≡ written states e
term_read states slots (Literal n) few v = λ k. number_lexeme n v k ∷ []
term_read states slots (Read s) few v = λ k. slot_read states s (omega (arith, few, v)) k ∷ []
term_read states slots (Negation e) few v = λ k. fixed.not k ∷ term_read states slots e few v.0 k
term_read states slots (Operation op a b) few v =
    let both : map lexeme_of (term_words states a ++ term_words states b) ≡ written states a ++ written states b =
    map-append lexeme_of (term_words states a) (term_words states b)
    ∙ (λ k. term_read states slots a few v.0 k ++ term_read states slots b few v.1 k) in
    λ k. function_lexeme op k ∷ both k

pub block_read : (states args : ℕ) (body : Block) → AreFew (states + args) → IsValidBlock states args body
    → map lexeme_of (block_words states body) ≡ written_block states body
block_read states args End few v = refl
block_read states args (Set s e next) few v =
    let small : s < 2 ^ 64 = omega (arith, v.0, few) in
    let rest : map lexeme_of (term_words states e ++ block_words states next) ≡ written states e ++ written_block states next =
    map-append lexeme_of (term_words states e) (block_words states next)
    ∙ (λ k. term_read states (states + args) e few v.1 k ++ block_read states args next few v.3 k) in
    λ k. fixed.set k ∷ state_lexeme s small k ∷ rest k
block_read states args (Fork c a b next) few v =
    let x = term_words states c in
    let y = block_words states a in
    let z = block_words states b in
    let n = block_words states next in
    pieces (codes "if") (codes "{") (codes "}") x y z n
    ∙ (λ k. fixed.if_word k ∷ (term_read states (states + args) c few v.0 k
    ++ (fixed.opening k ∷ (block_read states args a few v.2 k
    ++ (fixed.closing k ∷ fixed.opening k ∷ (block_read states args b few v.3 k
    ++ (fixed.closing k ∷ block_read states args next few v.4 k)))))))
  where
    pieces : (i o e : List ℕ) (x y z n : List (List ℕ)) → map lexeme_of (i ∷ (x ++ (o ∷ (y ++ (e ∷ o ∷ (z ++ (e ∷ n))))))) ≡ lexeme_of i
        ∷ (map lexeme_of x ++ (lexeme_of o ∷ (map lexeme_of y ++ (lexeme_of e ∷ lexeme_of o
        ∷ (map lexeme_of z ++ (lexeme_of e ∷ map lexeme_of n))))))
    pieces i o e x y z n = simp (map-append)

-- each choice is a statement, so there are no more braces open at once than statements
pub few_braces : (body : Block) → open_braces body ≤ block_count body
few_braces End = omega arith
few_braces (Set v e next) = omega (arith, few_braces next)
few_braces (Fork c a b next) = omega (arith, few_braces a, few_braces b, few_braces next)

-- the words are tokens

tokens_append : (xs ys : List (List ℕ)) → AreTokens xs → AreTokens ys → AreTokens (xs ++ ys)
tokens_append [] ys a b = b
tokens_append (x ∷ xs) ys a b = (a.0, tokens_append xs ys a.1 b)

token_slot : (states s : ℕ) → s < 2 ^ 64 → is_token (slot_word states s) ≡ true
token_slot states s small = by (nat_lt s states)
  where
    by : (b : Bool) → is_token (if b then state_word s else 97 ∷ decimal (s - states)) ≡ true
    by true = token_marked 115 s refl small
    by false = token_marked 97 (s - states) refl (omega arith)

tokens_term : (states slots : ℕ) (e : Term) → AreFew slots → IsValidTerm slots e → AreTokens (term_words states e)
tokens_term states slots (Literal n) few v = (token_marked 35 n refl v, tt)
tokens_term states slots (Read s) few v = (token_slot states s (omega (arith, few, v)), tt)
tokens_term states slots (Negation e) few v = (refl, tokens_term states slots e few v.0)
tokens_term states slots (Operation op a b) few v = (
  token_function op,
  tokens_append (term_words states a) (term_words states b) (tokens_term states slots a few v.0) (tokens_term states slots b few v.1),
)

pub tokens_block : (states args : ℕ) (body : Block) → AreFew (states + args) → IsValidBlock states args body
    → AreTokens (block_words states body)
tokens_block states args End few v = tt
tokens_block states args (Set s e next) few v = (
  refl,
  (
    token_marked 115 s refl (omega (arith, v.0, few)),
    tokens_append (term_words states e) (block_words states next) (tokens_term states (states + args) e few v.1)
        (tokens_block states args next few v.3),
  ),
)
tokens_block states args (Fork c a b next) few v = (
  refl,
  tokens_append (term_words states c) _ (tokens_term states (states + args) c few v.0) (
    refl,
    tokens_append (block_words states a) _ (tokens_block states args a few v.2) (
      refl,
      (refl, tokens_append (block_words states b) _ (tokens_block states args b few v.3) (refl, tokens_block states args next few v.4)),
    ),
  ),
)

-- the words write the body
pub body_written : (states args : ℕ) (body : Block) → AreFew (states + args) → IsValidBlock states args body
    → block_count body ≤ MAX_STATEMENTS → IsBody states args (map lexeme_of (block_words states body)) body
body_written states args body few v least = record {
  statements = block_read states args body few v;
  typed = v;
  nesting = omega (arith, few_braces body, least);
}
