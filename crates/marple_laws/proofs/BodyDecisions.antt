-- Whether tokens of bodies are the same, and whether a body is valid, is decided.
use Rattle.marple_laws.proofs.Words
use Words.{◌≡◌, ℕ, ◌+◌, ◌<◌, ◌^◌, true, false, List, [], ◌∷◌, get_or, refl, sym, ap, ap₂, ◌∙◌, subst, inl, inr, ◌==◌, if◌then◌else◌, Op}
use Words.{Block, End, Set, Fork, IsConstant, IsValidBlock, IsValidTerm, TakesOperands, is_condition, Term, Literal, Read, Negation}
use Words.{Operation, Lexeme, IsBody, block_written, bodies}
use Rattle.query_lang.specs.declared.fold.Op.TheVariants as ops
use Rattle.plan_file.specs.declared.lexemes.Lexeme.TheVariants as word
use Rattle.marple_laws.proofs.Decisions.{Decided, both, by_both, is_false, is_true, less, most, same_list, same_number}

-- functions by their numbers

abbrev number_of : Op → ℕ
number_of ops.Mul = 0
number_of ops.Div = 1
number_of ops.Rem = 2
number_of ops.Add = 3
number_of ops.Sub = 4
number_of ops.Shl = 5
number_of ops.Shr = 6
number_of ops.And = 7
number_of ops.Xor = 8
number_of ops.Or = 9
number_of ops.Eq = 10
number_of ops.Ne = 11
number_of ops.Lt = 12
number_of ops.Le = 13
number_of ops.Gt = 14
number_of ops.Ge = 15
number_of ops.Both = 16
number_of ops.Either = 17
number_of ops.Max = 18
number_of ops.Min = 19
number_of ops.Sadd = 20
number_of ops.Decay = 21

abbrev all_ops : List Op
all_ops = ops.Mul ∷ ops.Div ∷ ops.Rem ∷ ops.Add ∷ ops.Sub ∷ ops.Shl ∷ ops.Shr ∷ ops.And ∷ ops.Xor ∷ ops.Or ∷ ops.Eq ∷ ops.Ne ∷ ops.Lt
    ∷ ops.Le ∷ ops.Gt ∷ ops.Ge ∷ ops.Both ∷ ops.Either ∷ ops.Max ∷ ops.Min ∷ ops.Sadd ∷ ops.Decay ∷ []

op_again : (op : Op) → get_or all_ops (number_of op) ops.Mul ≡ op
op_again ops.Mul = refl
op_again _ = refl

-- tokens as two numbers

abbrev kind_of : Lexeme → ℕ
kind_of word.Set = 0
kind_of word.If = 1
kind_of word.Open = 2
kind_of word.Close = 3
kind_of word.Not = 4
kind_of (word.Function op) = 5
kind_of (word.Number n) = 6
kind_of (word.State n) = 7
kind_of (word.Argument n) = 8
kind_of word.Other = 9

abbrev part_of : Lexeme → ℕ
part_of (word.Function op) = number_of op
part_of (word.Number n) = n
part_of (word.State n) = n
part_of (word.Argument n) = n
part_of _ = 0

abbrev word_with : ℕ → ℕ → Lexeme
word_with kind part =
    if kind == 0 then word.Set else
    if kind == 1 then word.If else
    if kind == 2 then word.Open else
    if kind == 3 then word.Close else
    if kind == 4 then word.Not else
    if kind == 5 then word.Function (get_or all_ops part ops.Mul) else
    if kind == 6 then word.Number part else
    if kind == 7 then word.State part else
    if kind == 8 then word.Argument part else
    word.Other

word_again : (w : Lexeme) → word_with (kind_of w) (part_of w) ≡ w
word_again (word.Function op) = ap word.Function (op_again _)
word_again _ = refl

same_word : (a b : Lexeme) → Decided (a ≡ b)
same_word a b =
    by_both (λ p. sym (word_again a) ∙ ap₂ word_with p.0 p.1 ∙ word_again b) (λ e. (ap kind_of e, ap part_of e))
    (both (same_number _ _) (same_number _ _))

-- valid terms and blocks

constant : (P : ℕ → Type 0) → ((n : ℕ) → Decided (P n)) → (e : Term) → Decided (IsConstant P e)
constant P decide (Literal n) = decide n
constant P decide _ = inr (λ p. p)

conditions : (a b : Term) → Decided ((is_condition a ≡ true) × (is_condition b ≡ true))
conditions a b = both (is_true _) (is_true _)

two_words : (a b : Term) → Decided ((is_condition a ≡ false) × (is_condition b ≡ false))
two_words a b = both (is_false _) (is_false _)

divided : (a b : Term) → Decided ((is_condition a ≡ false) × IsConstant (λ n. 0 < n) b)
divided a b = both (is_false _) (constant _ (λ n. less 0 n) b)

shifted : (a b : Term) → Decided ((is_condition a ≡ false) × IsConstant (λ n. n < 64) b)
shifted a b = both (is_false _) (constant _ (λ n. less n 64) b)

takes : (op : Op) (a b : Term) → Decided (TakesOperands op a b)
takes ops.Mul a b = two_words a b
takes ops.Div a b = divided a b
takes ops.Rem a b = divided a b
takes ops.Add a b = two_words a b
takes ops.Sub a b = two_words a b
takes ops.Shl a b = shifted a b
takes ops.Shr a b = shifted a b
takes ops.And a b = two_words a b
takes ops.Xor a b = two_words a b
takes ops.Or a b = two_words a b
takes ops.Eq a b = two_words a b
takes ops.Ne a b = two_words a b
takes ops.Lt a b = two_words a b
takes ops.Le a b = two_words a b
takes ops.Gt a b = two_words a b
takes ops.Ge a b = two_words a b
takes ops.Both a b = conditions a b
takes ops.Either a b = conditions a b
takes ops.Max a b = two_words a b
takes ops.Min a b = two_words a b
takes ops.Sadd a b = two_words a b
takes ops.Decay a b = shifted a b

valid_term : (slots : ℕ) (e : Term) → Decided (IsValidTerm slots e)
valid_term slots (Literal n) = less n (2 ^ 64)
valid_term slots (Read s) = less s slots
valid_term slots (Negation e) = both (valid_term _ e) (is_true _)
valid_term slots (Operation op a b) =
    by_both (λ p. (p.0.0, p.0.1, p.1)) (λ p. ((p.0, p.1), p.2)) (both (both (valid_term _ a) (valid_term _ b)) (takes _ a b))

valid_block : (states args : ℕ) (b : Block) → Decided (IsValidBlock states args b)
valid_block states args End = inl tt
valid_block states args (Set v e rest) =
    by_both (λ p. (p.0.0, p.0.1, p.1.0, p.1.1)) (λ p. ((p.0, p.1), (p.2, p.3)))
    (both (both (less v states) (valid_term (states + args) e)) (both (is_false (is_condition e)) (valid_block states args rest)))
valid_block states args (Fork c a b rest) =
    by_both (λ p. (p.0.0, p.0.1, p.1.0, p.1.1.0, p.1.1.1)) (λ p. ((p.0, p.1), (p.2, (p.3, p.4))))
    (both (both (valid_term (states + args) c) (is_true (is_condition c)))
    (both (valid_block states args a) (both (valid_block states args b) (valid_block states args rest))))

-- the body that tokens write is the only one that they can be
pub is_body : (states args : ℕ) (words : List Lexeme) → Decided ((body : Block) × IsBody states args words body)
is_body states args words =
    let body = block_written states words in
    by_both
    (λ p. (body, record { statements = p.0; typed = p.1.0; nesting = p.1.1 }))
    (λ found.
    let same : found.0 ≡ body = sym (bodies.written states args words found.0 found.1) in
    let is = subst (IsBody states args words) same found.1 in
    (is.statements, (is.typed, is.nesting)))
    (both (same_list same_word _ _) (both (valid_block _ _ _) (most _ _)))
