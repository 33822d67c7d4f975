-- The numbers in expressions and statements are words.
use Rattle.std.proofs.Common.{◌≡◌, ℕ, zero, suc, List, [], ◌∷◌, map, Option, Some, None, sym, subst, arith, inl, inr, ◌⊎◌}
use Rattle.std.proofs.lemmas.List.Elements.{All-head, All-tail}
use Rattle.std.specs.Prelude.{All, max}
use Rattle.query_lang.specs.declared.query.Stmt.{Stmt, Assign, If, Emit}
use Rattle.query_lang.specs.declared.token.Mark.TheVariants as marks
use Rattle.query_lang.specs.declared.token.Word.TheVariants as words
use Rattle.query_types.specs.Numbers.{greatest_of, number_step, greatest_number, stmt_number_step, greatest_in}
use Rattle.query_grammar.specs.Grammar.{grouped, compared, negated, else_of, Operators, either_ops, both_ops, or_ops, xor_ops, and_ops}
use Rattle.query_grammar.specs.Grammar.{shift_ops, sum_ops, product_ops, Level, Atom, CallOf, Unary, Product, Sum, Shift, BitAnd, BitXor}
use Rattle.query_grammar.specs.Grammar.{BitOr, Comparison, Conjunction, Disjunction, Expression, Assignment, Emission, Block, IfPart}
use Rattle.query_grammar.specs.Grammar.{ElsePart, IfStatement, Statement_at}
use Rattle.query_grammar.proofs.ItemWeights.{all_cons, all_none}
use Rattle.query_laws.proofs.Terms.{Span, Op, Name, Expr, Number, Named, Not, Binary, Call, rolls-Number, rolls-Named, rolls-Not}
use Rattle.query_laws.proofs.Terms.{rolls-Binary, rolls-Call, rolls-Assign, rolls-If, rolls-Emit, IsWord, Language, Leaf, Chain, Chained}
use Rattle.query_laws.proofs.{Terms.{sign, keyword}, Holds.{HaveWords, both_have, Holds, any_holds, number_holds, then_holds, second_holds}}
use Rattle.query_laws.proofs.Holds.{meaning_holds, either_holds, repeated_holds, if_some, once_holds, after_holds, between_holds}
use Rattle.query_laws.proofs.{Holds.{parens_hold, listed_holds}, Layers.{expr_at, stmt_at}}

-- ---- the greatest number

greater : {a b : ℕ} → IsWord a → IsWord b → IsWord (max a b)
greater h k = omega arith

pub greatest_word : {X : Type 0} (f : X → ℕ) (xs : List X) → All (λ x. IsWord (f x)) xs → IsWord (greatest_of (map f xs))
greatest_word f [] h = omega arith
greatest_word f (x ∷ xs) h = greater (All-head (λ x. IsWord (f x)) x xs h) (greatest_word f xs (All-tail (λ x. IsWord (f x)) x xs h))

abbrev pub is_word_expr : Expr → Type 0
is_word_expr e = IsWord (greatest_number e)

abbrev pub is_word_stmt : Stmt → Type 0
is_word_stmt s = IsWord (greatest_in s)

number_is : {n : ℕ} (s : Span) → greatest_number (Number n s) ≡ n
number_is {n} s = expr_at number_step _ (rolls-Number n s)

named_is : (n : Name) → greatest_number (Named n) ≡ 0
named_is n = expr_at number_step _ (rolls-Named n)

not_is : (s : Span) (e : Expr) → greatest_number (Not s e) ≡ greatest_number e
not_is s e = expr_at number_step _ (rolls-Not s e)

binary_is : (op : Op) (s : Span) (a b : Expr) → greatest_number (Binary op s a b) ≡ max (greatest_number a) (greatest_number b)
binary_is op s a b = expr_at number_step _ (rolls-Binary op s a b)

call_is : (op : Op) (s : Span) (es : List Expr) → greatest_number (Call op s es) ≡ greatest_of (map greatest_number es)
call_is op s es = expr_at number_step _ (rolls-Call op s es)

assign_is : (n : Name) (e : Expr) → greatest_in (Assign n e) ≡ greatest_number e
assign_is n e = stmt_at stmt_number_step _ (rolls-Assign n e)

if_is : (c : Expr) (a b : List Stmt)
    → greatest_in (If c a b) ≡ max (greatest_number c) (max (greatest_of (map greatest_in a)) (greatest_of (map greatest_in b)))
if_is c a b = stmt_at stmt_number_step _ (rolls-If c a b)

emit_is : (s : Span) → greatest_in (Emit s) ≡ 0
emit_is s = stmt_at stmt_number_step _ (rolls-Emit s)

word_at : {n m : ℕ} → n ≡ m → IsWord m → IsWord n
word_at e h = subst IsWord (sym e) h

binary_word : (op : Op) (s : Span) (a b : Expr) → is_word_expr a → is_word_expr b → is_word_expr (Binary op s a b)
binary_word _ s a b h k = word_at (binary_is _ s a b) (greater h k)

-- ---- expressions

abbrev Operand : Type 0
Operand = (Op × Span) × Expr

abbrev operand_word : Operand → Type 0
operand_word o = is_word_expr o.1

grouped_word : (left : Expr) (others : List Operand) → is_word_expr left → All operand_word others → is_word_expr (grouped left others)
grouped_word _ [] h k = h
grouped_word left (o ∷ others) h k =
    grouped_word (Binary o.0.0 o.0.1 left o.1) others (binary_word o.0.0 o.0.1 left o.1 h (All-head operand_word o others k))
    (All-tail operand_word o others k)

compared_word : (left : Expr) (other : Option Operand) → is_word_expr left → if_some operand_word other → is_word_expr (compared left other)
compared_word _ None h k = h
compared_word _ (Some o) h k = binary_word _ _ _ _ h k

negated_word : (spans : List Span) (e : Expr) → is_word_expr e → is_word_expr (negated spans e)
negated_word [] e h = h
negated_word (s ∷ spans) e h = word_at (not_is s (negated spans e)) (negated_word spans e h)

level_holds : {L : Language Expr} (ops : Operators) → Holds L is_word_expr → Holds (Level ops L) is_word_expr
level_holds _ p = meaning_holds (then_holds p (repeated_holds (second_holds _ p))) (λ a h. grouped_word _ _ h.0 h.1)

unary_holds : {L : Language Expr} → Holds L is_word_expr → Holds (Unary L) is_word_expr
unary_holds p = meaning_holds (second_holds _ p) (λ a h. negated_word _ _ h)

comparison_holds : {P : Language Expr} → Holds P is_word_expr → Holds (Comparison P) is_word_expr
comparison_holds {P} p =
    let un : Holds (Unary P) is_word_expr = unary_holds p in
    let pr : Holds (Product P) is_word_expr = level_holds product_ops un in
    let su : Holds (Sum P) is_word_expr = level_holds sum_ops pr in
    let sh : Holds (Shift P) is_word_expr = level_holds shift_ops su in
    let an : Holds (BitAnd P) is_word_expr = level_holds and_ops sh in
    let xo : Holds (BitXor P) is_word_expr = level_holds xor_ops an in
    let bo : Holds (BitOr P) is_word_expr = level_holds or_ops xo in
    meaning_holds (then_holds bo (once_holds (second_holds _ bo))) (λ a h. compared_word a.0 a.1 h.0 h.1)

disjunction_holds : {P : Language Expr} → Holds P is_word_expr → Holds (Disjunction P) is_word_expr
disjunction_holds {P} p =
    let cj : Holds (Conjunction P) is_word_expr = level_holds both_ops (comparison_holds p) in
    level_holds either_ops cj

atom_holds : Holds Atom is_word_expr
atom_holds = either_holds (meaning_holds number_holds (λ a h. word_at (number_is _) h))
    (either_holds (meaning_holds any_holds (λ a h. word_at (number_is a) (omega arith)))
    (meaning_holds any_holds (λ a h. word_at (named_is a) (omega arith))))

call_holds : {E : Language Expr} → Holds E is_word_expr → Holds (CallOf E) is_word_expr
call_holds p = meaning_holds (second_holds _ (parens_hold (listed_holds p))) (λ a h. word_at (call_is _ _ _) (greatest_word _ _ h))

pub expr_holds : (d : ℕ) → Holds (Expression d) is_word_expr
expr_holds zero = disjunction_holds atom_holds
expr_holds (suc d) = let p = expr_holds d in disjunction_holds (either_holds atom_holds (either_holds (parens_hold p) (call_holds p)))

-- ---- statements

assignment_holds : {E : Language Expr} → Holds E is_word_expr → Holds (Assignment E) is_word_stmt
assignment_holds p = meaning_holds (second_holds _ (between_holds (sign marks.Assign) (sign marks.Semicolon) p))
    (λ a h. word_at (assign_is _ _) h)

emission_holds : Holds Emission is_word_stmt
emission_holds = meaning_holds any_holds (λ a h. word_at (emit_is _) (omega arith))

pub block_holds : {S : Language Stmt} → Holds S is_word_stmt → Holds (Block S) (All is_word_stmt)
block_holds p = between_holds (sign marks.OpenBrace) (sign marks.CloseBrace) (repeated_holds p)

-- an `if` and its block, and what comes after an `else`
abbrev branch_word : Expr × List Stmt → Type 0
branch_word v = is_word_expr v.0 × All is_word_stmt v.1

abbrev else_word : (Expr × List Stmt) ⊎ List Stmt → Type 0
else_word (inl v) = branch_word v
else_word (inr b) = All is_word_stmt b

abbrev chain_word : List (Expr × List Stmt) × Option (List Stmt) → Type 0
chain_word v = All branch_word v.0 × if_some (All is_word_stmt) v.1

chains : {T : Language ((Expr × List Stmt) ⊎ List Stmt)} → Holds T else_word
    → (w : List Leaf) (v : List (Expr × List Stmt)) (o : Option (List Stmt)) → Chain T w v o → HaveWords w
    → All branch_word v × if_some (All is_word_stmt) o
chains p w [] None h b = (all_none branch_word, tt)
chains p w [] (Some s) h b = (all_none branch_word, p.is w (inr s) h b)
chains p w (a ∷ others) o h b =
    let r = both_have h.0 h.1 (subst HaveWords h.2 b) in
    let more = chains p h.1 others o h.4 r.1 in
    (all_cons branch_word a others (p.is h.0 (inl a) h.3 r.0) more.0, more.1)

chained_holds : {T : Language ((Expr × List Stmt) ⊎ List Stmt)} → Holds T else_word → Holds (Chained T) chain_word
chained_holds p = record { is = λ w v h b. chains p w _ _ h b }

if_word : (c : Expr) (a b : List Stmt) → is_word_expr c → All is_word_stmt a → All is_word_stmt b → is_word_stmt (If c a b)
if_word c a b h k l = word_at (if_is c a b) (greater h (greater (greatest_word _ a k) (greatest_word _ b l)))

else_words : (v : List (Expr × List Stmt)) (o : Option (List Stmt)) → All branch_word v → if_some (All is_word_stmt) o
    → All is_word_stmt (else_of v o)
else_words [] None h k = all_none is_word_stmt
else_words [] (Some b) h k = k
else_words (a ∷ others) o h k =
    let first = All-head branch_word a others h in
    all_cons is_word_stmt (If a.0 a.1 (else_of others o)) []
    (if_word a.0 a.1 (else_of others o) first.0 first.1 (else_words others o (All-tail branch_word a others h) k)) (all_none is_word_stmt)

if_part_holds : {E : Language Expr} {S : Language Stmt} → Holds E is_word_expr → Holds S is_word_stmt
    → Holds (IfPart E S) (λ v. branch_word v.1)
if_part_holds p q = second_holds _ (then_holds (parens_hold p) (block_holds q))

else_part_holds : {E : Language Expr} {S : Language Stmt} → Holds E is_word_expr → Holds S is_word_stmt → Holds (ElsePart E S) else_word
else_part_holds p q = after_holds (keyword words.Else)
    (either_holds (meaning_holds (block_holds q) (λ a h. h)) (meaning_holds (if_part_holds p q) (λ a h. h)))

if_holds : {E : Language Expr} {S : Language Stmt} → Holds E is_word_expr → Holds S is_word_stmt → Holds (IfStatement E S) is_word_stmt
if_holds p q = meaning_holds (then_holds (if_part_holds p q) (chained_holds (else_part_holds p q)))
    (λ a h. if_word _ _ _ h.0.0 h.0.1 (else_words _ _ h.1.0 h.1.1))

pub stmt_holds : (d : ℕ) → Holds (Statement_at d) is_word_stmt
stmt_holds zero = assignment_holds (expr_holds zero)
stmt_holds (suc d) = either_holds (assignment_holds (expr_holds (suc d)))
    (either_holds (if_holds (expr_holds d) (stmt_holds d)) emission_holds)
