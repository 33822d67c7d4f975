-- What the tokens of an expression and of a block begin with.
use Rattle.std.proofs.Common.{◌≡◌, ℕ, ◌+◌, ◌-◌, ◌<◌, ◌≤◌, Bool, true, false, List, [], ◌∷◌, ◌++◌, length, get_or, drop, refl, sym, ap, ◌∙◌}
use Rattle.std.proofs.{Common.{subst, arith, append_assoc}, lemmas.List.Sums.sum_by-append}
use Rattle.std.specs.Prelude.{nat_lt, if◌then◌else◌, cond, count_by}
use Rattle.query_lang.specs.{declared.fold.{Op.Op, TypedStmt.TypedStmt}, Terms.{Term, Literal, Read, Negation, Operation}}
use Rattle.query_lang.specs.Blocks.{Block, End, Set, Fork, followed, block_of, stmt_block}
use Rattle.query_lang.specs.Folds.{IsValidTerm, IsValidBlock, term_nodes, block_nodes, block_count}
use Rattle.plan_file.specs.declared.lexemes.Lexeme.{Lexeme}
use Rattle.plan_file.specs.declared.lexemes.Lexeme.TheVariants as word
use Rattle.plan_file.specs.Bodies.{slot_lexeme, written, written_block}
use Rattle.plan_file.specs.Trees.{Closes, IsStatement, begins_statement, AreSmall, is_node, is_set, is_if}

head_same : (a b : Lexeme) (xs ys : List Lexeme) → a ∷ xs ≡ b ∷ ys → a ≡ b
head_same a b xs ys e = cc

pub tail_same : (a b : Lexeme) (xs ys : List Lexeme) → a ∷ xs ≡ b ∷ ys → xs ≡ ys
tail_same a b xs ys e = cc

slot_not : (states s : ℕ) (b : Bool) → (if b then word.State s else word.Argument (s - states)) ≡ word.Not → ⊥
slot_not states s true e = cc
slot_not states s false e = cc

slot_function : (states s : ℕ) (op : Op) (b : Bool) → (if b then word.State s else word.Argument (s - states)) ≡ word.Function op → ⊥
slot_function states s op true e = cc
slot_function states s op false e = cc

pub no_words : (states : ℕ) (words : List Lexeme) (e : Term) (rest : List Lexeme) → length words < 1 → words ≡ written states e ++ rest → ⊥
no_words states [] (Literal n) rest lt is = cc
no_words states [] (Read s) rest lt is = cc
no_words states [] (Negation e) rest lt is = cc
no_words states [] (Operation op a b) rest lt is = cc
no_words states (w ∷ ws) e rest lt is = omega (arith, lt)

-- `not` begins a negation
pub not_case : (states slots : ℕ) (d : Lexeme) (words : List Lexeme) (e : Term) (rest : List Lexeme) → 1 ≤ length words
    → get_or words 0 d ≡ word.Not → IsValidTerm slots e
    → words ≡ written states e ++ rest → (x : Term) × (e ≡ Negation x) × IsValidTerm slots x × (drop 1 words ≡ written states x ++ rest)
not_case states slots d [] e rest le first v is = absurd (omega (arith, le))
not_case states slots d (w ∷ ws) (Literal n) rest le first v is = absurd
    (let same : w ≡ word.Number n = head_same w (word.Number n) ws rest is in cc)
not_case states slots d (w ∷ ws) (Read s) rest le first v is = absurd (slot_not states s (nat_lt s states)
    (sym (head_same w (slot_lexeme states s) ws rest is) ∙ first))
not_case states slots d (w ∷ ws) (Negation x) rest le first v is = (x, refl, v.0, tail_same w word.Not ws (written states x ++ rest) is)
not_case states slots d (w ∷ ws) (Operation op a b) rest le first v is =
    absurd (let same : w ≡ word.Function op = head_same w (word.Function op) ws ((written states a ++ written states b) ++ rest) is in cc)

-- a function of two operands begins an operation
pub function_case : (states slots : ℕ) (d : Lexeme) (op : Op) (words : List Lexeme) (e : Term) (rest : List Lexeme) → 1 ≤ length words
    → get_or words 0 d ≡ word.Function op → IsValidTerm slots e
    → words ≡ written states e ++ rest → (a : Term) × (b : Term) × (e ≡ Operation op a b) × IsValidTerm slots a × IsValidTerm slots b
    × (drop 1 words ≡ written states a ++ (written states b ++ rest))
function_case states slots d op [] e rest le first v is = absurd (omega (arith, le))
function_case states slots d op (w ∷ ws) (Literal n) rest le first v is =
    absurd (let same : w ≡ word.Number n = head_same w (word.Number n) ws rest is in cc)
function_case states slots d op (w ∷ ws) (Read s) rest le first v is =
    absurd (slot_function states s op (nat_lt s states) (sym (head_same w (slot_lexeme states s) ws rest is) ∙ first))
function_case states slots d op (w ∷ ws) (Negation x) rest le first v is =
    absurd (let same : w ≡ word.Not = head_same w word.Not ws (written states x ++ rest) is in cc)
function_case states slots d op (w ∷ ws) (Operation f a b) rest le first v is =
    let same : w ≡ word.Function f = head_same w (word.Function f) ws ((written states a ++ written states b) ++ rest) is in
    let both : word.Function f ≡ word.Function op = sym same ∙ first in
    let ops : f ≡ op = cc in (
      a,
      b,
      ap (λ o. Operation o a b) ops,
      v.0,
      v.1,
      tail_same w (word.Function f) ws ((written states a ++ written states b) ++ rest) is
          ∙ append_assoc (written states a) (written states b) rest,
    )

-- a choice and what follows it
pub choice_front : (c a b rest : List Lexeme) → (c ++ (word.Open ∷ (a ++ (word.Close ∷ word.Open ∷ (b ++ word.Close ∷ []))))) ++ rest ≡ c
    ++ (word.Open ∷ (a ++ (word.Close ∷ word.Open ∷ (b ++ word.Close ∷ rest))))
choice_front c a b rest = simp append_assoc

-- blocks in sequence
followed_end : (b : Block) → followed b End ≡ b
followed_end End = refl
followed_end (Set v e rest) = ap (Set v e) (followed_end rest)
followed_end (Fork c a b rest) = ap (Fork c a b) (followed_end rest)

followed_assoc : (a b c : Block) → followed (followed a b) c ≡ followed a (followed b c)
followed_assoc End b c = refl
followed_assoc (Set v e rest) b c = ap (Set v e) (followed_assoc rest b c)
followed_assoc (Fork t x y rest) b c = ap (Fork t x y) (followed_assoc rest b c)

block_push : (xs : List TypedStmt) (y : TypedStmt) → block_of (xs ++ y ∷ []) ≡ followed (block_of xs) (stmt_block y)
block_push [] y = followed_end (stmt_block y)
block_push (x ∷ xs) y = ap (followed (stmt_block x)) (block_push xs y) ∙ sym (followed_assoc (stmt_block x) (block_of xs) (stmt_block y))

-- what is left of a block after the statements that were found
abbrev pub IsLeft : ℕ → ℕ → List TypedStmt → List Lexeme → Block → List Lexeme → Type 0
IsLeft states args found left b rest =
    (next : Block) × IsValidBlock states args next × (followed (block_of found) next ≡ b) × (left ≡ written_block states next ++ rest)

no_begin : (rest : List Lexeme) → Closes rest → begins_statement rest ≡ true → ⊥
no_begin [] c e = cc
no_begin (word.Close ∷ rest) c e = cc
no_begin _ c e = absurd c

-- no statement begins: the block has ended
pub left_last : (states args : ℕ) (found : List TypedStmt) (left : List Lexeme) (b : Block) (rest : List Lexeme)
    → begins_statement left ≡ false → IsLeft states args found left b rest → (block_of found ≡ b) × (left ≡ rest)
left_last states args found left b rest none (End, v, f, is) = (sym (followed_end (block_of found)) ∙ f, is)
left_last states args found left b rest none (Set u e next, v, f, is) =
    absurd (let t : begins_statement left ≡ true = ap begins_statement is in cc)
left_last states args found left b rest none (Fork c x y next, v, f, is) =
    absurd (let t : begins_statement left ≡ true = ap begins_statement is in cc)

-- a statement begins: it is one, and the others come after it
pub record IsAhead (states args : ℕ) (found : List TypedStmt) (left : List Lexeme) (b : Block) (rest : List Lexeme) : Type 0 where
  pub one : Block
  pub next : Block
  pub is_one : IsStatement one
  pub valid_one : IsValidBlock states args one
  pub valid_next : IsValidBlock states args next
  pub whole : followed (block_of found) (followed one next) ≡ b
  pub left_is : left ≡ written_block states one ++ (written_block states next ++ rest)

pub left_ahead : (states args : ℕ) (found : List TypedStmt) (left : List Lexeme) (b : Block) (rest : List Lexeme) → Closes rest
    → begins_statement left ≡ true → IsLeft states args found left b rest → IsAhead states args found left b rest
left_ahead states args found left b rest c some (End, v, f, is) = absurd (no_begin rest c (sym (ap begins_statement is) ∙ some))
left_ahead states args found left b rest c some (Set u e next, v, f, is) = record {
  one = Set u e End;
  next = next;
  is_one = tt;
  valid_one = (v.0, v.1, v.2, tt);
  valid_next = v.3;
  whole = f;
  left_is = is ∙ ap (λ l. word.Set ∷ word.State u ∷ l) (assoc (written states e) (written_block states next) rest);
}
  where
    assoc : (a n r : List Lexeme) → (a ++ n) ++ r ≡ (a ++ []) ++ (n ++ r)
    assoc a n r = append_assoc a n r ∙ sym (append_assoc a [] (n ++ r))
left_ahead states args found left b rest c some (Fork t x y next, v, f, is) = record {
  one = Fork t x y End;
  next = next;
  is_one = tt;
  valid_one = (v.0, v.1, v.2, v.3, tt);
  valid_next = v.4;
  whole = f;
  left_is = is ∙ ap (λ l. word.If ∷ l) (assoc (written states t) (written_block states x) (written_block states y)
      (written_block states next) rest);
}
  where
    assoc : (w p q n r : List Lexeme) → (w ++ (word.Open ∷ (p ++ (word.Close ∷ word.Open ∷ (q ++ (word.Close ∷ n)))))) ++ r
        ≡ (w ++ (word.Open ∷ (p ++ (word.Close ∷ word.Open ∷ (q ++ (word.Close ∷ [])))))) ++ (n ++ r)
    assoc w p q n r = simp append_assoc

pub left_more : (states args : ℕ) (found : List TypedStmt) (left past : List Lexeme) (stmt : TypedStmt) (b : Block) (rest : List Lexeme)
    (a : IsAhead states args found left b rest)
    → stmt_block stmt ≡ a.one → past ≡ written_block states a.next ++ rest → IsLeft states args (found ++ stmt ∷ []) past b rest
left_more states args found left past stmt b rest a same is = (
  a.next,
  a.valid_next,
  ap (λ f. followed f a.next) (block_push found stmt ∙ ap (followed (block_of found)) same)
      ∙ followed_assoc (block_of found) a.one a.next ∙ a.whole,
  is,
)

count_by-append : (p : Lexeme → Bool) (xs ys : List Lexeme) → count_by p (xs ++ ys) ≡ count_by p xs + count_by p ys
count_by-append p xs ys = sum_by-append (λ x. cond (p x) 1 0) xs ys

count_cons : (p : Lexeme → Bool) (x : Lexeme) (xs : List Lexeme) → count_by p (x ∷ xs) ≡ count_by p (x ∷ []) + count_by p xs
count_cons p x xs = count_by-append p (x ∷ []) xs

skip : (p : Lexeme → Bool) (x : Lexeme) (xs : List Lexeme) → p x ≡ false → count_by p (x ∷ xs) ≡ count_by p xs
skip p x xs e =
    let none : count_by p (x ∷ []) ≡ 0 = ap (λ b. 0 + cond b 1 0) e in
    omega (arith, count_cons p x xs, none)

choice_count : (p : Lexeme → Bool) → p word.Open ≡ false → p word.Close ≡ false → (c a b n : List Lexeme)
    → count_by p (c ++ (word.Open ∷ (a ++ (word.Close ∷ word.Open ∷ (b ++ (word.Close ∷ n)))))) ≡ count_by p c
    + (count_by p a + (count_by p b + count_by p n))
choice_count p eo ec c a b n =
    let bn = b ++ (word.Close ∷ n) in
    let an = a ++ (word.Close ∷ word.Open ∷ bn) in
    omega (
      arith,
      count_by-append p c (word.Open ∷ an),
      skip p word.Open an eo,
      count_by-append p a (word.Close ∷ word.Open ∷ bn),
      skip p word.Close (word.Open ∷ bn) ec,
      skip p word.Open bn eo,
      count_by-append p b (word.Close ∷ n),
      skip p word.Close n ec,
    )

-- tokens count the nodes and statements that they write
term_counts : (states : ℕ) (e : Term) → (count_by is_node (written states e) ≡ term_nodes e) × (count_by is_set (written states e) ≡ 0)
    × (count_by is_if (written states e) ≡ 0)
term_counts states (Literal n) = (refl, refl, refl)
term_counts states (Read s) = by (nat_lt s states)
  where
    by : (b : Bool) → (count_by is_node ((if b then word.State s else word.Argument (s - states)) ∷ []) ≡ 1)
        × (count_by is_set ((if b then word.State s else word.Argument (s - states)) ∷ []) ≡ 0)
        × (count_by is_if ((if b then word.State s else word.Argument (s - states)) ∷ []) ≡ 0)
    by true = (refl, refl, refl)
    by false = (refl, refl, refl)
term_counts states (Negation e) =
    let h = term_counts states e in
    (count_cons is_node word.Not (written states e) ∙ ap (λ n. 1 + n) h.0, h.1, h.2)
term_counts states (Operation op a b) =
    let h = term_counts states a in
    let g = term_counts states b in
    let both = written states a ++ written states b in
    let n : count_by is_node both ≡ term_nodes a + term_nodes b = omega
    (arith, count_by-append is_node (written states a) (written states b), h.0, g.0) in
    let s : count_by is_set both ≡ 0 = omega (arith, count_by-append is_set (written states a) (written states b), h.1, g.1) in
    let i : count_by is_if both ≡ 0 = omega (arith, count_by-append is_if (written states a) (written states b), h.2, g.2) in
    let sum : 1 + (term_nodes a + term_nodes b) ≡ 1 + term_nodes a + term_nodes b = omega arith in
    (count_cons is_node (word.Function op) both ∙ ap (λ m. 1 + m) n ∙ sum, s, i)

block_counts : (states : ℕ) (b : Block)
    → (count_by is_node (written_block states b) ≡ block_nodes b + count_by is_set (written_block states b))
    × (count_by is_set (written_block states b) + count_by is_if (written_block states b) ≡ block_count b)
block_counts states End = (refl, refl)
block_counts states (Set v e next) =
    let h = term_counts states e in
    let g = block_counts states next in
    let both = written states e ++ written_block states next in
    let n : count_by is_node (written_block states (Set v e next)) ≡ 1 + count_by is_node both = count_cons is_node (word.State v) both in
    let s : count_by is_set (written_block states (Set v e next)) ≡ 1 + count_by is_set both = count_cons is_set word.Set both in
    let i : count_by is_if (written_block states (Set v e next)) ≡ count_by is_if both = refl in
    let nb = count_by-append is_node (written states e) (written_block states next) in
    let sb = count_by-append is_set (written states e) (written_block states next) in
    let ib = count_by-append is_if (written states e) (written_block states next) in
    (omega (arith, n, s, nb, sb, h.0, h.1, g.0), omega (arith, s, i, sb, ib, h.1, h.2, g.1))
block_counts states (Fork c a b next) =
    let h = term_counts states c in
    let ga = block_counts states a in
    let gb = block_counts states b in
    let gn = block_counts states next in
    let wc = written states c in
    let wa = written_block states a in
    let wb = written_block states b in
    let wn = written_block states next in
    let n : count_by is_node (written_block states (Fork c a b next)) ≡ count_by is_node wc
    + (count_by is_node wa + (count_by is_node wb + count_by is_node wn)) = choice_count is_node refl refl wc wa wb wn in
    let s : count_by is_set (written_block states (Fork c a b next)) ≡ count_by is_set wc
    + (count_by is_set wa + (count_by is_set wb + count_by is_set wn)) = choice_count is_set refl refl wc wa wb wn in
    let rest = wc ++ (word.Open ∷ (wa ++ (word.Close ∷ word.Open ∷ (wb ++ (word.Close ∷ wn))))) in
    let i : count_by is_if (written_block states (Fork c a b next)) ≡ 1
    + (count_by is_if wc + (count_by is_if wa + (count_by is_if wb + count_by is_if wn)))
    = count_cons is_if word.If rest ∙ ap (λ m. 1 + m) (choice_count is_if refl refl wc wa wb wn) in
    (omega (arith, n, s, h.0, h.1, ga.0, gb.0, gn.0), omega (arith, s, i, h.1, h.2, ga.1, gb.1, gn.1))

-- tokens of a body count its nodes and statements
pub small_body : (states : ℕ) (words : List Lexeme) (b : Block) (nodes most : ℕ) → words ≡ written_block states b
    → AreSmall words nodes most → (block_nodes b ≤ nodes) × (block_count b ≤ most)
small_body states words b nodes most is small =
    let here : AreSmall (written_block states b) nodes most = subst (λ w. AreSmall w nodes most) is small in
    let c = block_counts states b in
    (omega (arith, c.0, here.few_nodes), omega (arith, c.1, here.few_statements))

pub body_small : (states : ℕ) (words : List Lexeme) (b : Block) (nodes most : ℕ) → words ≡ written_block states b → block_nodes b ≤ nodes
    → block_count b ≤ most → AreSmall words nodes most
body_small states words b nodes most is n s =
    let c = block_counts states b in
    subst (λ w. AreSmall w nodes most) (sym is) (record { few_statements = omega (arith, c.1, s); few_nodes = omega (arith, c.0, n) })

pub same_args : (states args : ℕ) (b : Block) → IsValidBlock states args b → IsValidBlock states (states + args - states) b
same_args states args b v = let e : states + args - states ≡ args = omega arith in subst (λ n. IsValidBlock states n b) (sym e) v
