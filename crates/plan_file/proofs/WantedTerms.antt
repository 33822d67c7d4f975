-- What a stack of expected things reads, and that reading the first token of an expression reads the same.
use Rattle.std.proofs.Common.{◌≡◌, ℕ, ◌+◌, ◌-◌, ◌^◌, ◌<◌, ◌≤◌, Bool, true, false, not, ◌&&◌, List, [], ◌∷◌, ◌++◌, Some, None, refl, sym, ap}
use Rattle.std.proofs.{Common.{◌∙◌, subst, arith, append_assoc, append-nil}, lemmas.Bool.Decides.nat_tests}
use Rattle.std.specs.Prelude.{nat_lt, reverse, if◌then◌else◌}
use Rattle.query_lang.specs.declared.fold.Op.{Op}
use Rattle.query_lang.specs.declared.fold.Op.TheVariants as ops
use Rattle.query_lang.specs.Blocks as blocks
use Rattle.query_lang.specs.Terms.{Term, Literal, Read, Negation, Operation}
use Rattle.query_lang.specs.Folds.{gives_condition, is_condition, IsConstant, TakesOperands, IsValidTerm, IsValidBlock}
use Rattle.plan_file.specs.declared.lexemes.Lexeme.{Lexeme}
use Rattle.plan_file.specs.declared.lexemes.Lexeme.TheVariants as word
use Rattle.plan_file.specs.declared.wants.Want.{Want, TheVariants.{Word, Condition, Divisor, Shift, Target, Open, Block}}
use Rattle.plan_file.specs.Bodies.{slot_lexeme, written, written_block, open_braces}
use Rattle.plan_file.specs.Wants.{operands, where_true, past_word, after_condition}

pub head_same : (a b : Lexeme) (xs ys : List Lexeme) → a ∷ xs ≡ b ∷ ys → a ≡ b
head_same a b xs ys e = cc

pub tail_same : (a b : Lexeme) (xs ys : List Lexeme) → a ∷ xs ≡ b ∷ ys → xs ≡ ys
tail_same a b xs ys e = cc

-- a test that holds gives what is expected after it
pub where_some : (b : Bool) (wants found : List Want) → where_true b wants ≡ Some found → (b ≡ true) × (found ≡ wants)
where_some true wants found e = (refl, cc)
where_some false wants found e = cc

pub where_none : (b : Bool) (wants : List Want) → where_true b wants ≡ None → b ≡ false
where_none true wants e = cc
where_none false wants e = refl

not_true : (b : Bool) → not b ≡ true → b ≡ false
not_true true e = cc
not_true false e = refl

pub and_both : (a b : Bool) → (a && b) ≡ true → (a ≡ true) × (b ≡ true)
and_both true b e = (refl, e)
and_both false b e = cc

module _ (states args : ℕ) where
  abbrev slots : ℕ
  slots = states + args

  -- an expression of a kind
  abbrev pub ReadsTerm : Bool → List Lexeme → Type 0
  ReadsTerm kind ls = (e : Term) × (ls ≡ written states e) × IsValidTerm slots e × (is_condition e ≡ kind)

  -- a number for which a test holds
  abbrev pub ReadsNumber : (ℕ → Type 0) → List Lexeme → Type 0
  ReadsNumber P ls = (n : ℕ) × (ls ≡ word.Number n ∷ []) × (n < 2 ^ 64) × P n

  -- statements and a closing brace, with room for this many braces
  abbrev pub ReadsBlock : ℕ → List Lexeme → Type 0
  ReadsBlock room ls = (b : blocks.Block) × (ls ≡ written_block states b ++ word.Close ∷ []) × IsValidBlock states args b
      × (open_braces b ≤ room)

  -- these tokens are what is expected
  abbrev pub Reads : Want → List Lexeme → Type 0
  Reads Word ls = ReadsTerm false ls
  Reads Condition ls = ReadsTerm true ls
  Reads Divisor ls = ReadsNumber (λ n. 0 < n) ls
  Reads Shift ls = ReadsNumber (λ n. n < 64) ls
  Reads Target ls = (v : ℕ) × (ls ≡ word.State v ∷ []) × (v < states)
  Reads Open ls = ls ≡ word.Open ∷ []
  Reads (Block room) ls = ReadsBlock room ls

  -- the same for several things in sequence
  abbrev pub AllRead : List Want → List Lexeme → Type 0
  AllRead [] ls = ls ≡ []
  AllRead (w ∷ ws) ls = (front : List Lexeme) × (back : List Lexeme) × (ls ≡ front ++ back) × Reads w front × AllRead ws back

  pub all_join : (xs ys : List Want) (front back : List Lexeme) → AllRead xs front → AllRead ys back → AllRead (xs ++ ys) (front ++ back)
  all_join [] ys front back p q = subst (AllRead ys) (sym (ap (λ l. l ++ back) p)) q
  all_join (x ∷ xs) ys front back (f, b, e, r, more) q =
      (f, b ++ back, ap (λ l. l ++ back) e ∙ append_assoc f b back, r, all_join xs ys b back more q)

  pub all_split : (xs ys : List Want) (ls : List Lexeme) → AllRead (xs ++ ys) ls → (front : List Lexeme) × (back : List Lexeme)
      × (ls ≡ front ++ back) × AllRead xs front × AllRead ys back
  all_split [] ys ls p = ([], ls, refl, refl, p)
  all_split (x ∷ xs) ys ls (f, b, e, r, more) =
      let split = all_split xs ys b more in
      (f ++ split.0, split.1, e ∙ ap (λ l. f ++ l) split.2 ∙ sym (append_assoc f split.0 split.1), (f, split.0, refl, r, split.3), split.4)

  -- one thing, and two
  pub one_read : (w : Want) (ls : List Lexeme) → Reads w ls → AllRead (w ∷ []) ls
  one_read w ls r = (ls, [], sym (append-nil ls), r, refl)

  two_read : (w v : Want) (f b : List Lexeme) → Reads w f → Reads v b → AllRead (w ∷ v ∷ []) (f ++ b)
  two_read w v f b r s = (f, b, refl, r, one_read v b s)

  pub only_one : (w : Want) (ls : List Lexeme) → AllRead (w ∷ []) ls → Reads w ls
  only_one w ls (f, b, e, r, none) = subst (Reads w) (sym (e ∙ ap (λ l. f ++ l) none ∙ append-nil f)) r

  two_split : (w v : Want) (ls : List Lexeme) → AllRead (w ∷ v ∷ []) ls → (f : List Lexeme) × (b : List Lexeme) × (ls ≡ f ++ b) × Reads w f
      × Reads v b
  two_split w v ls (f, b, e, r, more) = (f, b, e, r, only_one v b more)

  -- what nothing is expected after
  nothing_wanted : (wants : List Want) → wants ≡ [] → AllRead (reverse wants) []
  nothing_wanted wants e = subst (λ ws. AllRead (reverse ws) []) (sym e) refl

  pub nothing_read : (wants : List Want) (front : List Lexeme) → wants ≡ [] → AllRead (reverse wants) front → front ≡ []
  nothing_read wants front e p = subst (λ ws. AllRead (reverse ws) front) e p

  pub wanted_go : (ws wants : List Want) (front : List Lexeme) → wants ≡ ws → AllRead (reverse ws) front → AllRead (reverse wants) front
  wanted_go ws wants front e p = subst (λ v. AllRead (reverse v) front) (sym e) p

  pub wanted_back : (ws wants : List Want) (front : List Lexeme) → wants ≡ ws → AllRead (reverse wants) front → AllRead (reverse ws) front
  wanted_back ws wants front e p = subst (λ v. AllRead (reverse v) front) e p

  -- the operands of a function
  constant_go : (P : ℕ → Type 0) (b : Term) → IsValidTerm slots b → IsConstant P b → ReadsNumber P (written states b)
  constant_go P (Literal n) v c = (n, refl, v, c)
  constant_go P (Read s) v c = absurd c
  constant_go P (Negation e) v c = absurd c
  constant_go P (Operation op a b) v c = absurd c

  operands_go : (op : Op) (a b : Term) → IsValidTerm slots a → IsValidTerm slots b → TakesOperands op a b
      → AllRead (reverse (operands op)) (written states a ++ written states b)
  operands_go ops.Both a b va vb t = two_read Condition Condition (written states a) (written states b) (a, refl, va, t.0)
      (b, refl, vb, t.1)
  operands_go ops.Either a b va vb t = two_read Condition Condition (written states a) (written states b) (a, refl, va, t.0)
      (b, refl, vb, t.1)
  operands_go ops.Div a b va vb t = two_read Word Divisor (written states a) (written states b) (a, refl, va, t.0)
      (constant_go (λ n. 0 < n) b vb t.1)
  operands_go ops.Rem a b va vb t = two_read Word Divisor (written states a) (written states b) (a, refl, va, t.0)
      (constant_go (λ n. 0 < n) b vb t.1)
  operands_go ops.Shl a b va vb t = two_read Word Shift (written states a) (written states b) (a, refl, va, t.0)
      (constant_go (λ n. n < 64) b vb t.1)
  operands_go ops.Shr a b va vb t = two_read Word Shift (written states a) (written states b) (a, refl, va, t.0)
      (constant_go (λ n. n < 64) b vb t.1)
  operands_go ops.Decay a b va vb t = two_read Word Shift (written states a) (written states b) (a, refl, va, t.0)
      (constant_go (λ n. n < 64) b vb t.1)
  operands_go op a b va vb t = two_read Word Word (written states a) (written states b) (a, refl, va, t.0) (b, refl, vb, t.1)

  abbrev ReadsPair : List Lexeme → (Term → Term → Type 0) → Type 0
  ReadsPair ls P = (a : Term) × (b : Term) × (ls ≡ written states a ++ written states b) × IsValidTerm slots a × IsValidTerm slots b × P a b

  pair_is : (ls f b : List Lexeme) (x y : Term) → ls ≡ f ++ b → f ≡ written states x → b ≡ written states y → ls ≡ written states x
      ++ written states y
  pair_is ls f b x y e p q = e ∙ ap (λ l. l ++ b) p ∙ ap (λ l. written states x ++ l) q

  terms_back : (k : Bool) (ls : List Lexeme) → (f : List Lexeme) × (b : List Lexeme) × (ls ≡ f ++ b) × ReadsTerm k f × ReadsTerm k b
      → ReadsPair ls (λ a b. (is_condition a ≡ k) × (is_condition b ≡ k))
  terms_back k ls (f, b, e, (x, ex, vx, kx), (y, ey, vy, ky)) = (x, y, pair_is ls f b x y e ex ey, vx, vy, (kx, ky))

  number_back : (P : ℕ → Type 0) (ls : List Lexeme) → (f : List Lexeme) × (b : List Lexeme) × (ls ≡ f ++ b) × ReadsTerm false f
      × ReadsNumber P b → ReadsPair ls (λ a b. (is_condition a ≡ false) × IsConstant P b)
  number_back P ls (f, b, e, (x, ex, vx, kx), (n, en, ln, pn)) = (x, Literal n, pair_is ls f b x (Literal n) e ex en, vx, ln, (kx, pn))

  operands_back : (op : Op) (ls : List Lexeme) → AllRead (reverse (operands op)) ls → ReadsPair ls (TakesOperands op)
  operands_back ops.Both ls p = terms_back true ls (two_split Condition Condition ls p)
  operands_back ops.Either ls p = terms_back true ls (two_split Condition Condition ls p)
  operands_back ops.Div ls p = number_back (λ n. 0 < n) ls (two_split Word Divisor ls p)
  operands_back ops.Rem ls p = number_back (λ n. 0 < n) ls (two_split Word Divisor ls p)
  operands_back ops.Shl ls p = number_back (λ n. n < 64) ls (two_split Word Shift ls p)
  operands_back ops.Shr ls p = number_back (λ n. n < 64) ls (two_split Word Shift ls p)
  operands_back ops.Decay ls p = number_back (λ n. n < 64) ls (two_split Word Shift ls p)
  operands_back op ls p = terms_back false ls (two_split Word Word ls p)

  -- an expression by its first token, and the tokens after that
  abbrev pub first_of : Term → Lexeme
  first_of (Literal n) = word.Number n
  first_of (Read s) = slot_lexeme states s
  first_of (Negation e) = word.Not
  first_of (Operation op a b) = word.Function op

  abbrev pub rest_of : Term → List Lexeme
  rest_of (Literal n) = []
  rest_of (Read s) = []
  rest_of (Negation e) = written states e
  rest_of (Operation op a b) = written states a ++ written states b

  pub first_rest : (e : Term) → written states e ≡ first_of e ∷ rest_of e
  first_rest (Literal n) = refl
  first_rest (Read s) = refl
  first_rest (Negation e) = refl
  first_rest (Operation op a b) = refl

  slot_state : (s : ℕ) → nat_lt s states ≡ true → slot_lexeme states s ≡ word.State s
  slot_state s t = rw t refl

  slot_argument : (s : ℕ) → nat_lt s states ≡ false → slot_lexeme states s ≡ word.Argument (s - states)
  slot_argument s t = rw t refl

  -- an expression whose value is a word
  slot_goes : (s : ℕ) (wants : List Want) (b : Bool) → past_word states slots (if b then word.State s else word.Argument (s - states))
      ≡ Some wants → wants ≡ []
  slot_goes s wants true h = (where_some (nat_lt s states) [] wants h).1
  slot_goes s wants false h = (where_some (nat_lt (states + (s - states)) slots) [] wants h).1

  pub word_goes : (e : Term) (wants : List Want) → past_word states slots (first_of e) ≡ Some wants → IsValidTerm slots e
      → is_condition e ≡ false → AllRead (reverse wants) (rest_of e)
  word_goes (Literal n) wants h v k = nothing_wanted wants (where_some (nat_lt n (2 ^ 64)) [] wants h).1
  word_goes (Read s) wants h v k = nothing_wanted wants (slot_goes s wants (nat_lt s states) h)
  word_goes (Negation e) wants h v k = cc
  word_goes (Operation op a b) wants h v k =
      wanted_go (operands op) wants (written states a ++ written states b) (where_some (not (gives_condition op)) (operands op) wants h).1
      (operands_go op a b v.0 v.1 v.2)

  slot_sticks : (s : ℕ) → s < slots → (b : Bool) → nat_lt s states ≡ b
      → past_word states slots (if b then word.State s else word.Argument (s - states)) ≡ None → ⊥
  slot_sticks s lt true t h = cc (where_none (nat_lt s states) [] h)
  slot_sticks s lt false t h =
      let out : nat_lt (states + (s - states)) slots ≡ false = where_none (nat_lt (states + (s - states)) slots) [] h in
      grind (arith, nat_tests)

  pub word_sticks : (e : Term) → past_word states slots (first_of e) ≡ None → IsValidTerm slots e → is_condition e ≡ false → ⊥
  word_sticks (Literal n) h v k =
      let out : nat_lt n (2 ^ 64) ≡ false = where_none (nat_lt n (2 ^ 64)) [] h in
      let small : n < 2 ^ 64 = v in
      grind (arith, nat_tests)
  word_sticks (Read s) h v k = slot_sticks s v (nat_lt s states) refl h
  word_sticks (Negation e) h v k = cc
  word_sticks (Operation op a b) h v k = not_both (gives_condition op) k (where_none (not (gives_condition op)) (operands op) h)
    where
      not_both : (b : Bool) → b ≡ false → not b ≡ false → ⊥
      not_both true e f = cc
      not_both false e f = cc

  pub word_back : (w : Lexeme) (wants : List Want) (front : List Lexeme) → past_word states slots w ≡ Some wants
      → AllRead (reverse wants) front → ReadsTerm false (w ∷ front)
  word_back (word.Number n) wants front h p =
      let t = where_some (nat_lt n (2 ^ 64)) [] wants h in
      let small : n < 2 ^ 64 = (let e : nat_lt n (2 ^ 64) ≡ true = t.0 in grind (arith, nat_tests)) in
      (Literal n, ap (λ l. word.Number n ∷ l) (nothing_read wants front t.1 p), small, refl)
  word_back (word.State s) wants front h p =
      let t = where_some (nat_lt s states) [] wants h in
      let small : s < slots = (let e : nat_lt s states ≡ true = t.0 in grind (arith, nat_tests)) in
      (Read s, ap (λ l. word.State s ∷ l) (nothing_read wants front t.1 p) ∙ ap (λ l. l ∷ []) (sym (slot_state s t.0)), small, refl)
  word_back (word.Argument a) wants front h p =
      let t = where_some (nat_lt (states + a) slots) [] wants h in
      let small : states + a < slots = (let e : nat_lt (states + a) slots ≡ true = t.0 in grind (arith, nat_tests)) in
      let after_states : nat_lt (states + a) states ≡ false = grind (arith, nat_tests) in
      let number : states + a - states ≡ a = omega arith in (
        Read (states + a),
        ap (λ l. word.Argument a ∷ l) (nothing_read wants front t.1 p) ∙ ap (λ n. word.Argument n ∷ []) (sym number)
            ∙ ap (λ l. l ∷ []) (sym (slot_argument (states + a) after_states)),
        small,
        refl,
      )
  word_back (word.Function op) wants front h p =
      let t = where_some (not (gives_condition op)) (operands op) wants h in
      let q = operands_back op front (wanted_back (operands op) wants front t.1 p) in
      (Operation op q.0 q.1, ap (λ l. word.Function op ∷ l) q.2, (q.3, q.4, q.5), not_true (gives_condition op) t.0)
  word_back _ wants front h p = cc

  -- an expression whose value is a condition
  pub condition_goes : (e : Term) (wants : List Want) → after_condition (first_of e) ≡ Some wants → IsValidTerm slots e
      → is_condition e ≡ true → AllRead (reverse wants) (rest_of e)
  condition_goes (Literal n) wants h v k = cc
  condition_goes (Read s) wants h v k = cc
  condition_goes (Negation e) wants h v k =
      let same : wants ≡ Condition ∷ [] = cc in
      wanted_go (Condition ∷ []) wants (written states e) same (one_read Condition (written states e) (e, refl, v.0, v.1))
  condition_goes (Operation op a b) wants h v k =
      wanted_go (operands op) wants (written states a ++ written states b) (where_some (gives_condition op) (operands op) wants h).1
      (operands_go op a b v.0 v.1 v.2)

  pub condition_sticks : (e : Term) → after_condition (first_of e) ≡ None → is_condition e ≡ true → ⊥
  condition_sticks (Literal n) h k = cc
  condition_sticks (Read s) h k = cc
  condition_sticks (Negation e) h k = cc
  condition_sticks (Operation op a b) h k = cc (k, where_none (gives_condition op) (operands op) h)

  pub condition_back : (w : Lexeme) (wants : List Want) (front : List Lexeme) → after_condition w ≡ Some wants
      → AllRead (reverse wants) front → ReadsTerm true (w ∷ front)
  condition_back word.Not wants front h p =
      let same : wants ≡ Condition ∷ [] = cc in
      let q = only_one Condition front (wanted_back (Condition ∷ []) wants front same p) in
      (Negation q.0, ap (λ l. word.Not ∷ l) q.1, (q.2, q.3), refl)
  condition_back (word.Function op) wants front h p =
      let t = where_some (gives_condition op) (operands op) wants h in
      let q = operands_back op front (wanted_back (operands op) wants front t.1 p) in
      (Operation op q.0 q.1, ap (λ l. word.Function op ∷ l) q.2, (q.3, q.4, q.5), t.0)
  condition_back _ wants front h p = cc
