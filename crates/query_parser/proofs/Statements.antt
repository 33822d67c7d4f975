-- What a statement is made of, and the branches of an `if`.
use Rattle.std.proofs.Common.{◌≡◌, ℕ, zero, suc, ◌+◌, ◌-◌, ◌<◌, ◌≤◌, Bool, true, false, List, [], ◌∷◌, ◌++◌, Option, Some, None, refl, sym}
use Rattle.std.proofs.Common.{ap, ◌∙◌, arith, append_assoc, inl, inr, ◌⊎◌}
use Rattle.query_lang.specs.declared.{query.{Expr.Expr, Stmt.Stmt}, token.Token.Token}
use Rattle.query_grammar.specs.{declared.stop.Counts.Counts, Grammar.else_of}
use Rattle.query_grammar.specs.Parser.{Limited, Outcome, Done, Stopped, Parser, and_then, next_is, next_turn, linked, chain_turns}
use Rattle.query_grammar.specs.Reading.{statement, block, empty_parens, expr_at, stmt_at}
use Rattle.query_parser.specs.{declared.{halt.Halt.Halt, reader.Reader.Reader}, Reads.{Fails, bracket_at, block_at, empty_at}}
use Rattle.query_lang.specs.declared.query.Stmt.TheVariants as stmts
use Rattle.query_parser.specs.declared.halt.Halt.TheVariants as halts

pub stmt_is : (e : ℕ) (c : Counts) (ts : List Token) → stmt_at Limited e c ts ≡ statement Limited (expr_at Limited e) (bracket_at e)
    (block_at e) (empty_at e) c ts
unfolding stmt_at
stmt_is zero c ts = refl
stmt_is (suc e) c ts = refl

pub block_more : (e : ℕ) (c : Counts) (ts : List Token) → 0 < e → block_at e c ts ≡ block Limited (stmt_at Limited (e - 1)) c ts
block_more zero c ts h = grind (arith, h)
block_more (suc e) c ts h = let k : e ≡ suc e - 1 = omega arith in ap (λ (n : ℕ). block Limited (stmt_at Limited n) c ts) k

pub empty_more : (e : ℕ) (c : Counts) (ts : List Token) → 0 < e → empty_at e c ts ≡ empty_parens Limited c ts
empty_more zero c ts h = grind (arith, h)
empty_more (suc e) c ts h = refl

-- ---- the branches are put together beginning with the last

pub else_none : (branches : List (Expr × List Stmt)) → else_of branches None ≡ else_of branches (Some [])
else_none [] = refl
else_none (branch ∷ others) = ap (λ (body : List Stmt). stmts.If branch.0 branch.1 body ∷ []) (else_none others)

pub else_more : (branches : List (Expr × List Stmt)) (last : Expr × List Stmt) (body : List Stmt)
    → else_of (branches ++ last ∷ []) (Some body) ≡ else_of branches (Some (stmts.If last.0 last.1 body ∷ []))
else_more [] last body = refl
else_more (branch ∷ others) last body = ap (λ (inner : List Stmt). stmts.If branch.0 branch.1 inner ∷ []) (else_more others last body)

-- ---- one turn of a chain

-- the turns so far, and what those that are left give
abbrev pub chained_on : {A B : Type 0} → List A → Outcome (List A × Option B) → Outcome (List A × Option B)
chained_on found o = and_then o (λ v c rest. Done (found ++ v.0, v.1) c rest)

append_none : {A : Type 0} (xs : List A) → xs ++ [] ≡ xs
append_none [] = refl
append_none (x ∷ xs) = ap (λ ys. x ∷ ys) (append_none xs)

module _ {A B : Type 0} (starts : Token → Bool) (p : Parser (A ⊎ B)) (total : Outcome (List A × Option B)) where
  one_link : (n i : ℕ) (c : Counts) (ts : List Token) → i < n → next_is starts ts ≡ true
      → chain_turns (n - i) starts p c ts ≡ and_then (p c ts) (next_turn (chain_turns (n - (i + 1)) starts p))
  one_link n i c ts lt h = let k : n - i ≡ suc (n - (i + 1)) = omega arith in rw (k, h) refl

  pub more_chain : (found longer : List A) (n i : ℕ) (c : Counts) (ts : List Token) (a : A) (d : Counts) (rest : List Token) → i < n
      → next_is starts ts ≡ true → p c ts ≡ Done (inl a) d rest
      → longer ≡ found ++ a ∷ [] → chained_on found (chain_turns (n - i) starts p c ts) ≡ total
      → chained_on longer (chain_turns (n - (i + 1)) starts p d rest) ≡ total
  more_chain found longer n i c ts a d rest lt h e is so_far =
      let turn : chain_turns (n - i) starts p c ts ≡ linked a (chain_turns (n - (i + 1)) starts p d rest) = one_link n i c ts lt h
      ∙ rw e refl in
      rw is (go (chain_turns (n - (i + 1)) starts p d rest) ∙ ap (chained_on found) (sym turn) ∙ so_far)
    where
      go : (o : Outcome (List A × Option B)) → chained_on (found ++ a ∷ []) o ≡ chained_on found (linked a o)
      go (Done v c'' rest') = ap (λ (xs : List A). Done (xs, v.1) c'' rest') (append_assoc found (a ∷ []) v.0)
      go (Stopped k r) = refl

  pub last_chain : (found : List A) (n i : ℕ) (c : Counts) (ts : List Token) (b : B) (d : Counts) (rest : List Token) → i < n
      → next_is starts ts ≡ true → p c ts ≡ Done (inr b) d rest
      → chained_on found (chain_turns (n - i) starts p c ts) ≡ total → total ≡ Done (found, Some b) d rest
  last_chain found n i c ts b d rest lt h e so_far =
      let turn : chain_turns (n - i) starts p c ts ≡ Done ([], Some b) d rest = one_link n i c ts lt h ∙ rw e refl in
      sym so_far ∙ ap (chained_on found) turn ∙ ap (λ (xs : List A). Done (xs, Some b) d rest) (append_none found)

  pub fails_chain : (found : List A) (n i : ℕ) (c : Counts) (ts : List Token) (x : Halt) (to : Reader) → i < n
      → next_is starts ts ≡ true → Fails x to (p c ts) → chained_on found (chain_turns (n - i) starts p c ts) ≡ total → Fails x to total
  fails_chain found n i c ts halts.Memory to lt h e so_far = tt
  fails_chain found n i c ts (halts.At x) to lt h e so_far = sym so_far ∙ ap (chained_on found) (one_link n i c ts lt h) ∙ rw e refl

  pub ends_chain : (found : List A) (n i : ℕ) (c : Counts) (ts : List Token) → (n ≤ i) ⊎ (next_is starts ts ≡ false)
      → chained_on found (chain_turns (n - i) starts p c ts) ≡ total → total ≡ Done (found, None) c ts
  ends_chain found n i c ts way so_far = sym so_far ∙ ap (chained_on found) (go way)
      ∙ ap (λ (xs : List A). Done (xs, None) c ts) (append_none found)
    where
      go : (n ≤ i) ⊎ (next_is starts ts ≡ false) → chain_turns (n - i) starts p c ts ≡ Done ([], None) c ts
      go (inl le) = let k : n - i ≡ 0 = omega arith in rw k refl
      go (inr other) = none (n - i)
        where
          none : (m : ℕ) → chain_turns m starts p c ts ≡ Done ([], None) c ts
          none zero = refl
          none (suc m) = rw other refl
