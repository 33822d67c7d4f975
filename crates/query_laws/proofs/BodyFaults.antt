-- What a fault in a fold's body says.
use Rattle.std.proofs.Common.{◌≡◌, ℕ, Bool, true, false, List, [], ◌∷◌, ◌++◌, map, Option, Some, None, Ok, Err, ◌⊎◌, refl, sym, ap, subst}
use Rattle.std.proofs.Common.{◌∙◌, inl, inr}
use Rattle.std.specs.Prelude.{is_some}
use Rattle.query_lang.specs.declared.fold.TypedExpr.TheVariants as typed
use Rattle.query_lang.specs.declared.query.Stmt.TheOpen as stmt
use Rattle.query_lang.specs.declared.query.Stmt.TheVariants as block
use Rattle.query_laws.proofs.Terms.{WrongArity, QueryFault, Span, Name, Expr, Stmt, rolls-Assign, rolls-If, rolls-Emit, Body, Enclosing}
use Rattle.query_laws.proofs.Terms.{Known, Checked, is_among, place_of, condition_of, word_of, target_at, target_of, inside, no_state}
use Rattle.query_laws.proofs.Terms.{Adding, in_order, stmt_step, stmt_checked, StandsIn, HasEmit, FollowsEmit, in_first, in_second}
use Rattle.query_laws.proofs.Terms.{Condition}
use Rattle.query_laws.specs.Asked.{StmtAsks, of_target, of_value, of_condition, of_emit}
use Rattle.query_laws.specs.Demands as parts
use Rattle.query_laws.proofs.ExprFaults.{place_none, not_new, condition_told, word_told}
use Rattle.query_laws.proofs.FaultSteps.{at_span, same_fault, no_fault, by_must_not, by_next, Broken, broken_at, broken_in}
use Rattle.query_laws.proofs.{FoldNames.among_new, Steps.{same_ok, found_first}, StateFaults.{has_state, Knows, knows_inside}}
use Rattle.query_laws.proofs.Layers.{OfStmtLayers, of_stmt}

-- ---- statements in longer blocks

pub with_more : {outer : List Expr} {front : List Stmt} (back : List Stmt) {around : List Expr} {s : Stmt} → StandsIn outer front around s
    → StandsIn outer (front ++ back) around s
with_more _ parts.first = parts.first
with_more _ (parts.later h) = parts.later (with_more _ h)
with_more _ (parts.in_first a b _ h) = parts.in_first a b _ h
with_more _ (parts.in_second a h) = parts.in_second a h

follows_more : {span : Span} {front : List Stmt} (back : List Stmt) → FollowsEmit span front → FollowsEmit span (front ++ back)
follows_more _ (parts.beyond h i) = parts.beyond h (with_more _ i)
follows_more back (parts.later s rest h) = parts.later s (rest ++ back) (follows_more _ h)
follows_more _ (parts.across c a h i) = parts.across c a h i
follows_more _ (parts.in_first c b h) = parts.in_first c b h
follows_more _ (parts.in_second c a h) = parts.in_second c a h

-- inside other conditions
elsewhere : {outer others : List Expr} {ss : List Stmt} {around : List Expr} {s : Stmt} → StandsIn outer ss around s → (there : List Expr)
    × StandsIn others ss there s
elsewhere {others} parts.first = (others, parts.first)
elsewhere (parts.later h) =
    let m = elsewhere h in (m.0, parts.later m.1)
elsewhere (parts.in_first a b _ h) =
    let m = elsewhere h in (m.0, parts.in_first a b _ m.1)
elsewhere (parts.in_second a h) =
    let m = elsewhere h in (m.0, parts.in_second a m.1)

-- ---- an `emit` that was found is somewhere before

abbrev Emits : Body → Body → List Stmt → Type 0
Emits found made ss = is_some made.emit ≡ true → (is_some found.emit ≡ true) ⊎ HasEmit ss

abbrev TellsEmit : Stmt → Adding → Type 0
TellsEmit s c = (outer : Enclosing) (found made : Body) → c outer found ≡ Ok made → Emits found made (s ∷ [])

abbrev Emitting : List ℕ → List ℕ → Type 0
Emitting states args = (s : Stmt) × TellsEmit s (stmt_checked states args s)

abbrev stmts : (states args : List ℕ) → List (Emitting states args) → List Stmt
stmts _ _ ss = map (λ s. s.0) ss

emit_after : {s : Stmt} {rest : List Stmt} → HasEmit rest → HasEmit (s ∷ rest)
emit_after h = (h.0, h.1, parts.later h.2)

emit_before : {s : Stmt} {rest : List Stmt} → HasEmit (s ∷ []) → HasEmit (s ∷ rest)
emit_before h = (h.0, h.1, with_more _ h.2)

emits_both : (found middle made : Body) {s : Stmt} {rest : List Stmt} → Emits found middle (s ∷ []) → Emits middle made rest
    → Emits found made (s ∷ rest)
emits_both found middle _ one two some = elim (two some)
    [ inl h ↦ elim (one h) [ inl k ↦ inl k | inr k ↦ inr (emit_before k) ] | inr h ↦ inr (emit_after h) ]

block_emits : (states args : List ℕ) (ss : List (Emitting states args)) (outer : Enclosing) (found : Body) {made : Body}
    → in_order (map (stmt_checked states args) (stmts states args ss)) outer found ≡ Ok made → Emits found made (stmts states args ss)
block_emits _ _ [] _ found {made} e = λ some. inl (ap (λ (b : Body). is_some b.emit) (same_ok found made e) ∙ some)
block_emits states args (s ∷ ss) outer found {made} e =
    let first = found_first (stmt_checked states args s.0 outer found) _ made e in
    emits_both found first.0 made (s.1 outer found first.0 first.1) (block_emits states args ss outer first.0 first.2)

emits_moved : (found made : Body) {s r : Stmt} → r ≡ s → Emits found made (s ∷ []) → Emits found made (r ∷ [])
emits_moved found made is h = subst (λ z. Emits found made (z ∷ [])) (sym is) h

emit_in_first : {c : Expr} {a : List Stmt} (b : List Stmt) → HasEmit a → HasEmit (block.If c a b ∷ [])
emit_in_first {a} b h = let m = elsewhere h.2
    in (m.0, h.1, parts.in_first a b _ m.1)

emit_in_second : {c : Expr} (a : List Stmt) {b : List Stmt} → HasEmit b → HasEmit (block.If c a b ∷ [])
emit_in_second a h = let m = elsewhere h.2
    in (m.0, h.1, parts.in_second a m.1)

abbrev fresh : Body → Body
fresh found = record { statements = []; emit = found.emit }

if_emits : (found p q : Body) {c : Expr} {a b : List Stmt} → Emits (fresh found) p a → Emits (fresh p) q b
    → Emits found q (block.If c a b ∷ [])
if_emits found p q {a} {b} one two some = elim (two some)
    [ inl h ↦ elim (one h) [ inl k ↦ inl k | inr k ↦ inr (emit_in_first b k) ] | inr h ↦ inr (emit_in_second a h) ]

emit_step : (states args : List ℕ) → OfStmtLayers (stmt_step states args) TellsEmit
emit_step states args (stmt.Assign x e) _ _ made is =
    let target = found_first (target_of states args x) _ made is in
    let word = found_first (word_of (states ++ args) [] e) _ made target.2 in
    λ some. inl (ap (λ (b : Body). is_some b.emit) (same_ok _ made word.2) ∙ some)
emit_step states args (stmt.If c a b) outer found made is =
    let condition = found_first (condition_of (states ++ args) [] c) _ made is in
    let t = condition.0 in
    let one = found_first (in_order (map (stmt_checked states args) (stmts states args a)) (inside states outer c t) (fresh found)) _ made
    condition.2 in
    let two = found_first (in_order (map (stmt_checked states args) (stmts states args b)) (inside states outer c (typed.Not t))
    (fresh one.0)) _ made one.2 in
    emits_moved found made (rolls-If c (stmts states args a) (stmts states args b)) (λ some.
    if_emits found one.0 two.0 (block_emits states args a _ (fresh found) one.1)
    (block_emits states args b _ (fresh one.0) two.1) (ap (λ (z : Body). is_some z.emit) (same_ok _ made two.2) ∙ some))
emit_step _ _ (stmt.Emit span) _ found made _ = emits_moved found made (rolls-Emit span) (λ some. inr ([], span, parts.first))

stmt_emits : (states args : List ℕ) (s : Stmt) → TellsEmit s (stmt_checked states args s)
stmt_emits states args = of_stmt (stmt_step states args) TellsEmit (emit_step states args)

all_emit : (states args : List ℕ) (ss : List Stmt) (outer : Enclosing) (found : Body) {made : Body}
    → in_order (map (stmt_checked states args) ss) outer found ≡ Ok made → Emits found made ss
all_emit _ _ [] _ found {made} e = λ some. inl (ap (λ (b : Body). is_some b.emit) (same_ok found made e) ∙ some)
all_emit states args (s ∷ ss) outer found {made} e =
    let first = found_first (stmt_checked states args s outer found) _ made e in
    emits_both found first.0 made (stmt_emits states args s outer found first.0 first.1) (all_emit states args ss outer first.0 first.2)

-- ---- the fault

-- what a fault in a block says, after an `emit` or without one
pub data BlockTold (states args : List ℕ) (outer : List Expr) (ss : List Stmt) (has : Bool) (known : List Known) (fault : QueryFault) : Type
    0 where
  at_statement : {around : List Expr} {s : Stmt} → StandsIn outer ss around s → Broken (StmtAsks states args around s) known fault
      → BlockTold states args outer ss has known fault
  second : (span : Span) {around : List Expr} → at_span WrongArity span ≡ fault → StandsIn outer ss around (block.Emit span) → has ≡ true
      → BlockTold states args outer ss has known fault
  follows : {span : Span} → at_span WrongArity span ≡ fault → FollowsEmit span ss → BlockTold states args outer ss has known fault

module _ (states args : List ℕ) (known : List Known) (fault : QueryFault) where
  abbrev InBlock : List Expr → List Stmt → Bool → Type 0
  InBlock outer ss has = BlockTold states args outer ss has known fault

  told_more : {outer : List Expr} {front : List Stmt} (back : List Stmt) {has : Bool} → InBlock outer front has
      → InBlock outer (front ++ back) has
  told_more _ (at_statement h b) = at_statement (with_more _ h) b
  told_more _ (second _ e h is) = second _ e (with_more _ h) is
  told_more _ (follows e h) = follows e (follows_more _ h)

  told_after : {outer : List Expr} {s : Stmt} {rest : List Stmt} {has has_then : Bool} → (has_then ≡ true → (has ≡ true) ⊎ HasEmit (s ∷ []))
      → InBlock outer rest has_then → InBlock outer (s ∷ rest) has
  told_after _ (at_statement h b) = at_statement (parts.later h) b
  told_after {outer} {s} {rest} {has} emits (second _ e h is) = go (emits is)
    where
      go : (has ≡ true) ⊎ HasEmit (s ∷ []) → InBlock outer (s ∷ rest) has
      go (inl had) = second _ e (parts.later h) had
      go (inr there) = let m = elsewhere h in follows e (parts.beyond there m.1)
  told_after {s} {rest} _ (follows e h) = follows e (parts.later s rest h)

  told_first : {outer : List Expr} {c : Expr} {a : List Stmt} (b : List Stmt) {has : Bool} → InBlock (c ∷ outer) a has
      → InBlock outer (block.If c a b ∷ []) has
  told_first {a} b (at_statement h k) = at_statement (parts.in_first a b _ h) k
  told_first {a} b (second _ e h is) = second _ e (parts.in_first a b _ h) is
  told_first {c} b (follows e h) = follows e (parts.in_first c b h)

  told_second : {outer : List Expr} {c : Expr} {a b : List Stmt} {has has_then : Bool} → (has_then ≡ true → (has ≡ true) ⊎ HasEmit a)
      → InBlock (c ∷ outer) b has_then → InBlock outer (block.If c a b ∷ []) has
  told_second {a} _ (at_statement h k) = at_statement (parts.in_second a h) k
  told_second {outer} {c} {a} {b} {has} emits (second _ e h is) = go (emits is)
    where
      go : (has ≡ true) ⊎ HasEmit a → InBlock outer (block.If c a b ∷ []) has
      go (inl had) = second _ e (parts.in_second a h) had
      go (inr there) = let m = elsewhere h in follows e (parts.across c a there m.1)
  told_second {c} {a} _ (follows e h) = follows e (parts.in_second c a h)

  target_told : {around : List Expr} {x : Name} {e : Expr} → target_of states args x ≡ Err fault
      → Broken (StmtAsks states args around (block.Assign x e)) known fault
  target_told {around} {x} {e} is = go (place_of states x.id) refl (is_among x.id args) refl is
    where
      go : (o : Option ℕ) → place_of states x.id ≡ o → (b : Bool) → is_among x.id args ≡ b → target_at o b x.span ≡ Err fault
          → Broken (StmtAsks states args around (block.Assign x e)) known fault
      go (Some v) _ b _ is = no_fault is
      go None place true among is = broken_at _ (of_target e) (same_fault is) (refl, place_none _ _ place, not_new _ _ among)
      go None place false among is = broken_at _ (of_target e) (same_fault is) (refl, place_none _ _ place, among_new x.id args among)

  abbrev IsToldStmt : Stmt → Adding → Type 0
  IsToldStmt s c = (around : List Expr) (outer : Enclosing) (found : Body) → Knows states around outer → c outer found ≡ Err fault
      → InBlock around (s ∷ []) (is_some found.emit)

  abbrev ToldStmt : Type 0
  ToldStmt = (s : Stmt) × IsToldStmt s (stmt_checked states args s)

  abbrev all_of : List ToldStmt → List Stmt
  all_of ss = map (λ s. s.0) ss

  block_told : (ss : List ToldStmt) {around : List Expr} (outer : Enclosing) (found : Body) → Knows states around outer
      → in_order (map (stmt_checked states args) (all_of ss)) outer found ≡ Err fault → InBlock around (all_of ss) (is_some found.emit)
  block_told [] _ _ _ e = no_fault e
  block_told (s ∷ ss) {around} outer found knows e = by_next (stmt_checked states args s.0 outer found) e
      (λ is. told_more (all_of ss) (s.1 around outer found knows is)) (λ more is e.
      told_after (stmt_emits states args s.0 outer found more is) (block_told ss outer more knows e))

  stmt_moved : {around : List Expr} {s r : Stmt} {has : Bool} → r ≡ s → InBlock around (s ∷ []) has → InBlock around (r ∷ []) has
  stmt_moved {around} {has} is h = subst (λ z. InBlock around (z ∷ []) has) (sym is) h

  -- of this statement alone
  here : {around : List Expr} {s : Stmt} {has : Bool} → Broken (StmtAsks states args around s) known fault → InBlock around (s ∷ []) has
  here b = at_statement parts.first b

  around_told : {around : List Expr} {span : Span} (outer : Enclosing) (made : Body) → Knows states around outer
      → no_state outer.state (let r : Checked Body = Ok made in r) ≡ Err fault
      → Broken (StmtAsks states args around (block.Emit span)) known fault
  around_told {around} {span} outer made knows e = go outer.state refl e
    where
      go : (o : Option Span) → outer.state ≡ o → no_state o (let r : Checked Body = Ok made in r) ≡ Err fault
          → Broken (StmtAsks states args around (block.Emit span)) known fault
      go None _ e = no_fault e
      go (Some at) is e =
          let k = knows at is in
          let m = has_state _ _ at k.2 in
          let inner = m.1 Condition in
          broken_at _ (of_emit _ k.1) (same_fault e) (m.0, (Condition, inner.0, inner.1), m.2, not_new _ _ m.3)

  told_step : OfStmtLayers (stmt_step states args) IsToldStmt
  told_step (stmt.Assign x e) _ _ _ _ is = stmt_moved (rolls-Assign x e) (
      by_next _ is (λ is. here (target_told is)) (λ v p is. by_next _ is (λ is.
      here (broken_in (λ d asked. of_value x asked) (word_told _ _ _ is))) (λ value q is. no_fault is)))
  told_step (stmt.If c a b) _ outer found knows is = stmt_moved (rolls-If c (all_of a) (all_of b)) (
      by_next (condition_of (states ++ args) [] c) is (λ is.
      here (broken_in (λ d asked. of_condition (all_of a) (all_of b) asked) (condition_told _ _ _ is))) (λ t p is.
      by_next (in_order (map (stmt_checked states args) (all_of a)) (inside states outer c t) (fresh found)) is (λ is. told_first (all_of b)
      (block_told a (inside states outer c t) (fresh found) (knows_inside states outer t knows) is)) (λ one q is.
      by_next (in_order (map (stmt_checked states args) (all_of b)) (inside states outer c (typed.Not t)) (fresh one)) is (λ is. told_second
      (all_emit states args (all_of a) (inside states outer c t) (fresh found) q)
      (block_told b (inside states outer c (typed.Not t)) (fresh one) (knows_inside states outer (typed.Not t) knows) is))
      (λ two r is. no_fault is))))
  told_step (stmt.Emit span) _ outer found knows is = stmt_moved (rolls-Emit span) (
      by_must_not (is_some found.emit) is (λ has same. second span same parts.first has) (λ none is. here (around_told outer _ knows is)))

  stmt_told : (s : Stmt) → IsToldStmt s (stmt_checked states args s)
  stmt_told = of_stmt (stmt_step states args) IsToldStmt told_step

  pub body_told : (ss : List Stmt) {around : List Expr} (outer : Enclosing) (found : Body) → Knows states around outer
      → in_order (map (stmt_checked states args) ss) outer found ≡ Err fault → InBlock around ss (is_some found.emit)
  body_told [] outer found knows e = no_fault e
  body_told (s ∷ ss) {around} outer found knows e = by_next _ e
      (λ is. told_more _ (stmt_told s around outer found knows is)) (λ more is e. told_after (stmt_emits _ _ s outer found more is)
      (body_told _ _ _ knows e))
