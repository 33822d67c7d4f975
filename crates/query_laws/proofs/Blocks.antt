-- The statements of a fold: what the check gives has a rule, and what has a rule is what the check gives.
use Rattle.std.proofs.Common.{◌≡◌, ℕ, Bool, true, false, List, [], ◌∷◌, ◌++◌, length, map, Option, Some, None, Ok, refl, sym, ap, subst}
use Rattle.std.proofs.Common.{◌∙◌, append_assoc, append-nil}
use Rattle.std.specs.Prelude.{is_some}
use Rattle.query_lang.specs.declared.fold.TypedExpr.TheVariants as typed
use Rattle.query_lang.specs.declared.fold.TypedStmt.TheVariants as typed_stmt
use Rattle.query_lang.specs.declared.query.Stmt.TheOpen as stmt
use Rattle.query_lang.specs.declared.query.Stmt.TheVariants as whole
use Rattle.query_lang.proofs.TreeLemmas.{term_not}
use Rattle.query_laws.proofs.Terms.{WrongArity, Span, TypedExpr, TypedStmt, Name, Expr, Stmt, fold-roll-Stmt, roll-Stmt, map-Stmt}
use Rattle.query_laws.proofs.Terms.{rolls-Assign, rolls-If, rolls-Emit, Body, Enclosing, Term, ReadsArguments, Checked, is_among, word_of}
use Rattle.query_laws.proofs.Terms.{target_at, target_of, joined, inside, emit_condition, no_state, Adding, in_order, stmt_step}
use Rattle.query_laws.proofs.Terms.{stmt_checked, StandsAt, conjunction, emit_of, ReadArguments, HasBlock, of_none, of_assign, of_if}
use Rattle.query_laws.proofs.Terms.{of_emit, at_most_one}
use Rattle.query_laws.proofs.Steps.{must_not_ok, must_not_holds, same_ok, found_first, then_next, place_stands, stands_place}
use Rattle.query_laws.proofs.{ExprSound.{condition_sound, word_sound}, ExprComplete.{condition_complete, word_complete}}
use Rattle.query_laws.proofs.{FoldNames.{neither, both_none, Reads, reads}, Layers.{OfStmtLayers, of_stmt}}

-- ---- the conditions around

abbrev all_of : List TypedExpr → Option TypedExpr
all_of [] = None
all_of (t ∷ others) = Some (conjunction t others)

-- what the check knows of the conditions around
pub record Fits (states : List ℕ) (around : List TypedExpr) (outer : Enclosing) : Type 0 where
  pub condition : outer.condition ≡ all_of around
  pub past : outer.state ≡ None → ReadArguments (length states) around
  pub none : ReadArguments (length states) around → outer.state ≡ None

one_more : (t : TypedExpr) (around : List TypedExpr) → joined (all_of around) t ≡ conjunction t around
one_more t [] = refl
one_more t (u ∷ _) = refl

emit_is : (around : List TypedExpr) → emit_condition (all_of around) ≡ emit_of around
emit_is [] = refl
emit_is (t ∷ _) = refl

fits_inside : {states : List ℕ} {around : List TypedExpr} {outer : Enclosing} {written : Expr} {t : TypedExpr} → Fits states around outer
    → Reads states written t → Fits states (t ∷ around) (inside states outer written t)
fits_inside {t} f r = record {
  condition = ap (λ o. Some (joined o t)) f.condition ∙ ap Some (one_more t _);
  past = λ e. let p = neither _ e in (r.past p.1, f.past p.0);
  none = λ h. both_none (f.none h.1) (r.none h.0);
}

not_reads : {states : List ℕ} {e : Expr} {t : TypedExpr} → Reads states e t → Reads states e (typed.Not t)
not_reads {states} {t} r =
    let V : Term → Type 0 = λ z. ReadsArguments (length states) z in
    record { past = λ h. subst V (sym (term_not t)) (r.past h); none = λ h. r.none (subst V (term_not t) h) }

target_found : (o : Option ℕ) (b : Bool) (span : Span) {v : ℕ} → target_at o b span ≡ Ok v → o ≡ Some v
target_found (Some slot) _ _ e = ap Some (same_ok slot _ e)
target_found None true _ e = cc e
target_found None false _ e = cc e

pub target_stands : (states args : List ℕ) (name : Name) {v : ℕ} → target_of states args name ≡ Ok v → StandsAt states v name.id
target_stands states args name {v} e = place_stands _ _ v (target_found _ (is_among name.id args) _ e)

pub no_state_ok : {A : Type 0} (o : Option Span) {next : Checked A} {x : A} → no_state o next ≡ Ok x → (o ≡ None) × (next ≡ Ok x)
no_state_ok None e = (refl, e)
no_state_ok (Some _) e = cc e

is_none : {A : Type 0} (o : Option A) → is_some o ≡ false → o ≡ None
is_none None e = refl
is_none (Some x) e = cc e

-- ---- from the check to the rules

record Added (states args : List ℕ) (around : List TypedExpr) (s : Stmt) (found made : Body) : Type 0 where
  pub ts : List TypedStmt
  pub es : List TypedExpr
  pub statements : made.statements ≡ found.statements ++ ts
  pub emits : at_most_one found.emit ++ es ≡ at_most_one made.emit
  pub rule : (rest : List Stmt) (us : List TypedStmt) (fs : List TypedExpr) → HasBlock states args around rest us fs
      → HasBlock states args around (s ∷ rest) (ts ++ us) (es ++ fs)

pub record IsBlock (states args : List ℕ) (around : List TypedExpr) (ss : List Stmt) (found made : Body) : Type 0 where
  pub ts : List TypedStmt
  pub es : List TypedExpr
  pub statements : made.statements ≡ found.statements ++ ts
  pub emits : at_most_one found.emit ++ es ≡ at_most_one made.emit
  pub rule : HasBlock states args around ss ts es

-- a statement, and then the rest of its block
then_block : {states args : List ℕ} {around : List TypedExpr} {s : Stmt} {ss : List Stmt} {found between made : Body}
    → Added states args around s found between → IsBlock states args around ss between made
    → IsBlock states args around (s ∷ ss) found made
then_block {found = found} one rest = record {
  ts = one.ts ++ rest.ts;
  es = one.es ++ rest.es;
  statements = rest.statements ∙ ap (λ z. z ++ rest.ts) one.statements ∙ append_assoc found.statements one.ts rest.ts;
  emits = sym (append_assoc (at_most_one found.emit) one.es rest.es) ∙ ap (λ z. z ++ rest.es) one.emits ∙ rest.emits;
  rule = one.rule _ rest.ts rest.es rest.rule;
}

abbrev IsSound : List ℕ → List ℕ → Stmt → Adding → Type 0
IsSound states args s c = (around : List TypedExpr) (outer : Enclosing) (found made : Body) → Fits states around outer
    → c outer found ≡ Ok made → Added states args around s found made

abbrev Sound : List ℕ → List ℕ → Type 0
Sound states args = (s : Stmt) × IsSound states args s (stmt_checked states args s)

block_of_sound : {states args : List ℕ} (ss : List (Sound states args)) {around : List TypedExpr} {outer : Enclosing} {found made : Body}
    → Fits states around outer → in_order (map (stmt_checked states args) (map (λ s. s.0) ss)) outer found ≡ Ok made
    → IsBlock states args around (map (λ s. s.0) ss) found made
block_of_sound [] {around} {found} f e =
    let same = same_ok _ _ e in
    record {
      ts = [];
      es = [];
      statements = sym (ap (λ (b : Body). b.statements) same) ∙ sym (append-nil found.statements);
      emits = append-nil (at_most_one found.emit) ∙ ap (λ (b : Body). at_most_one b.emit) same;
      rule = of_none around;
    }
block_of_sound {states} {args} (s ∷ ss) {around} {outer} {found} {made} f e =
    let first = found_first (stmt_checked states args s.0 outer found) _ made e in
    then_block (s.1 around outer found first.0 f first.1) (block_of_sound ss f first.2)

moved : {states args : List ℕ} {around : List TypedExpr} {s r : Stmt} {found made : Body} → r ≡ s → Added states args around s found made
    → Added states args around r found made
moved {states} {args} {around} {found} {made} is h = subst (λ z. Added states args around z found made) (sym is) h

step : {states args : List ℕ} → OfStmtLayers (stmt_step states args) (IsSound states args)
step {states} {args} (stmt.Assign x e) around _ found made f is =
    let target = found_first (target_of states args x) _ made is in
    let word = found_first (word_of (states ++ args) [] e) _ made target.2 in
    moved (rolls-Assign x e) (subst (λ b. Added states args around (whole.Assign x e) found b) (same_ok _ made word.2) (record {
      ts = typed_stmt.Assign target.0 word.0 ∷ [];
      es = [];
      statements = refl;
      emits = append-nil (at_most_one found.emit);
      rule = λ rest us fs h. of_assign x (target_stands states args x target.1) (word_sound [] word.1) h;
    }))
step {states} {args} (stmt.If c a b) around _ found _ f is =
    let firsts = map (λ (s : Sound states args). s.0) a in
    let seconds = map (λ (s : Sound states args). s.0) b in
    let condition = found_first _ _ _ is in
    let t = condition.0 in
    let one = found_first _ _ _ condition.2 in
    let two = found_first _ _ _ one.2 in
    let rule = condition_sound [] condition.1 in
    let r = reads _ rule in
    let p = block_of_sound a (fits_inside f r) one.1 in
    let q = block_of_sound b (fits_inside f (not_reads r)) two.1 in
    moved (rolls-If c firsts seconds) (subst (λ z. Added states args around (whole.If c firsts seconds) found z) (same_ok _ _ two.2)
    (record {
      ts = typed_stmt.If t one.0.statements two.0.statements ∷ [];
      es = p.es ++ q.es;
      statements = refl;
      emits = sym (append_assoc (at_most_one found.emit) p.es q.es) ∙ ap (λ z. z ++ q.es) p.emits ∙ q.emits;
      rule = λ rest us fs h. of_if rule (subst (λ z. HasBlock states args (t ∷ around) firsts z p.es) (sym p.statements) p.rule)
          (subst (λ z. HasBlock states args (typed.Not t ∷ around) seconds z q.es) (sym q.statements) q.rule) h;
    }))
step {states} {args} (stmt.Emit span) around outer found made f is =
    let once = must_not_ok (is_some found.emit) WrongArity span is in
    let none = no_state_ok outer.state once.1 in
    moved (rolls-Emit span) (subst (λ b. Added states args around (whole.Emit span) found b) (same_ok _ made none.1) (record {
      ts = [];
      es = emit_of around ∷ [];
      statements = sym (append-nil found.statements);
      emits = ap (λ o. at_most_one o ++ emit_of around ∷ []) (is_none found.emit once.0)
          ∙ ap (λ t. t ∷ []) (sym (ap emit_condition f.condition ∙ emit_is around));
      rule = λ rest us fs h. of_emit span (f.past none.0) h;
    }))

stmt_sound : {states args : List ℕ} (s : Stmt) → IsSound states args s (stmt_checked states args s)
stmt_sound {states} {args} = of_stmt (stmt_step states args) (IsSound states args) step

pub block_sound : {states args : List ℕ} (ss : List Stmt) {around : List TypedExpr} {outer : Enclosing} {found made : Body}
    → Fits states around outer
    → in_order (map (stmt_checked states args) ss) outer found ≡ Ok made → IsBlock states args around ss found made
block_sound [] f e = block_of_sound [] f e
block_sound {states} {args} (s ∷ ss) {around} {outer} {found} {made} f e =
    let first = found_first (stmt_checked states args s outer found) _ made e in
    then_block (stmt_sound s around outer found first.0 f first.1) (block_sound ss f first.2)

-- ---- from the rules to the check

pub stmt_is : (states args : List ℕ) (x : stmt.Stmt-F Stmt) {s : Stmt} → roll-Stmt x ≡ s → (outer : Enclosing) (found : Body)
    → stmt_checked states args s outer found ≡ stmt_step states args (map-Stmt Stmt Adding (stmt_checked states args) x) outer found
stmt_is states args x is outer found = ap (λ z. stmt_checked states args z outer found) (sym is)
    ∙ ap (λ g. g outer found) (fold-roll-Stmt Adding (stmt_step states args) x)

same_one : (o p : Option TypedExpr) → at_most_one o ≡ at_most_one p → o ≡ p
same_one None None e = refl
same_one None (Some t) e = cc e
same_one (Some t) None e = cc e
same_one (Some t) (Some u) e = let same : t ≡ u = cc e in ap Some same

-- the first of at most one is at most one
first_part : (xs ys : List TypedExpr) (last : Option TypedExpr) → xs ++ ys ≡ at_most_one last → (p : Option TypedExpr)
    × (xs ≡ at_most_one p)
first_part [] _ _ e = (None, refl)
first_part (x ∷ []) _ _ e = (Some x, refl)
first_part (x ∷ y ∷ _) _ None e = cc e
first_part (x ∷ y ∷ _) _ (Some t) e = cc e

bodies : {xs ys : List TypedStmt} {o p : Option TypedExpr} → xs ≡ ys → o ≡ p
    → (let r : Checked Body = Ok (record { statements = xs; emit = o }) in r) ≡ Ok (record { statements = ys; emit = p })
bodies {ys} {o} e f = ap (λ z. let r : Checked Body = Ok (record { statements = z; emit = o }) in r) e
    ∙ ap (λ z. let r : Checked Body = Ok (record { statements = ys; emit = z }) in r) f

pub block_complete : {states args : List ℕ} {around : List TypedExpr} {ss : List Stmt} {ts : List TypedStmt} {es : List TypedExpr}
    → HasBlock states args around ss ts es
    → {outer : Enclosing} (found : Body) {last : Option TypedExpr} → Fits states around outer → at_most_one found.emit
    ++ es ≡ at_most_one last
    → in_order (map (stmt_checked states args) ss) outer found ≡ Ok (record { statements = found.statements ++ ts; emit = last })
block_complete (of_none _) found f e = bodies (sym (append-nil found.statements))
    (same_one _ _ (sym (append-nil (at_most_one found.emit)) ∙ e))
block_complete {args} (of_assign x {v} {e} {t} {ts} stands word h) found f k = then_next _ (
    stmt_is _ _ _ (rolls-Assign x e) _ _ ∙ then_next _ (ap (λ o. target_at o (is_among x.id args) x.span) (stands_place _ _ stands))
    ∙ then_next _ (word_complete [] word)) ∙ block_complete h _ f k
    ∙ bodies (append_assoc found.statements (typed_stmt.Assign v t ∷ []) ts) refl
block_complete (of_if {c} {t} {a} {b} {xs} {ys} {ts} {first} {second} {others} rule ha hb h) found f k =
    let r = reads _ rule in
    let front = append_assoc (at_most_one found.emit) (first ++ second) others ∙ k in
    let two = first_part _ _ _ front in
    let inner = append_assoc (at_most_one found.emit) first second ∙ two.1 in
    let one = first_part _ _ _ inner in
    then_next _ (
    stmt_is _ _ _ (rolls-If c a b) _ _ ∙ then_next _ (condition_complete [] rule)
    ∙ then_next _ (block_complete ha _ (fits_inside f r) one.1) ∙ then_next _ (block_complete hb _ (fits_inside f (not_reads r))
    (sym (ap (λ z. z ++ second) one.1) ∙ inner))) ∙ block_complete h _ f (sym (ap (λ z. z ++ others) two.1) ∙ front)
    ∙ bodies (append_assoc found.statements (typed_stmt.If t xs ys ∷ []) ts) refl
block_complete {states} {args} (of_emit {around} span {others} past h) {outer} found {last} f k =
    let none = only found.emit k in
    then_next _ (
    stmt_is states args (stmt.Emit span) (rolls-Emit span) outer found ∙ must_not_holds _ _ (ap is_some none)
    ∙ ap (λ o. no_state o (let r : Checked Body = Ok (record
    { statements = found.statements; emit = Some (emit_condition outer.condition) }) in r)) (f.none past)
    ∙ bodies refl (ap Some (ap emit_condition f.condition ∙ emit_is around))) ∙ block_complete h _ f
    (sym (ap (λ o. at_most_one o ++ emit_of around ∷ others) none) ∙ k)
  where
    only : (o : Option TypedExpr) → at_most_one o ++ emit_of around ∷ others ≡ at_most_one last → o ≡ None
    only None k = refl
    only (Some t) k = (elim last as (λ z. (t ∷ emit_of around ∷ others) ≡ at_most_one z → Some t ≡ None)
        [ None ↦ λ k. cc k | Some u ↦ λ k. cc k ]) k
