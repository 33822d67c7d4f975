-- What a fold asks is so where it is typed.
use Rattle.std.proofs.Common.{◌≡◌, ℕ, true, false, List, [], ◌∷◌, ◌++◌, map, None, Ok, refl, sym, ap, subst, ◌∙◌}
use Rattle.std.specs.Prelude.{is_some}
use Rattle.query_lang.specs.declared.fold.TypedExpr.TheVariants as typed
use Rattle.query_lang.specs.declared.query.Expr.TheVariants as whole
use Rattle.query_lang.specs.declared.query.Stmt.TheOpen as stmt
use Rattle.query_lang.specs.declared.query.Stmt.TheVariants as block
use Rattle.query_laws.proofs.Terms.{Span, TypedExpr, TypedFold, Expr, rolls-Call, FoldDef, Name, StateVar, Stmt, rolls-Assign, rolls-If}
use Rattle.query_laws.proofs.Terms.{rolls-Emit, Body, Enclosing, Known, and_then, condition_of, word_of, target_of, first_of, state_step}
use Rattle.query_laws.proofs.Terms.{state_in, inside, Adding, in_order, stmt_step, stmt_checked, HasPart, StandsInside, StandsIn}
use Rattle.query_laws.proofs.Terms.{FollowsEmit, Demand, Holds, Kind, IsNew, AreNew, HasFold, state_names_of, arg_names_of}
use Rattle.query_laws.specs.Asked.{StmtAsks, of_target, of_value, of_condition, of_emit, FoldAsks, of_state, of_states, of_arg, of_args}
use Rattle.query_laws.specs.Asked.{of_statement, of_emits}
use Rattle.query_laws.specs.Demands as parts
use Rattle.query_laws.proofs.{Blocks.{stmt_is, target_stands, no_state_ok, block_complete}, ExprSound.{condition_sound, word_sound}}
use Rattle.query_laws.proofs.{FaultSteps.not_both, FoldLaws.nothing_around}
use Rattle.query_laws.proofs.FoldNames.{among_new, neither, in_named, in_not, in_binary, no_span, ids}
use Rattle.query_laws.proofs.Meets.{EachIs, one_is, expr_meets, new_at, names_new, few_before}
use Rattle.query_laws.proofs.{Steps.{must_not_ok, same_ok, found_first, by_test}, Layers.{OfStmtLayers, of_stmt, expr_at}}

-- ---- conditions without state variables

first_none : (states : List ℕ) (es : List Expr) → first_of (map (state_in states) es) ≡ None → EachIs (λ e. state_in states e ≡ None) es
first_none _ [] e = tt
first_none states (a ∷ es) e = let p = neither (state_in states a) e
    in (p.0, first_none states es p.1)

part_none : (states : List ℕ) {k : Kind} {e : Expr} {l : Kind} {part : Expr} → HasPart k e l part → state_in states e ≡ None
    → state_in states part ≡ None
part_none _ parts.whole is = is
part_none _ (parts.of_not _ {e} p) is = part_none _ p (sym (in_not _ _ e) ∙ is)
part_none _ (parts.of_left _ _ a b p) is = part_none _ p (neither _ (sym (in_binary _ _ _ a b) ∙ is)).0
part_none _ (parts.of_right _ _ a {b} p) is = part_none _ p (neither _ (sym (in_binary _ _ _ a b) ∙ is)).1
part_none states (parts.of_argument op span {arguments = es} i p) is =
    let call : state_in states (whole.Call op span es) ≡ first_of (map (state_in states) es) =
    expr_at (state_step states) _ (rolls-Call op span es) in
    part_none _ p (one_is _ i (first_none _ _ (sym call ∙ is)))

none_inside : (states : List ℕ) {e : Expr} → state_in states e ≡ None → (x : Name) → StandsInside x e → IsNew x.id states
none_inside _ is x h = among_new _ _ (no_span _ _ (sym (in_named _ x) ∙ part_none _ h.2 is))

module _ (states args : List ℕ) where
  -- ---- statements of a block that was checked

  -- where no state variable was met, none is in the conditions around
  abbrev Clean : List Expr → Enclosing → Type 0
  Clean around outer = outer.state ≡ None → EachIs (λ c. state_in states c ≡ None) around

  clean_inside : (around : List Expr) (outer : Enclosing) (c : Expr) (t : TypedExpr) → Clean around outer
      → Clean (c ∷ around) (inside states outer c t)
  clean_inside _ _ c t clean e = let p = neither _ e in (p.1, clean p.0)

  record AtStatement (around : List Expr) (s : Stmt) : Type 0 where
    pub outer : Enclosing
    pub found : Body
    pub made : Body
    pub clean : Clean around outer
    pub is : stmt_checked states args s outer found ≡ Ok made

  record IfParts (c : Expr) (a b : List Stmt) (outer : Enclosing) (found made : Body) : Type 0 where
    pub t : TypedExpr
    pub p : Body
    pub q : Body
    pub condition : condition_of (states ++ args) [] c ≡ Ok t
    pub first : in_order (map (stmt_checked states args) a) (inside states outer c t) (record { statements = []; emit = found.emit }) ≡ Ok p
    pub second : in_order (map (stmt_checked states args) b) (inside states outer c (typed.Not t))
        (record { statements = []; emit = p.emit }) ≡ Ok q
    pub emit : q.emit ≡ made.emit

  if_of : {c : Expr} {a b : List Stmt} {outer : Enclosing} {found made : Body}
      → stmt_checked states args (block.If c a b) outer found ≡ Ok made → IfParts c a b outer found made
  if_of {c} {a} {b} e =
      let is = sym (stmt_is _ _ _ (rolls-If c a b) _ _) ∙ e in
      let condition = found_first _ _ _ is in
      let one = found_first _ _ _ condition.2 in
      let two = found_first _ _ _ one.2 in
      record {
        t = condition.0;
        p = one.0;
        q = two.0;
        condition = condition.1;
        first = one.1;
        second = two.1;
        emit = ap (λ (z : Body). z.emit) (same_ok _ _ two.2);
      }

  at_statement : {before : List Expr} {ss : List Stmt} {around : List Expr} {s : Stmt} → StandsIn before ss around s
      → (outer : Enclosing) (found : Body) {made : Body}
      → Clean before outer → in_order (map (stmt_checked states args) ss) outer found ≡ Ok made → AtStatement around s
  at_statement (parts.first) outer found {made} clean e =
      let f = found_first _ _ _ e in
      record { outer = outer; found = found; made = f.0; clean = clean; is = f.1 }
  at_statement (parts.later {other} h) outer found {made} clean e =
      let f = found_first (stmt_checked states args other outer found) _ made e in at_statement h outer f.0 clean f.2
  at_statement (parts.in_first {c} a b _ h) outer _ clean e =
      let f = found_first _ _ _ e in
      let i = if_of f.1 in
      at_statement h _ _ (clean_inside _ outer c i.t clean) i.first
  at_statement (parts.in_second {c} a h) outer _ clean e =
      let f = found_first _ _ _ e in
      let i = if_of f.1 in
      at_statement h _ _ (clean_inside _ outer c (typed.Not i.t) clean) i.second

  statement_meets : (known : List Known) {around : List Expr} {s : Stmt} {q : Demand} → AtStatement around s
      → StmtAsks states args around s q → Holds known q
  statement_meets _ h (of_target {x} e) =
      let is = sym (stmt_is _ _ _ (rolls-Assign x e) _ _) ∙ h.is in
      let target = found_first _ _ _ is in
      (target.0, target_stands _ _ x target.1)
  statement_meets known h (of_value x {e} asked) =
      let is = sym (stmt_is states args (stmt.Assign x e) (rolls-Assign x e) h.outer h.found) ∙ h.is in
      let target = found_first (target_of states args x) _ h.made is in
      let word = found_first (word_of (states ++ args) [] e) _ h.made target.2 in
      expr_meets known (word.0, word_sound [] word.1) asked
  statement_meets _ h (of_condition a b asked) =
      let i = if_of h.is in
      expr_meets _ (i.t, condition_sound [] i.condition) asked
  statement_meets _ h (of_emit span i) =
      let is = sym (stmt_is _ _ _ (rolls-Emit span) _ _) ∙ h.is in
      let once = must_not_ok _ _ _ is in
      let none = no_state_ok _ once.1 in
      none_inside _ (one_is _ i (h.clean none.0))

  -- ---- one `emit`

  -- an `emit` that was found stays found
  abbrev Keeps : Body → Body → Type 0
  Keeps found made = is_some found.emit ≡ true → is_some made.emit ≡ true

  abbrev Keeping : Stmt → Adding → Type 0
  Keeping s c = (outer : Enclosing) (found made : Body) → c outer found ≡ Ok made → Keeps found made

  abbrev Kept : Type 0
  Kept = (s : Stmt) × Keeping s (stmt_checked states args s)

  block_keeps : (ss : List Kept) (outer : Enclosing) (found : Body) {made : Body}
      → in_order (map (stmt_checked states args) (map (λ (s : Kept). s.0) ss)) outer found ≡ Ok made → Keeps found made
  block_keeps [] _ _ e = λ some. sym (ap (λ (b : Body). is_some b.emit) (same_ok _ _ e)) ∙ some
  block_keeps (s ∷ ss) outer found {made} e =
      let f = found_first (stmt_checked states args s.0 outer found) _ made e in
      λ some. block_keeps ss outer f.0 f.2 (s.1 outer found f.0 f.1 some)

  keep_step : OfStmtLayers (stmt_step states args) Keeping
  keep_step (stmt.Assign x e) _ _ made is =
      let target = found_first (target_of states args x) _ made is in
      let word = found_first (word_of (states ++ args) [] e) _ made target.2 in
      λ some. sym (ap (λ (b : Body). is_some b.emit) (same_ok _ made word.2)) ∙ some
  keep_step (stmt.If c a b) outer found made is =
      let condition = found_first (condition_of (states ++ args) [] c) _ made is in
      let one = found_first (in_order (map (stmt_checked states args) (map (λ (s : Kept). s.0) a)) (inside states outer c condition.0)
      (record { statements = []; emit = found.emit })) _ made condition.2 in
      let two = found_first (in_order (map (stmt_checked states args) (map (λ (s : Kept). s.0) b))
      (inside states outer c (typed.Not condition.0)) (record { statements = []; emit = one.0.emit })) _ made one.2 in
      λ some. sym (ap (λ (z : Body). is_some z.emit) (same_ok _ made two.2)) ∙ block_keeps b _ _ two.1 (block_keeps a _ _ one.1 some)
  keep_step (stmt.Emit _) _ found _ is =
      let once = must_not_ok _ _ _ is in λ some. not_both (is_some found.emit) once.0 some

  stmt_keeps : (s : Stmt) → Keeping s (stmt_checked states args s)
  stmt_keeps = of_stmt (stmt_step states args) Keeping keep_step

  keeps : (ss : List Stmt) (outer : Enclosing) (found : Body) {made : Body}
      → in_order (map (stmt_checked states args) ss) outer found ≡ Ok made
      → Keeps found made
  keeps [] _ _ e = λ some. sym (ap (λ (b : Body). is_some b.emit) (same_ok _ _ e)) ∙ some
  keeps (s ∷ ss) outer found {made} e =
      let f = found_first (stmt_checked states args s outer found) _ made e in
      λ some. keeps ss outer f.0 f.2 (stmt_keeps s outer found f.0 f.1 some)

  -- none before, and then one
  abbrev Emits : Body → Body → Type 0
  Emits found made = (is_some found.emit ≡ false) × (is_some made.emit ≡ true)

  not_yet : (found made : Body) → Keeps found made → is_some made.emit ≡ false → is_some found.emit ≡ false
  not_yet found made kept none = by_test (is_some found.emit) (λ is. not_both (is_some made.emit) none (kept is)) (λ is. is)

  emits : {before : List Expr} {ss : List Stmt} {around : List Expr} {s : Stmt} {span : Span} → StandsIn before ss around s
      → s ≡ block.Emit span
      → (outer : Enclosing) (found : Body) {made : Body} → in_order (map (stmt_checked states args) ss) outer found ≡ Ok made
      → Emits found made
  emits {span} (parts.first) same outer found e =
      let f = found_first _ _ _ e in
      let is = sym (stmt_is _ _ _ (rolls-Emit span) _ _) ∙ subst (λ z. stmt_checked states args z outer found ≡ Ok f.0) same f.1 in
      let once = must_not_ok _ _ _ is in
      let none = no_state_ok _ once.1 in
      (once.0, keeps _ _ _ f.2 (sym (ap (λ (z : Body). is_some z.emit) (same_ok _ _ none.1))))
  emits (parts.later {other} h) same outer found {made} e =
      let f = found_first (stmt_checked states args other outer found) _ made e in
      let m = emits h same outer f.0 f.2 in
      (not_yet found f.0 (stmt_keeps other outer found f.0 f.1) m.0, m.1)
  emits (parts.in_first a b _ h) same _ _ e =
      let f = found_first _ _ _ e in
      let i = if_of f.1 in
      let m = emits h same _ _ i.first in
      (m.0, keeps _ _ _ f.2 (sym (ap is_some i.emit) ∙ keeps b _ _ i.second m.1))
  emits (parts.in_second {c} a {b} {rest} h) same outer found {made} e =
      let f = found_first (stmt_checked states args (block.If c a b) outer found) _ made e in
      let i = if_of f.1 in
      let m = emits h same _ _ i.second in
      (not_yet found i.p (keeps a _ _ i.first) m.0, keeps rest outer f.0 f.2 (sym (ap is_some i.emit) ∙ m.1))

  one_emit : {span : Span} {ss : List Stmt} → FollowsEmit span ss → (outer : Enclosing) (found : Body) {made : Body}
      → in_order (map (stmt_checked states args) ss) outer found ≡ Ok made → ⊥
  one_emit (parts.beyond {s} h stands) outer found e =
      let f = found_first _ _ _ e in
      let alone : in_order (map (stmt_checked states args) (s ∷ [])) outer found ≡ Ok f.0 = ap (λ c. and_then c (λ more. Ok more)) f.1 in
      let one = emits h.2 refl _ _ alone in
      let two = emits stands refl _ _ f.2 in
      not_both (is_some f.0.emit) two.0 one.1
  one_emit (parts.later s _ h) outer found {made} e =
      let f = found_first (stmt_checked states args s outer found) _ made e in one_emit h outer f.0 f.2
  one_emit (parts.across c a h stands) _ _ e =
      let f = found_first _ _ _ e in
      let i = if_of f.1 in
      let one = emits h.2 refl _ _ i.first in
      let two = emits stands refl _ _ i.second in
      not_both (is_some i.p.emit) two.0 one.1
  one_emit (parts.in_first c b h) _ _ e =
      let f = found_first _ _ _ e in
      let i = if_of f.1 in one_emit h _ _ i.first
  one_emit (parts.in_second c a h) _ _ e =
      let f = found_first _ _ _ e in
      let i = if_of f.1 in one_emit h _ _ i.second

-- ---- folds

states_split : (front : List StateVar) (s : StateVar) (back : List StateVar) → ids (front ++ s ∷ back) ≡ ids front ++ s.name.id ∷ ids back
states_split [] s _ = refl
states_split (x ∷ front) s back = ap (λ z. x.name.id ∷ z) (states_split front s back)

-- the body's check gives its typed form
body_checks : {d : FoldDef} {f : TypedFold} (h : HasFold d f)
    → in_order (map (stmt_checked (state_names_of d) (arg_names_of d)) d.body) (record { condition = None; state = None })
    (record { statements = []; emit = None }) ≡ Ok (record { statements = [] ++ h.body; emit = h.emit })
body_checks h = block_complete h.statements _ nothing_around refl

pub fold_meets : (known : List Known) {d : FoldDef} {f : TypedFold} {q : Demand} → HasFold d f → FoldAsks d q → Holds known q
fold_meets _ h (of_state _ s _ split) = new_at _ _ _ _ (subst (λ z. AreNew [] z) (ap ids split ∙ states_split _ s _) h.states)
fold_meets _ h (of_states _ s _ split) = few_before _ s _ split h.few_states
fold_meets _ h (of_arg _ a _ split) = names_new _ _ a _ split h.args
fold_meets _ h (of_args _ a _ split) = few_before _ a _ split h.few_args
fold_meets _ {d} h (of_statement stands asked) = statement_meets (state_names_of d) (arg_names_of d) _
    (at_statement (state_names_of d) (arg_names_of d) stands _ _ (λ none. tt) (body_checks h)) asked
fold_meets _ {d} h of_emits = λ span follows. one_emit (state_names_of d) (arg_names_of d) follows _ _ (body_checks h)
