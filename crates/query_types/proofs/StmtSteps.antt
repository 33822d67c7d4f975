-- The statements of a block in sequence, and the two blocks of a choice.
use Rattle.std.proofs.Common.{◌≡◌, ℕ, ◌+◌, ◌<◌, List, [], ◌∷◌, ◌++◌, length, get_or, drop, map, Ok, Err, refl, sym, ap, ◌∙◌, arith}
use Rattle.std.proofs.lemmas.List.{drop_more}
use Rattle.query_lang.specs.declared.{fault.Span.Span, fold.{TypedExpr.TypedExpr, TypedStmt.TypedStmt}, query.{Name.Name, Expr.Expr}}
use Rattle.query_lang.specs.declared.typing.{Body.Body, Enclosing.Enclosing}
use Rattle.query_lang.specs.declared.query.Stmt.{Stmt, Assign, If, Emit, fold-roll-Stmt, roll-Stmt, map-Stmt}
use Rattle.query_lang.specs.{declared.query.Stmt.TheVariants.{rolls-Assign, rolls-If, rolls-Emit}, Checks.{Checked, and_then}}
use Rattle.query_lang.specs.{TypedExprs.condition_of, TypedFolds.{Adding, inside, emitted, in_order, new_block, stmt_step, stmt_checked}}
use Rattle.query_types.specs.{Bodies.{choice_of, assigned}, declared.bodies.Choice.Choice}
use Rattle.query_types.specs.Numbers.{greatest_of, greatest_number, stmt_number_step, greatest_in}
use Rattle.query_lang.specs.declared.fold.TypedExpr.TheVariants as typed
use Rattle.query_lang.specs.declared.fold.TypedStmt.TheVariants as typed_stmt
use Rattle.query_lang.specs.declared.query.Stmt.TheOpen as stmt

module _ (states args : List ℕ) (outer : Enclosing) (found : Body) where
  abbrev adding : Stmt → Adding
  adding = stmt_checked states args

  pub block_turn : (xs : List Stmt) (i : ℕ) {x : Stmt} → i < length xs → x ≡ get_or xs i x →
      in_order (map adding (drop i xs)) outer found
      ≡ and_then (adding x outer found) (λ more. in_order (map adding (drop (i + 1) xs)) outer more)
  block_turn xs i {x} h is =
      ap (λ l. in_order (map adding l) outer found) (drop_more xs i x h)
      ∙ sym (ap (λ y. and_then (adding y outer found) (λ more. in_order (map adding (drop (i + 1) xs)) outer more)) is)

  rolled : (x : stmt.Stmt-F Stmt) {s w : Stmt} → s ≡ w → roll-Stmt x ≡ w
      → adding s outer found ≡ stmt_step states args (map-Stmt Stmt Adding adding x) outer found
  rolled x is rolls = ap (λ z. adding z outer found) (is ∙ sym rolls)
      ∙ ap (λ (f : Adding). f outer found) (fold-roll-Stmt Adding (stmt_step states args) x)

  pub assign_is : {s : Stmt} {name : Name} {e : Expr} → s ≡ Assign name e → adding s outer found ≡ assigned states args name e found
  assign_is {name = name} {e} is = rolled (stmt.Assign name e) is (rolls-Assign name e)

  pub emit_is : {s : Stmt} {span : Span} → s ≡ Emit span → adding s outer found ≡ emitted span outer found
  emit_is {span = span} is = rolled (stmt.Emit span) is (rolls-Emit span)

  abbrev first_block : Choice → List Stmt → Checked Body
  first_block k a = in_order (map adding a) k.holding (record { statements = []; emit = found.emit })

  abbrev second_block : Choice → Body → List Stmt → Checked Body
  second_block k one b = in_order (map adding b) k.failing (record { statements = []; emit = one.emit })

  abbrev closed : Choice → Body → Body → Checked Body
  closed k one two =
      Ok (record { statements = found.statements ++ typed_stmt.If k.condition one.statements two.statements ∷ []; emit = two.emit })

  module _ {s : Stmt} {c : Expr} (a b : List Stmt) (is : s ≡ If c a b) where
    pub choice_is : adding s outer found
        ≡ and_then (choice_of states args outer c) (λ k. and_then (first_block k a) (λ one. and_then (second_block k one b) (closed k one)))
    choice_is = rolled (stmt.If c a b) is (rolls-If c a b) ∙ split (condition_of (states ++ args) [] c)
      where
        split : (r : Checked TypedExpr) → and_then r (λ k.
            and_then (new_block (map adding a) (inside states outer c k) found.emit) (λ p.
            and_then (new_block (map adding b) (inside states outer c (typed.Not k)) p.emit) (λ q.
            Ok (record { statements = found.statements ++ typed_stmt.If k p.statements q.statements ∷ []; emit = q.emit }))))
            ≡ and_then (and_then r (λ k.
            Ok (record { condition = k; holding = inside states outer c k; failing = inside states outer c (typed.Not k) })))
            (λ k. and_then (first_block k a) (λ one. and_then (second_block k one b) (closed k one)))
        split (Ok k) = refl
        split (Err fault) = refl

    -- the first block's part, where the choice is opened
    pub first_is : {k l : Choice} {p : List Stmt} {start : Body} → choice_of states args outer c ≡ Ok k → l ≡ k → p ≡ a
        → start ≡ record { statements = []; emit = found.emit } →
        adding s outer found
        ≡ and_then (in_order (map adding p) l.holding start) (λ one. and_then (second_block k one b) (closed k one))
    first_is {k} {l} {p} {start} ek el ep es =
        let same : first_block k a ≡ in_order (map adding p) l.holding start =
        ap (λ z. first_block k z) (sym ep) ∙ ap (λ (z : Choice). first_block z p) (sym el)
        ∙ ap (in_order (map adding p) l.holding) (sym es) in
        choice_is
        ∙ ap (λ r. and_then r (λ z. and_then (first_block z a) (λ one. and_then (second_block z one b) (closed z one)))) ek
        ∙ ap (λ r. and_then r (λ one. and_then (second_block k one b) (closed k one))) same

    -- and the second's, where the first is found
    pub second_is : {k l : Choice} {p q : List Stmt} {start one again : Body} → choice_of states args outer c ≡ Ok k → l ≡ k → p ≡ a
        → start ≡ record { statements = []; emit = found.emit } → in_order (map adding p) l.holding start ≡ Ok one → {m : Choice}
        → m ≡ k → q ≡ b → again ≡ record { statements = []; emit = one.emit } →
        adding s outer found ≡ and_then (in_order (map adding q) m.failing again) (closed k one)
    second_is {k} {q = q} {one = one} {again} ek el ep es e {m} em eq ea =
        let same : second_block k one b ≡ in_order (map adding q) m.failing again =
        ap (λ z. second_block k one z) (sym eq) ∙ ap (λ (z : Choice). second_block z one q) (sym em)
        ∙ ap (in_order (map adding q) m.failing) (sym ea) in
        first_is ek el ep es ∙ ap (λ r. and_then r (λ z. and_then (second_block k z b) (closed k z))) e
        ∙ ap (λ r. and_then r (closed k one)) same

    -- and both are found
    pub closed_is : (k : Choice) (one : Body) {two : Body} {rest : Checked Body} {before then_block : List TypedStmt}
        → adding s outer found ≡ and_then rest (closed k one) → rest ≡ Ok two → before ≡ found.statements → then_block ≡ one.statements →
        adding s outer found
        ≡ Ok (record { statements = before ++ typed_stmt.If k.condition then_block two.statements ∷ []; emit = two.emit })
    closed_is k one {two} {before = before} e f eb et =
        e ∙ ap (λ r. and_then r (closed k one)) f
        ∙ ap (λ l. Ok (record { statements = l ++ typed_stmt.If k.condition one.statements two.statements ∷ []; emit = two.emit })) (sym eb)
        ∙ ap (λ l. Ok (record { statements = before ++ typed_stmt.If k.condition l two.statements ∷ []; emit = two.emit })) (sym et)

pub assign_number : {s : Stmt} {name : Name} {e : Expr} {most : ℕ} → s ≡ Assign name e → greatest_number e < most → greatest_in s < most
assign_number {name = name} {e} is h =
    let same = ap greatest_in (is ∙ sym (rolls-Assign name e)) ∙ fold-roll-Stmt ℕ stmt_number_step (stmt.Assign name e) in omega arith

pub choice_number : {s : Stmt} {c : Expr} {a b p q : List Stmt} {most : ℕ} → s ≡ If c a b → p ≡ a → q ≡ b → greatest_number c < most
    → greatest_of (map greatest_in p) < most → greatest_of (map greatest_in q) < most → greatest_in s < most
choice_number {c = c} {a} {b} is ep eq hc hp hq =
    let same = ap greatest_in (is ∙ sym (rolls-If c a b)) ∙ fold-roll-Stmt ℕ stmt_number_step (stmt.If c a b) in
    let first = ap (λ l. greatest_of (map greatest_in l)) ep in
    let second = ap (λ l. greatest_of (map greatest_in l)) eq in
    omega arith
