-- The trial's folds are typed, and then its query is.
use Rattle.std.{proofs.Common.{◌≡◌, ℕ, ◌+◌, List, [], ◌∷◌, None, refl, ap, ◌∙◌}, specs.Prelude.{Ok, ◌-◌, ◌^◌}}
use Rattle.query_lang.specs.declared.fold.{Op.TheVariants.{Add, Eq, Ne, Max}, TypedExpr.TypedExpr, TypedFold.TypedFold, TypedStmt.TypedStmt}
use Rattle.query_lang.specs.declared.{fault.Span.Span, query.{Expr.Expr, Stmt.Stmt}, typing.{Found.Found, Body.Body, Enclosing.Enclosing}}
use Rattle.query_lang.specs.declared.fold.TypedExpr.TheVariants as typed
use Rattle.query_lang.specs.declared.fold.TypedStmt.TheVariants as typed_stmt
use Rattle.query_lang.specs.declared.query.Expr.TheVariants as whole
use Rattle.query_lang.specs.declared.query.Stmt.TheVariants as statement
use Rattle.query_lang.specs.declared.typing.Sort.TheVariants as sort
use Rattle.query_lang.specs.{Checks.and_then, TypedExprs.{condition_of, word_of}}
use Rattle.query_lang.specs.TypedFolds.{inside, in_order, stmt_checked, body_checked, fold_checked, fold_with}
use Rattle.accepted_query.proofs.TrialSteps.{number_is, named_is, binary_is, call_is, word_is, condition_is, names_is, assign_is}
use Rattle.accepted_query.proofs.TrialSteps.{increment_is, if_is, fold_is}
use Rattle.accepted_query.proofs.TrialParts.{at, named, count_fold, lost_fold, oos_fold, deepest_fold}

-- no conditions around a statement, and no statements before it
abbrev top : Enclosing
top = record { condition = None; state = None }

abbrev after : List TypedStmt → Body
after before = record { statements = before; emit = None }

-- the statement that adds 1 to a variable
abbrev increment : ℕ → TypedStmt
increment v = typed_stmt.Assign v (typed.Binary Add (typed.Slot v) (typed.Number 1))

abbrev plus_one : ℕ → ℕ → ℕ → ℕ → ℕ → Stmt
plus_one v target name plus one =
    statement.Assign (named v target (target + 1)) (whole.Binary Add (at plus (plus + 1)) (whole.Named (named v name (name + 1)))
    (whole.Number 1 (at one (one + 1))))

abbrev slot_found : ℕ → Span → Found
slot_found slot span = record { tree = typed.Slot slot; sort = sort.Word; at = span }

abbrev number_found : ℕ → Span → Found
number_found n span = record { tree = typed.Number n; sort = sort.Number n; at = span }

abbrev word_found : TypedExpr → Span → Found
word_found tree span = record { tree = tree; sort = sort.Word; at = span }

abbrev condition_found : TypedExpr → Span → Found
condition_found tree span = record { tree = tree; sort = sort.Condition; at = span }

abbrev pub count_typed : TypedFold
count_typed = fold_with count_fold (1 ∷ []) [] (after (increment 0 ∷ []))

pub count_is : fold_checked count_fold ≡ Ok count_typed
count_is =
    let one = increment_is (1 ∷ []) [] (named 1 21 22) (named 1 25 26) (at 27 28) (at 29 30) top (after []) refl refl in
    let body : body_checked (1 ∷ []) [] count_fold.body ≡ Ok (after (increment 0 ∷ [])) =
    ap (λ r. and_then r (λ more. in_order [] top more)) one in
    fold_is count_fold refl refl body

abbrev lost_body : Body
lost_body = after (typed_stmt.If (typed.Binary Eq (typed.Slot 1) (typed.Number (2 ^ 64 - 1))) (increment 0 ∷ []) [] ∷ [])

abbrev pub lost_typed : TypedFold
lost_typed = fold_with lost_fold (3 ∷ []) (4 ∷ []) lost_body

pub lost_is : fold_checked lost_fold ≡ Ok lost_typed
lost_is =
    let written : Expr = whole.Binary Eq (at 67 69) (whole.Named (named 4 62 66)) (whole.Number (2 ^ 64 - 1) (at 70 78)) in
    let holds : TypedExpr = typed.Binary Eq (typed.Slot 1) (typed.Number (2 ^ 64 - 1)) in
    let condition : condition_of (3 ∷ 4 ∷ []) [] written ≡ Ok holds = condition_is (3 ∷ 4 ∷ []) written
    (binary_is (3 ∷ 4 ∷ []) Eq (at 67 69) (whole.Named (named 4 62 66)) (whole.Number (2 ^ 64 - 1) (at 70 78))
    (named_is (3 ∷ 4 ∷ []) (named 4 62 66) refl) (number_is (3 ∷ 4 ∷ [])) refl)
    in
    let one = increment_is (3 ∷ []) (4 ∷ []) (named 3 82 83) (named 3 86 87) (at 88 89) (at 90 91) (inside (3 ∷ []) top written holds)
    (after []) refl refl in
    let choice = if_is (3 ∷ []) (4 ∷ []) written (plus_one 3 82 86 88 90) top (after []) condition one in
    let body : body_checked (3 ∷ []) (4 ∷ []) lost_fold.body ≡ Ok lost_body = ap (λ r. and_then r (λ more. in_order [] top more)) choice in
    fold_is lost_fold refl refl body

abbrev oos_condition : TypedExpr
oos_condition = typed.Binary Ne (typed.Slot 0) (typed.Slot 2)

abbrev oos_sum : TypedExpr
oos_sum = typed.Binary Add (typed.Slot 2) (typed.Slot 3)

abbrev oos_body : Body
oos_body = after (typed_stmt.If oos_condition (increment 1 ∷ []) [] ∷ typed_stmt.Assign 0 oos_sum ∷ [])

abbrev pub oos_typed : TypedFold
oos_typed = fold_with oos_fold (6 ∷ 7 ∷ []) (8 ∷ 9 ∷ []) oos_body

pub oos_is : fold_checked oos_fold ≡ Ok oos_typed
oos_is =
    let columns : List ℕ = 6 ∷ 7 ∷ 8 ∷ 9 ∷ [] in
    let written : Expr = whole.Binary Ne (at 150 152) (whole.Named (named 6 145 149)) (whole.Named (named 8 153 159)) in
    let sum : Expr = whole.Binary Add (at 190 191) (whole.Named (named 8 183 189)) (whole.Named (named 9 192 203)) in
    let first : Body = after (typed_stmt.If oos_condition (increment 1 ∷ []) [] ∷ []) in
    let condition : condition_of columns [] written ≡ Ok oos_condition =
    condition_is columns written (names_is columns Ne (at 150 152) (named 6 145 149) (named 8 153 159) refl refl refl)
    in
    let word : word_of columns [] sum ≡ Ok oos_sum = word_is columns sum
    (names_is columns Add (at 190 191) (named 8 183 189) (named 9 192 203) refl refl refl) in
    let one = increment_is (6 ∷ 7 ∷ []) (8 ∷ 9 ∷ []) (named 7 163 164) (named 7 167 168) (at 169 170) (at 171 172)
    (inside (6 ∷ 7 ∷ []) top written oos_condition) (after []) refl refl in
    let choice = if_is (6 ∷ 7 ∷ []) (8 ∷ 9 ∷ []) written (plus_one 7 163 167 169 171) top (after []) condition one in
    let last = assign_is (6 ∷ 7 ∷ []) (8 ∷ 9 ∷ []) (named 6 176 180) sum top first refl word in
    let body : body_checked (6 ∷ 7 ∷ []) (8 ∷ 9 ∷ []) oos_fold.body ≡ Ok oos_body =
    ap (λ r. and_then r (λ more. and_then (stmt_checked (6 ∷ 7 ∷ []) (8 ∷ 9 ∷ []) (statement.Assign (named 6 176 180) sum) top more)
    (λ next. in_order [] top next))) choice ∙ ap (λ r. and_then r (λ next. in_order [] top next)) last
    in
    fold_is oos_fold refl refl body

abbrev greater : TypedExpr
greater = typed.Binary Max (typed.Slot 0) (typed.Slot 1)

abbrev deepest_body : Body
deepest_body = after (typed_stmt.Assign 0 greater ∷ [])

abbrev pub deepest_typed : TypedFold
deepest_typed = fold_with deepest_fold (11 ∷ []) (12 ∷ []) deepest_body

pub deepest_is : fold_checked deepest_fold ≡ Ok deepest_typed
deepest_is =
    let columns : List ℕ = 11 ∷ 12 ∷ [] in
    let call : Expr = whole.Call Max (at 239 242) (whole.Named (named 11 243 244) ∷ whole.Named (named 12 246 251) ∷ []) in
    let word : word_of columns [] call ≡ Ok greater = word_is columns call
    (call_is columns Max (at 239 242) (whole.Named (named 11 243 244)) (whole.Named (named 12 246 251))
    (named_is columns (named 11 243 244) refl) (named_is columns (named 12 246 251) refl) refl)
    in
    let one = assign_is (11 ∷ []) (12 ∷ []) (named 11 235 236) call top (after []) refl word in
    let body : body_checked (11 ∷ []) (12 ∷ []) deepest_fold.body ≡ Ok deepest_body =
    ap (λ r. and_then r (λ more. in_order [] top more)) one in
    fold_is deepest_fold refl refl body
