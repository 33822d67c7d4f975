-- The typing of expressions, statements and folds whose parts are typed.
use Rattle.std.{proofs.Common.{◌≡◌, ℕ, false, List, [], ◌∷◌, ◌++◌, refl, sym, ap, ◌∙◌}, specs.Prelude.{Ok, not, is_some}}
use Rattle.query_lang.specs.declared.{fault.{FaultKind.TheVariants.{NameTaken, WrongKind}, Span.Span}, fold.Op.{Op, TheVariants.Add}}
use Rattle.query_lang.specs.declared.{fold.{TypedExpr.TypedExpr, TypedFold.TypedFold}, query.{FoldDef.FoldDef, Item.Item, Name.Name}}
use Rattle.query_lang.specs.declared.query.{Expr.{Expr, fold-roll-Expr}, Stmt.{Stmt, fold-roll-Stmt, TheVariants.{rolls-Assign, rolls-If}}}
use Rattle.query_lang.specs.declared.typing.{Body.Body, Enclosing.Enclosing, Earlier.Earlier, Found.Found, Given.Given}
use Rattle.query_lang.specs.declared.fold.TypedExpr.TheVariants as typed
use Rattle.query_lang.specs.declared.fold.TypedStmt.TheVariants as typed_stmt
use Rattle.query_lang.specs.declared.query.Item.TheVariants as item
use Rattle.query_lang.specs.declared.query.Expr.TheOpen as expr
use Rattle.query_lang.specs.declared.query.Expr.TheVariants as whole
use Rattle.query_lang.specs.declared.query.Expr.TheVariants.{rolls-Number, rolls-Named, rolls-Binary, rolls-Call}
use Rattle.query_lang.specs.declared.query.Stmt.TheOpen as stmt
use Rattle.query_lang.specs.declared.query.Stmt.TheVariants as statement
use Rattle.query_lang.specs.declared.typing.Sort.TheVariants as sort
use Rattle.query_lang.specs.Checks.{Checked, and_then, must, must_not, collected}
use Rattle.query_lang.specs.TypedExprs.{is_condition_sort, slot_of, of_two, call_of, expr_step, expr_checked, condition_of, word_of}
use Rattle.query_lang.specs.TypedFolds.{Adding, states_from, args_from, target_of, inside, in_order, new_block, stmt_step, stmt_checked}
use Rattle.query_lang.specs.{TypedFolds.{body_checked, fold_checked, fold_with}, TypedStreams.meaning_of}
use Rattle.query_lang.specs.Typing.{with_fold, items_checked}

-- ---- expressions

pub number_is : (columns : List ℕ) {n : ℕ} {span : Span} → expr_checked columns [] (whole.Number n span) ≡ Ok
    (record { tree = typed.Number n; sort = sort.Number n; at = span })
number_is columns {n} {span} = ap (expr_checked columns []) (sym (rolls-Number n span))
    ∙ fold-roll-Expr (Checked Found) (expr_step columns []) (expr.Number n span)

pub named_is : (columns : List ℕ) (x : Name) {slot : ℕ} → slot_of columns [] x ≡ Ok slot
    → expr_checked columns [] (whole.Named x) ≡ Ok (record { tree = typed.Slot slot; sort = sort.Word; at = x.span })
named_is columns x found =
    ap (expr_checked columns []) (sym (rolls-Named x)) ∙ fold-roll-Expr (Checked Found) (expr_step columns []) (expr.Named x)
    ∙ ap (λ r. and_then r (λ s. Ok (record { tree = typed.Slot s; sort = sort.Word; at = x.span }))) found

pub binary_is : (columns : List ℕ) (op : Op) (span : Span) (a b : Expr) {x y made : Found} → expr_checked columns [] a ≡ Ok x
    → expr_checked columns [] b ≡ Ok y → of_two op x.at x y ≡ Ok made → expr_checked columns [] (whole.Binary op span a b) ≡ Ok made
binary_is columns op span a b {x} left right two =
    ap (expr_checked columns []) (sym (rolls-Binary op span a b)) ∙ fold-roll-Expr (Checked Found) (expr_step columns [])
    (expr.Binary op span a b) ∙ ap (λ r. and_then r (λ p. and_then (expr_checked columns [] b) (λ q. of_two op p.at p q))) left
    ∙ ap (λ r. and_then r (λ q. of_two op x.at x q)) right ∙ two

pub call_is : (columns : List ℕ) (op : Op) (span : Span) (a b : Expr) {x y made : Found} → expr_checked columns [] a ≡ Ok x
    → expr_checked columns [] b ≡ Ok y → of_two op span x y ≡ Ok made → expr_checked columns [] (whole.Call op span (a ∷ b ∷ [])) ≡ Ok made
call_is columns op span a b {x} left right two = ap (expr_checked columns []) (sym (rolls-Call op span (a ∷ b ∷ [])))
    ∙ fold-roll-Expr (Checked Found) (expr_step columns []) (expr.Call op span (a ∷ b ∷ []))
    ∙ ap (λ r. and_then (collected [] (r ∷ expr_checked columns [] b ∷ [])) (call_of op span)) left
    ∙ ap (λ r. and_then (collected [] (Ok x ∷ r ∷ [])) (call_of op span)) right ∙ two

-- ---- statements

pub assign_is : (states args : List ℕ) (x : Name) (e : Expr) {v : ℕ} {value : TypedExpr} (outer : Enclosing) (found : Body)
    → target_of states args x ≡ Ok v → word_of (states ++ args) [] e ≡ Ok value
    → stmt_checked states args (statement.Assign x e) outer found ≡ Ok
    (record { statements = found.statements ++ typed_stmt.Assign v value ∷ []; emit = found.emit })
assign_is states args x e {v} outer found target word = ap (λ s. stmt_checked states args s outer found) (sym (rolls-Assign x e))
    ∙ ap (λ (f : Adding). f outer found) (fold-roll-Stmt Adding (stmt_step states args) (stmt.Assign x e))
    ∙ ap (λ r. and_then r (λ w. and_then (word_of (states ++ args) [] e)
    (λ t. Ok (record { statements = found.statements ++ typed_stmt.Assign w t ∷ []; emit = found.emit })))) target
    ∙ ap (λ r. and_then r (λ t. Ok (record { statements = found.statements ++ typed_stmt.Assign v t ∷ []; emit = found.emit }))) word

-- an `if` of one statement, with no `else`
pub if_is : (states args : List ℕ) (c : Expr) (one : Stmt) (outer : Enclosing) (found : Body) {p : Body} {condition : TypedExpr}
    → condition_of (states ++ args) [] c ≡ Ok condition
    → stmt_checked states args one (inside states outer c condition) (record { statements = []; emit = found.emit }) ≡ Ok p
    → stmt_checked states args (statement.If c (one ∷ []) []) outer found ≡ Ok
    (record { statements = found.statements ++ typed_stmt.If condition p.statements [] ∷ []; emit = p.emit })
if_is states args c one outer found {condition} holds body =
    ap (λ s. stmt_checked states args s outer found) (sym (rolls-If c (one ∷ []) []))
    ∙ ap (λ (f : Adding). f outer found) (fold-roll-Stmt Adding (stmt_step states args) (stmt.If c (one ∷ []) []))
    ∙ ap (λ r. and_then r (λ t. and_then (new_block (stmt_checked states args one ∷ []) (inside states outer c t) found.emit) (λ q.
    Ok (record { statements = found.statements ++ typed_stmt.If t q.statements [] ∷ []; emit = q.emit })))) holds
    ∙ ap (λ r. and_then (and_then r (λ more. in_order [] (inside states outer c condition) more)) (λ q.
    Ok (record { statements = found.statements ++ typed_stmt.If condition q.statements [] ∷ []; emit = q.emit }))) body

-- a statement before others
pub first_is : (one : Adding) (rest : List Adding) {outer : Enclosing} {found p : Body} → one outer found ≡ Ok p
    → in_order (one ∷ rest) outer found ≡ in_order rest outer p
first_is one rest {outer} made = ap (λ r. and_then r (λ more. in_order rest outer more)) made

-- ---- forms of the trial's statements

-- a word that is one operation
pub word_is : (columns : List ℕ) (e : Expr) {tree : TypedExpr} {at : Span}
    → expr_checked columns [] e ≡ Ok (record { tree = tree; sort = sort.Word; at = at }) → word_of columns [] e ≡ Ok tree
word_is columns e found = ap (λ r. and_then r (λ (x : Found). must (not (is_condition_sort x.sort)) WrongKind x.at (Ok x.tree))) found

pub condition_is : (columns : List ℕ) (e : Expr) {tree : TypedExpr} {at : Span}
    → expr_checked columns [] e ≡ Ok (record { tree = tree; sort = sort.Condition; at = at }) → condition_of columns [] e ≡ Ok tree
condition_is columns e found = ap (λ r. and_then r (λ (x : Found). must (is_condition_sort x.sort) WrongKind x.at (Ok x.tree))) found

-- a variable that is 1 more
pub increment_is : (states args : List ℕ) (x y : Name) (plus one : Span) {v : ℕ} (outer : Enclosing) (found : Body)
    → target_of states args x ≡ Ok v → slot_of (states ++ args) [] y ≡ Ok v
    → stmt_checked states args (statement.Assign x (whole.Binary Add plus (whole.Named y) (whole.Number 1 one))) outer found ≡ Ok (record {
      statements = found.statements ++ typed_stmt.Assign v (typed.Binary Add (typed.Slot v) (typed.Number 1)) ∷ [];
      emit = found.emit;
    })
increment_is states args x y plus one outer found target slot =
    assign_is states args x (whole.Binary Add plus (whole.Named y) (whole.Number 1 one)) outer found target
    (word_is (states ++ args) (whole.Binary Add plus (whole.Named y) (whole.Number 1 one))
    (binary_is (states ++ args) Add plus (whole.Named y) (whole.Number 1 one)
    (named_is (states ++ args) y slot) (number_is (states ++ args)) refl))

-- two names with an operator between them
pub names_is : (columns : List ℕ) (op : Op) (span : Span) (x y : Name) {a b : ℕ} {made : Found} → slot_of columns [] x ≡ Ok a
    → slot_of columns [] y ≡ Ok b → of_two op x.span (record { tree = typed.Slot a; sort = sort.Word; at = x.span })
    (record { tree = typed.Slot b; sort = sort.Word; at = y.span }) ≡ Ok made
    → expr_checked columns [] (whole.Binary op span (whole.Named x) (whole.Named y)) ≡ Ok made
names_is columns op span x y left right two = binary_is columns op span (whole.Named x) (whole.Named y)
    (named_is columns x left) (named_is columns y right) two

-- ---- folds

pub fold_is : (d : FoldDef) {states args : List ℕ} {body : Body} → states_from [] d.states ≡ Ok states
    → args_from states [] d.args ≡ Ok args → body_checked states args d.body ≡ Ok body → fold_checked d ≡ Ok (fold_with d states args body)
fold_is d {states} {args} s a b =
    ap (λ r. and_then r (λ x. and_then (args_from x [] d.args) (λ y. and_then (body_checked x y d.body) (λ z. Ok (fold_with d x y z))))) s
    ∙ ap (λ r. and_then r (λ y. and_then (body_checked states y d.body) (λ z. Ok (fold_with d states y z)))) a
    ∙ ap (λ r. and_then r (λ z. Ok (fold_with d states args z))) b

-- a fold whose name is free, before other items
pub fold_next : (given : Given) (earlier : Earlier) (d : FoldDef) (f : TypedFold) (rest : List Item)
    → is_some (meaning_of earlier.known d.name.id) ≡ false → fold_checked d ≡ Ok f
    → items_checked given earlier (item.Fold d ∷ rest) ≡ items_checked given (with_fold earlier f) rest
fold_next given earlier d f rest free is =
    ap (λ b. and_then (must_not b NameTaken d.name.span (and_then (fold_checked d) (λ g. Ok (with_fold earlier g))))
    (λ more. items_checked given more rest)) free
    ∙ ap (λ r. and_then (and_then r (λ g. Ok (with_fold earlier g))) (λ more. items_checked given more rest)) is
