-- Small folds, typed and refused by the rules.
use Rattle.std.specs.Prelude.{ℕ, List, [], ◌∷◌, ◌++◌, map, Option, Some, None}
use Rattle.query_lang.specs.declared.fold.{Op.TheVariants.{Add, Lt, Both}, TypedExpr.TypedExpr}
use Rattle.query_lang.specs.declared.fold.TypedExpr.TheVariants as typed
use Rattle.query_lang.specs.declared.fold.{TypedFold.TypedFold, TypedStmt.TypedStmt}
use Rattle.query_lang.specs.declared.fold.TypedStmt.TheVariants as typed_stmt
use Rattle.query_lang.specs.declared.query.{Expr.{Expr, TheVariants.{Number, Binary}}, FoldDef.FoldDef, Stmt.Stmt}
use Rattle.query_lang.specs.declared.query.Stmt.TheVariants.{Assign, If, Emit}
use Rattle.query_laws.specs.{FoldRules.{HasFold, fold_of}, TypingExamples.{here, called, first, second, is_less, is_above_0}}

-- a fold with these state variables, which start with 0, these arguments and this body
abbrev pub fold_over : List ℕ → List ℕ → List Stmt → FoldDef
fold_over states args body = record {
  name = called 20;
  states = map (λ id. record { name = called id; initial = 0 }) states;
  args = map called args;
  body = body;
}

-- with the variable 1 and the argument 2: slot 0 is the variable, and slot 1 the argument
abbrev pub a_fold : List Stmt → FoldDef
a_fold body = fold_over (1 ∷ []) (2 ∷ []) body

-- its typed form, of that many nodes and statements
abbrev pub typed_fold : List TypedStmt → Option TypedExpr → ℕ → ℕ → TypedFold
typed_fold body emit nodes statements = record {
  name = called 20;
  state_names = 1 ∷ [];
  initial = 0 ∷ [];
  arg_names = 2 ∷ [];
  body = body;
  emit = emit;
  nodes = nodes;
  statements = statements;
}

abbrev pub HasNoFold : FoldDef → Type 0
HasNoFold d = (f : TypedFold) → HasFold d f → ⊥

-- the variable is one more
abbrev pub one_more : Stmt
one_more = Assign (called 1) (Binary Add here first (Number 1 here))

abbrev pub typed_one_more : TypedStmt
typed_one_more = typed_stmt.Assign 0 (typed.Binary Add (typed.Slot 0) (typed.Number 1))

-- 0 is less than the variable, and than the argument; and the argument is less than 9
abbrev pub on_state : Expr
on_state = is_above_0 1

abbrev pub typed_on_state : TypedExpr
typed_on_state = typed.Binary Lt (typed.Number 0) (typed.Slot 0)

abbrev pub on_argument : Expr
on_argument = is_above_0 2

abbrev pub typed_on_argument : TypedExpr
typed_on_argument = typed.Binary Lt (typed.Number 0) (typed.Slot 1)

abbrev pub below_9 : Expr
below_9 = Binary Lt here second (Number 9 here)

abbrev pub typed_below_9 : TypedExpr
typed_below_9 = typed.Binary Lt (typed.Slot 1) (typed.Number 9)

-- eight names, and sixteen
abbrev pub eight : List ℕ
eight = 1 ∷ 2 ∷ 3 ∷ 4 ∷ 5 ∷ 6 ∷ 7 ∷ 8 ∷ []

abbrev pub sixteen : List ℕ
sixteen = eight ++ 11 ∷ 12 ∷ 13 ∷ 14 ∷ 15 ∷ 16 ∷ 17 ∷ 18 ∷ []

pub record FoldExamples : Type 0 where
  pub count : HasFold (a_fold (one_more ∷ [])) (typed_fold (typed_one_more ∷ []) None 3 1)
  pub choice_on_a_state : HasFold (a_fold (If on_state (one_more ∷ []) [] ∷ []))
      (typed_fold (typed_stmt.If typed_on_state (typed_one_more ∷ []) [] ∷ []) None 6 2)
  -- an `emit` has the conditions around it, those of an `else` negated, and the number 1 where there are none
  pub emit_always : HasFold (a_fold (Emit here ∷ [])) (typed_fold [] (Some (typed.Number 1)) 0 1)
  pub emit_on_an_argument : HasFold (a_fold (If on_argument (one_more ∷ Emit here ∷ []) [] ∷ []))
      (typed_fold (typed_stmt.If typed_on_argument (typed_one_more ∷ []) [] ∷ []) (Some typed_on_argument) 6 3)
  pub emit_in_an_else : HasFold (a_fold (If on_argument (If below_9 [] (Emit here ∷ []) ∷ []) [] ∷ []))
      (typed_fold (typed_stmt.If typed_on_argument (typed_stmt.If typed_below_9 [] [] ∷ []) [] ∷ [])
      (Some (typed.Binary Both typed_on_argument (typed.Not typed_below_9))) 6 3)
  -- none of these reads a variable, the innermost or another
  pub emit_on_a_state : HasNoFold (a_fold (If on_state (Emit here ∷ []) [] ∷ []))
  pub emit_on_no_state : HasNoFold (a_fold (If on_state [] (Emit here ∷ []) ∷ []))
  pub emit_inside_a_state : HasNoFold (a_fold (If on_state (If on_argument (Emit here ∷ []) [] ∷ []) [] ∷ []))
  -- there is one `emit`, also where at most one of two runs
  pub second_emit : HasNoFold (a_fold (Emit here ∷ Emit here ∷ []))
  pub emit_in_each_block : HasNoFold (a_fold (If on_argument (Emit here ∷ []) (Emit here ∷ []) ∷ []))
  -- a variable is given a word, and an argument nothing; what is chosen by is a condition
  pub assigned_argument : HasNoFold (a_fold (Assign (called 2) (Number 0 here) ∷ []))
  pub assigned_other : HasNoFold (a_fold (Assign (called 3) (Number 0 here) ∷ []))
  pub assigned_condition : HasNoFold (a_fold (Assign (called 1) is_less ∷ []))
  pub choice_on_a_word : HasNoFold (a_fold (If second [] [] ∷ []))
  -- no name is two of the variables and arguments
  pub state_twice : HasNoFold (fold_over (1 ∷ 1 ∷ []) [] [])
  pub argument_twice : HasNoFold (fold_over [] (2 ∷ 2 ∷ []) [])
  pub argument_with_a_states_name : HasNoFold (fold_over (1 ∷ []) (1 ∷ []) [])
  -- there are at most 8 variables, and at most 16 arguments
  pub eight_states : HasFold (fold_over eight [] []) (fold_of (fold_over eight [] []) [] None)
  pub nine_states : HasNoFold (fold_over (9 ∷ eight) [] [])
  pub sixteen_arguments : HasFold (fold_over [] sixteen []) (fold_of (fold_over [] sixteen []) [] None)
  pub seventeen_arguments : HasNoFold (fold_over [] (19 ∷ sixteen) [])
