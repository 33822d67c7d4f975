-- What the rules say and what the checks give is the same.
use Rattle.std.specs.Prelude.{◌≡◌, ◌↔◌, ℕ, ◌+◌, List, length, Ok, Err}
use Rattle.query_lang.specs.declared.{fault.QueryFault.QueryFault, fold.{TypedExpr.TypedExpr, TypedFold.TypedFold}, query.Expr.Expr}
use Rattle.query_lang.specs.declared.query.{FinalOp.FinalOp, FoldDef.FoldDef, Name.Name, Query.Query, StreamOp.StreamOp}
use Rattle.query_lang.specs.declared.{typed.TypedQuery.TypedQuery, typing.{Given.Given, MadeFinal.MadeFinal, MadeStream.MadeStream}}
use Rattle.query_lang.specs.{TypedExprs.{condition_of, word_of}, TypedFinals.made_final, TypedFolds.fold_checked, TypedStreams.made_stream}
use Rattle.query_lang.specs.Typing.{checked}
use Rattle.query_laws.specs.{Context.{Entry, earlier_of, known_in, streams_in, groups_in}, ExprRules.{Word, Condition, HasKind}}
use Rattle.query_laws.specs.{FinalRules.HasFinal, FoldRules.HasFold, QueryRules.IsTyped, StreamRules.HasStream}

-- An expression is a word by the rules exactly where the check gives this tree for it, whatever states are hidden.
abbrev pub WordsAgree : Type 0
WordsAgree = (columns hidden : List ℕ) (e : Expr) (tree : TypedExpr)
    → HasKind columns Word e tree ↔ (word_of columns hidden e ≡ Ok tree)

-- The same of conditions.
abbrev pub ConditionsAgree : Type 0
ConditionsAgree = (columns hidden : List ℕ) (e : Expr) (tree : TypedExpr)
    → HasKind columns Condition e tree ↔ (condition_of columns hidden e ≡ Ok tree)

-- A fold has this typed form by the rules exactly where the check gives it.
abbrev pub FoldsAgree : Type 0
FoldsAgree = (d : FoldDef) (f : TypedFold) → HasFold d f ↔ (fold_checked d ≡ Ok f)

-- What a stream's operator makes after some items by the rules is what the check makes of it.
abbrev pub StreamsAgree : Type 0
StreamsAgree = (five : List ℕ) (names : List (List ℕ)) (items : List Entry) (name : Name) (op : StreamOp) (made : MadeStream)
    → HasStream five (known_in names items) (length (streams_in items) + 1) (groups_in items) op made
    ↔ (made_stream five (earlier_of names items) name op ≡ Ok made)

-- The same of a final's operator.
abbrev pub FinalsAgree : Type 0
FinalsAgree = (given : Given) (names : List (List ℕ)) (items : List Entry) (op : FinalOp) (made : MadeFinal)
    → HasFinal given (known_in names items) op made ↔ (made_final given (earlier_of names items) op ≡ Ok made)

-- A query has this typed form by the rules exactly where the check gives it.
abbrev pub QueriesAgree : Type 0
QueriesAgree = (q : Query) (t : TypedQuery) → IsTyped q t ↔ (checked q ≡ Ok t)

-- A query has one typed form at most.
abbrev pub HasOneTypedForm : Type 0
HasOneTypedForm = (q : Query) (t u : TypedQuery) → IsTyped q t → IsTyped q u → t ≡ u

-- A query in which the check finds a fault has no typed form.
abbrev pub FaultsHaveNoForm : Type 0
FaultsHaveNoForm = (q : Query) (fault : QueryFault) (t : TypedQuery) → checked q ≡ Err fault → IsTyped q t → ⊥
