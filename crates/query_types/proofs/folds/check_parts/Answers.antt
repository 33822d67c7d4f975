-- A fold's body is checked after its state variables and its arguments.
use Rattle.std.proofs.Common.{◌≡◌, ℕ, List, [], Ok, refl, sym, ap, ◌∙◌}
use Rattle.query_lang.specs.{declared.query.{FoldDef.FoldDef, Name.Name, StateVar.StateVar, Stmt.Stmt}, Checks.and_then}
use Rattle.query_lang.specs.TypedFolds.{states_from, args_from, body_checked, fold_checked, fold_with}
use Rattle.query_types.proofs.CheckLemmas.{stops, goes_on}
use Rattle.query_types.proofs.folds.check_parts.Goals as goal

body_is : (d : FoldDef) {states args s t u : List ℕ} {p : List StateVar} {q : List Name} {body : List Stmt} → p ≡ d.states
    → states_from [] p ≡ Ok states → s ≡ states → q ≡ d.args → args_from s [] q ≡ Ok args → t ≡ states → u ≡ args → body ≡ d.body
    → fold_checked d ≡ and_then (body_checked t u body) (λ found. Ok (fold_with d states args found))
body_is d {states} {args} {s} {t} {u} {p} {q} {body} ep es e eq ea et eu eb =
    let first : states_from [] d.states ≡ Ok states = ap (states_from []) (sym ep) ∙ es in
    let second : args_from states [] d.args ≡ Ok args = rw (e, eq) at ea in
    rw (et, eu, eb, first, second) refl

pub returns-in_err-body-clause-given : goal.returns-in_err-body-clause-given
returns-in_err-body-clause-given c =
    stops _ _ (body_is c.args.d.now c.as_slice.ensures c.in_ok-states.ensures.given c.as_slice-2.ensures c.as_slice-3.ensures
    c.in_ok-args.ensures.given c.as_slice-4.ensures c.as_slice-5.ensures c.as_slice-6.ensures) _ _
    c.from_residual-in_err-body.ensures.1 c.in_err-body.ensures.given

pub returns-clause-given : goal.returns-clause-given
returns-clause-given c =
    goes_on _ _ (body_is c.args.d.now c.as_slice.ensures c.in_ok-states.ensures.given c.as_slice-2.ensures c.as_slice-3.ensures
    c.in_ok-args.ensures.given c.as_slice-4.ensures c.as_slice-5.ensures c.as_slice-6.ensures) _ c.in_ok-body.ensures.given
    c.fold_of.ensures
