-- What a fault in a fold says.
use Rattle.std.proofs.Common.{◌≡◌, ℕ, false, ◌||◌, List, [], ◌∷◌, ◌++◌, length, Err, suc, refl, sym, ap, subst, ◌∙◌, append_assoc, arith}
use Rattle.std.specs.Prelude.{nat_lt}
use Rattle.query_laws.proofs.Terms.{QueryFault, FoldDef, Name, StateVar, Known, and_then, is_among, states_from, args_from, body_checked}
use Rattle.query_laws.proofs.Terms.{fold_checked, MAX_ARGS, MAX_STATES, IsNew, state_names_of, arg_names_of}
use Rattle.query_laws.proofs.{BodyFaults.{BlockTold, at_statement, second, follows, body_told}, ExprFaults.not_new, FoldLaws.rest_of}
use Rattle.query_laws.proofs.FaultSteps.{no_fault, by_must, by_must_not, by_next, Broken, broken_in, broken_at}
use Rattle.query_laws.proofs.{FoldNames.{among_append, states_sound, args_sound, ids}, NameFaults.{at_least, ids_last, ids_long}}
use Rattle.query_laws.specs.Asked.{FoldAsks, of_state, of_states, of_arg, of_args, of_statement, of_emits, ids_of}

state_last : (front : List StateVar) (s : StateVar) → ids (front ++ s ∷ []) ≡ ids front ++ s.name.id ∷ []
state_last [] s = refl
state_last (x ∷ front) s = ap (λ z. x.name.id ∷ z) (state_last front s)

states_long : (front : List StateVar) → length (ids front) ≡ length front
states_long [] = refl
states_long (x ∷ front) = ap suc (states_long front)

states_told : {d : FoldDef} (front ss : List StateVar) {found : List ℕ} {known : List Known} {fault : QueryFault}
    → d.states ≡ front ++ ss → found ≡ ids front → states_from found ss ≡ Err fault → Broken (FoldAsks d) known fault
states_told _ [] _ _ e = no_fault e
states_told front (s ∷ ss) {found} split same e = by_must_not (is_among s.name.id found) e
    (λ among at. broken_at _ (of_state front s ss split) at (
      refl,
      λ fresh. not_new s.name.id found among
          (subst (λ z. IsNew s.name.id z) (sym same) fresh),
    )) (λ none e.
    by_must (nat_lt (length found) MAX_STATES) _ e (λ full at. broken_at _ (of_states front s ss split) at
    (refl, refl, at_least (ap length same ∙ states_long front) full)) (λ few e. states_told (front ++ s ∷ []) ss
    (split ∙ sym (append_assoc front (s ∷ []) ss)) (ap (λ z. z ++ s.name.id ∷ []) same ∙ sym (state_last front s)) e))

args_told : {d : FoldDef} (front args : List Name) {found : List ℕ} {known : List Known} {fault : QueryFault}
    → d.args ≡ front ++ args → found ≡ ids_of front → args_from (state_names_of d) found args ≡ Err fault → Broken (FoldAsks d) known fault
args_told _ [] _ _ e = no_fault e
args_told {d} front (a ∷ args) {found} split same e = by_must_not (is_among a.id (state_names_of d) || is_among a.id found) e
    (λ among at. broken_at _ (of_arg front a args split) at (
      refl,
      λ fresh. not_new a.id (state_names_of d ++ found)
          (among_append a.id (state_names_of d) found ∙ among) (subst (λ z. IsNew a.id (state_names_of d ++ z)) (sym same) fresh),
    )) (λ none e.
    by_must (nat_lt (length found) MAX_ARGS) _ e (λ full at. broken_at _ (of_args front a args split) at
    (refl, refl, at_least (ap length same ∙ ids_long front) full)) (λ few e. args_told (front ++ a ∷ []) args
    (split ∙ sym (append_assoc front (a ∷ []) args)) (ap (λ z. z ++ a.id ∷ []) same ∙ sym (ids_last front a)) e))

statements_told : {d : FoldDef} {known : List Known} {fault : QueryFault}
    → BlockTold (state_names_of d) (arg_names_of d) [] d.body false known fault → Broken (FoldAsks d) known fault
statements_told (at_statement h b) = broken_in (λ q asked. of_statement h asked) b
statements_told (second _ e h has) = cc has
statements_told (follows e h) = broken_at _ of_emits e h

pub fold_faults : {d : FoldDef} {known : List Known} {fault : QueryFault} → fold_checked d ≡ Err fault → Broken (FoldAsks d) known fault
fold_faults {d} {known} {fault} e = by_next (states_from [] d.states) e (λ is. states_told [] d.states refl refl is)
    (λ states p e.
    let S = (states_sound d.states [] (omega arith) p).0 in
    by_next (args_from (state_names_of d) [] d.args) (subst (λ z. and_then (args_from z [] d.args) (λ args. rest_of d z args) ≡ Err fault) S
    e) (λ is. args_told [] d.args refl refl is) (λ args q e.
    let a = (args_sound (state_names_of d) d.args [] (omega arith) q).0 in
    by_next (body_checked (state_names_of d) (arg_names_of d) d.body) (subst (λ z. rest_of d (state_names_of d) z ≡ Err fault) a e)
    (λ is. statements_told (body_told (state_names_of d) (arg_names_of d) known fault d.body _ _ (λ span none. cc none) is))
    (λ body r e. no_fault e)))
