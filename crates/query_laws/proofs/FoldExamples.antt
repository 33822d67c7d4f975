-- The examples of folds, from the rules.
use Rattle.std.proofs.Common.{◌≡◌, ℕ, ◌≤◌, List, [], ◌∷◌, Option, refl, sym, ap, subst, ◌∙◌, arith}
use Rattle.query_lang.specs.declared.fold.TypedExpr.TheVariants as typed
use Rattle.query_lang.specs.declared.query.Expr.TheVariants.{Number}
use Rattle.query_lang.proofs.TreeLemmas.{term_number, term_slot, term_not, term_binary}
use Rattle.query_laws.proofs.Terms.{Op, TypedExpr, TypedStmt, Expr, FoldDef, Stmt, If, Emit, ReadsArguments, Term, term_of, fold_nodes}
use Rattle.query_laws.proofs.Terms.{IsOneOf, StandsIn, Demand, Holds, Word, Condition, HasKind, of_number, of_binary, HasBlock, of_none}
use Rattle.query_laws.proofs.Terms.{of_assign, of_if, of_emit, at_most_one, HasFold}
use Rattle.query_laws.specs.Asked.{StmtAsks, FoldAsks, of_statement, of_emits}
use Rattle.query_laws.specs.Asked as asks
use Rattle.query_laws.specs.Demands as parts
use Rattle.query_laws.proofs.{ExprComplete.condition_complete, FaultSteps.no_fault, FoldLaws.fold_sound, FoldNames.among_new}
use Rattle.query_laws.proofs.{FoldsMeet.fold_meets, Steps.then_next}
use Rattle.query_laws.proofs.FoldCounts.{Counts, count_counts, emit_counts, choice_counts, argument_counts, else_counts}
use Rattle.query_laws.proofs.TypingExamples.{first_word, second_word, second_is, no_word, no_place, right_of_0}
use Rattle.query_laws.specs.{TypingExamples.{here, called, two_columns, second}, FoldExamples.{a_fold, typed_fold, HasNoFold, one_more}}
use Rattle.query_laws.specs.FoldExamples.{typed_one_more, on_state, typed_on_state, on_argument, typed_on_argument, below_9, typed_below_9}
use Rattle.query_laws.specs.FoldExamples.{FoldExamples}

-- ---- typed

-- the block of a fold inside these conditions
abbrev Inside : List TypedExpr → List Stmt → List TypedStmt → List TypedExpr → Type 0
Inside around body ts emits = HasBlock (1 ∷ []) (2 ∷ []) around body ts emits

typed_as : {body : List Stmt} {ts : List TypedStmt} {emit : Option TypedExpr} {n m : ℕ} → Counts body n m
    → Inside [] body ts (at_most_one emit) → HasFold (a_fold body) (typed_fold ts emit n m)
typed_as {body} {ts} {emit} {m} counts block = record {
  body = ts;
  emit = emit;
  is = ap (λ z. typed_fold ts emit z m) (sym counts.nodes) ∙ ap (λ z. typed_fold ts emit (fold_nodes (a_fold body)) z)
      (sym counts.statements);
  states = (tt, tt);
  args = (among_new 2 (1 ∷ []) refl, tt);
  few_states = omega arith;
  few_args = omega arith;
  statements = block;
}

one_more_in : {around : List TypedExpr} {rest : List Stmt} {ts : List TypedStmt} {emits : List TypedExpr} → Inside around rest ts emits
    → Inside around (one_more ∷ rest) (typed_one_more ∷ ts) emits
one_more_in h = of_assign (called 1) refl (of_binary here first_word (of_number here) tt) h

state_typed : HasKind two_columns Condition on_state typed_on_state
state_typed = of_binary here (of_number here) first_word tt

argument_typed : HasKind two_columns Condition on_argument typed_on_argument
argument_typed = of_binary here (of_number here) second_word tt

below_typed : HasKind two_columns Condition below_9 typed_below_9
below_typed = of_binary here second_word (of_number here) tt

-- which of these read the argument alone

abbrev ReadsNoState : TypedExpr → Type 0
ReadsNoState t = ReadsArguments 1 (term_of t)

seen : (t : TypedExpr) {u : Term} → term_of t ≡ u → ReadsArguments 1 u → ReadsNoState t
seen t is h = subst (λ z. ReadsArguments 1 z) (sym is) h

of_two : (op : Op) (a b : TypedExpr) → ReadsNoState a → ReadsNoState b → ReadsNoState (typed.Binary op a b)
of_two op a b p q = seen _ (term_binary op a b) (p, q)

of_a_number : (n : ℕ) → ReadsNoState (typed.Number n)
of_a_number n = seen _ (term_number n) tt

of_the_argument : ReadsNoState (typed.Slot 1)
of_the_argument = let past : 1 ≤ 1 = omega arith in seen _ (term_slot 1) past

argument_reads : ReadsNoState typed_on_argument
argument_reads = of_two _ _ _ (of_a_number 0) of_the_argument

else_reads : ReadsNoState (typed.Not typed_below_9)
else_reads = seen _ (term_not typed_below_9) (of_two _ _ _ of_the_argument (of_a_number 9))

-- ---- refused

-- a fold has no form where something that it asks isn't so
unmet : {d : FoldDef} {q : Demand} → FoldAsks d q → (Holds [] q → ⊥) → HasNoFold d
unmet asked fails = λ f h. fails (fold_meets [] h asked)

-- an `emit` inside a condition on the state
reads_state : {body : List Stmt} {around : List Expr} → StandsIn [] body around (Emit here) → IsOneOf on_state around
    → HasNoFold (a_fold body)
reads_state stands i = unmet (of_statement stands (asks.of_emit _ i)) (λ none. (none (called 1) (Condition, Word, right_of_0)).0 refl)

emit_first : {around : List Expr} → StandsIn around (Emit here ∷ []) around (Emit here)
emit_first = parts.first

-- a first statement of which this is asked
first_asks : {s : Stmt} {q : Demand} → StmtAsks (1 ∷ []) (2 ∷ []) [] s q → FoldAsks (a_fold (s ∷ [])) q
first_asks asked = of_statement parts.first asked

no_condition : (t : TypedExpr) × HasKind two_columns Condition second t → ⊥
no_condition h = no_fault (sym (condition_complete [] h.1) ∙ then_next _ second_is)

-- ---- all

pub fold_examples : FoldExamples
fold_examples = record {
  count = typed_as count_counts (one_more_in (of_none []));
  choice_on_a_state = typed_as choice_counts (of_if state_typed
      (one_more_in (of_none (typed_on_state ∷ []))) (of_none (typed.Not typed_on_state ∷ [])) (of_none []));
  emit_always = typed_as emit_counts (of_emit here tt (of_none []));
  emit_on_an_argument = typed_as argument_counts (of_if argument_typed (one_more_in
      (of_emit here (argument_reads, tt) (of_none (typed_on_argument ∷ [])))) (of_none (typed.Not typed_on_argument ∷ [])) (of_none []));
  emit_in_an_else = typed_as else_counts (of_if argument_typed (of_if below_typed (of_none (typed_below_9 ∷ typed_on_argument ∷ []))
      (of_emit here (else_reads, (argument_reads, tt)) (of_none (typed.Not typed_below_9 ∷ typed_on_argument ∷ [])))
      (of_none (typed_on_argument ∷ []))) (of_none (typed.Not typed_on_argument ∷ [])) (of_none []));
  emit_on_a_state = reads_state (parts.in_first (Emit here ∷ []) [] [] emit_first) parts.first;
  emit_on_no_state = reads_state (parts.in_second [] emit_first) parts.first;
  emit_inside_a_state = reads_state (parts.in_first (If on_argument (Emit here ∷ []) [] ∷ []) [] [] (parts.in_first (Emit here ∷ []) [] []
      emit_first)) (parts.later on_argument (on_state ∷ []) parts.first);
  second_emit = unmet of_emits (λ alone. alone here (parts.beyond ([], here, emit_first) emit_first));
  emit_in_each_block = unmet of_emits (λ alone. alone here (parts.across on_argument (Emit here ∷ []) ([], here, emit_first) emit_first));
  assigned_argument = unmet (first_asks (asks.of_target (Number 0 here))) (no_place (1 ∷ []) 2 refl);
  assigned_other = unmet (first_asks (asks.of_target (Number 0 here))) (no_place (1 ∷ []) 3 refl);
  assigned_condition = unmet (first_asks (asks.of_value (called 1) (asks.of_part parts.whole))) no_word;
  choice_on_a_word = unmet (first_asks (asks.of_condition [] [] (asks.of_part parts.whole))) no_condition;
  state_twice = λ f h. h.states.1.0.0 refl;
  argument_twice = λ f h. h.args.1.0.0 refl;
  argument_with_a_states_name = λ f h. h.args.0.0 refl;
  eight_states = fold_sound refl;
  nine_states = λ f h. let few : 9 ≤ 8 = h.few_states in absurd (omega (arith, few));
  sixteen_arguments = fold_sound refl;
  seventeen_arguments = λ f h. let few : 17 ≤ 16 = h.few_args in absurd (omega (arith, few));
}
