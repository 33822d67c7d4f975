-- Folds: the rule and the check agree.
use Rattle.std.proofs.Common.{◌≡◌, ℕ, List, [], None, Ok, refl, sym, ap, subst, ◌∙◌, arith, append-nil}
use Rattle.query_laws.proofs.Terms.{TypedFold, FoldDef, Checked, and_then, body_checked, fold_checked, fold_with, AreNew, HasBlock, HasFold}
use Rattle.query_laws.proofs.{Terms.{at_most_one, state_names_of, arg_names_of}, Steps.{same_ok, found_first, then_next}}
use Rattle.query_laws.proofs.FoldNames.{states_sound, states_complete, args_sound, args_complete}
use Rattle.query_laws.proofs.Blocks.{Fits, block_sound, block_complete}

pub nothing_around : {states : List ℕ} → Fits states [] (record { condition = None; state = None })
nothing_around = record { condition = refl; past = λ h. tt; none = λ h. refl }

-- what is left of the check once the names are found
abbrev pub rest_of : FoldDef → List ℕ → List ℕ → Checked TypedFold
rest_of d states args = and_then (body_checked states args d.body) (λ body. Ok (fold_with d states args body))

pub fold_sound : {d : FoldDef} {f : TypedFold} → fold_checked d ≡ Ok f → HasFold d f
fold_sound {d} {f} e =
    let states = found_first _ _ f e in
    let args = found_first _ _ f states.2 in
    let s = states_sound _ _ (omega arith) states.1 in
    let a = args_sound _ _ _ (omega arith) args.1 in
    let N : List ℕ → Type 0 = λ z. AreNew z (arg_names_of d) in
    let whole : rest_of d (state_names_of d) (arg_names_of d) ≡ Ok f =
    sym (ap (λ z. rest_of d z args.0) s.0 ∙ ap (λ z. rest_of d (state_names_of d) z) a.0) ∙ args.2 in
    let body = found_first _ _ f whole in
    let b = block_sound _ nothing_around body.1 in
    record {
      body = body.0.statements;
      emit = body.0.emit;
      is = sym (same_ok _ f body.2);
      states = s.1;
      args = subst N s.0 (subst N (append-nil states.0) a.1);
      few_states = omega (arith, s.2);
      few_args = omega (arith, a.2);
      statements = subst (λ z. HasBlock (state_names_of d) (arg_names_of d) [] d.body z (at_most_one body.0.emit)) (sym b.statements)
          (subst (λ z. HasBlock (state_names_of d) (arg_names_of d) [] d.body b.ts z) b.emits b.rule);
    }

pub fold_complete : {d : FoldDef} {f : TypedFold} → HasFold d f → fold_checked d ≡ Ok f
fold_complete {d} h = then_next _ (states_complete _ _ h.states (omega (arith, h.few_states)))
    ∙ then_next _ (args_complete _ _ _ (subst (λ z. AreNew z (arg_names_of d)) (sym (append-nil (state_names_of d))) h.args)
    (omega (arith, h.few_args))) ∙ then_next _ (block_complete h.statements _ nothing_around refl)
    ∙ ap (λ g. let r : Checked TypedFold = Ok g in r) (sym h.is)
