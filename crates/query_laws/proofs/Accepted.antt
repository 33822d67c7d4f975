-- The steps of acceptance, in sequence, are the rules.
use Rattle.std.proofs.Common.{◌≡◌, ℕ, List, Option, Some, None, Ok, Err, refl, sym, ap, subst, ◌∙◌}
use Rattle.query_lang.specs.declared.fault.FaultKind.TheVariants as kinds
use Rattle.query_grammar.proofs.TextFaults.{query_of_text, text_of_query, fault_of_text}
use Rattle.query_laws.proofs.Terms.{FaultKind, QueryFault, Span, Query, TypedQuery, and_then, checked, parsed_text, IsTyped, accepted}
use Rattle.query_laws.proofs.{Terms.{staged, unless_fault}, FaultSteps.{at_span, by_next, no_fault}}
use Rattle.query_laws.proofs.{QueryFaults.{at_some_item, at_end, only_these}, QueryLaws.{query_sound, query_complete, no_form}}
use Rattle.query_laws.proofs.{Steps.{found_first, then_next, same_ok}, Stages.{fits_stages, no_stage_fault}}
use Rattle.query_laws.specs.FaultLaws.{HasFault, IsOfTyping}
use Rattle.query_laws.specs.ByRules.{FitsStages, IsAcceptedAs, BreaksRule, of_item, of_end, IsRefusedFor, by_grammar, by_typing, by_stages}
use Rattle.stage_plan.specs.Depths.{stage_fault}

stage_same : (o : Option QueryFault) {p q : TypedQuery} → unless_fault o p ≡ Ok q → (o ≡ None) × (p ≡ q)
stage_same None {p} {q} e = (refl, same_ok p q e)
stage_same (Some _) e = cc e

-- a text that is accepted
pub accepted_sound : (text : List ℕ) (t : TypedQuery) → accepted text ≡ Ok t → IsAcceptedAs text t
unfolding accepted
accepted_sound text t e =
    let first = found_first (parsed_text text) (λ (z : Query). and_then (checked z) staged) t e in
    let second = found_first (checked first.0) staged t first.2 in
    let stages = stage_same (stage_fault second.0) second.2 in
    record {
      query = first.0;
      derives = query_of_text text first.0 first.1;
      typed = subst (λ z. IsTyped first.0 z) stages.1 (query_sound first.0 second.0 second.1);
      fits = subst (λ z. FitsStages z) stages.1 (fits_stages second.0 stages.0);
    }

pub accepted_complete : {text : List ℕ} {t : TypedQuery} → IsAcceptedAs text t → accepted text ≡ Ok t
unfolding accepted
accepted_complete {text} {t} h = then_next _ (text_of_query text h.query h.derives)
    ∙ then_next _ (query_complete h.typed) ∙ ap (λ o. unless_fault o t) (no_stage_fault t h.fits)

pub accepted_once : {text : List ℕ} {t u : TypedQuery} → IsAcceptedAs text t → IsAcceptedAs text u → t ≡ u
accepted_once {t} {u} h k = same_ok t u (sym (accepted_complete h) ∙ accepted_complete k)

-- a text that is refused

too_deep : (o : Option QueryFault) (t : TypedQuery) {fault : QueryFault} → unless_fault o t ≡ Err fault → o ≡ Some fault
too_deep None t e = cc e
too_deep (Some found) t {fault} e = let same : found ≡ fault = cc e in ap Some same

not_fit : (t : TypedQuery) {fault : QueryFault} → stage_fault t ≡ Some fault → FitsStages t → ⊥
not_fit t {fault} e h = let both : (let o : Option QueryFault = Some fault in o) ≡ None = sym e ∙ no_stage_fault t h in cc both

-- what a fault of each kind says of the rules
item_breaks : {q : Query} {kind : FaultKind} {at : Span} → (kinds.NothingPrinted ≡ kind → ⊥) → HasFault kind at q
    → BreaksRule q (at_span kind at)
item_breaks other e = of_item (at_some_item other e)

breaks_rule : {q : Query} (kind : FaultKind) {at : Span} → IsOfTyping kind → HasFault kind at q → BreaksRule q (at_span kind at)
breaks_rule kinds.NothingPrinted h e = let end = at_end e in of_end (ap (at_span kinds.NothingPrinted) end.0) end.1
breaks_rule kinds.UnknownName h e = item_breaks (λ k. cc k) e
breaks_rule kinds.StateOnLine h e = item_breaks (λ k. cc k) e
breaks_rule kinds.NameTaken h e = item_breaks (λ k. cc k) e
breaks_rule kinds.WrongKind h e = item_breaks (λ k. cc k) e
breaks_rule kinds.WrongArity h e = item_breaks (λ k. cc k) e
breaks_rule kinds.BadConstant h e = item_breaks (λ k. cc k) e
breaks_rule (kinds.OverLimit _) h e = item_breaks (λ k. cc k) e
breaks_rule _ h e = absurd h

untyped : {text : List ℕ} {q : Query} {fault : QueryFault} → parsed_text text ≡ Ok q → checked q ≡ Err fault → IsRefusedFor text fault
untyped {text} {q} p is = by_typing (query_of_text text q p) is (breaks_rule _ (only_these q is) is) (λ t h. no_form is h)

cause : {text : List ℕ} {fault : QueryFault} → accepted text ≡ Err fault → IsRefusedFor text fault
unfolding accepted
cause {text} {fault} e = by_next _ e (λ is. by_grammar (fault_of_text text fault is)) (λ q p e. by_next _ e (λ is. untyped p is) (λ t r e.
    let deep = too_deep _ t e in
    by_stages (query_of_text text q p) (query_sound q t r) deep (not_fit t deep)))

pub refused : {text : List ℕ} {fault : QueryFault} → accepted text ≡ Err fault → IsRefusedFor text fault
    × ((t : TypedQuery) → IsAcceptedAs text t → ⊥)
refused e = (cause e, λ t h. no_fault (sym (accepted_complete h) ∙ e))
