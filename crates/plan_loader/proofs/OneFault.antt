-- A text has one fault at most.
use Rattle.std.proofs.Common.{◌≡◌, ℕ, Some, None, refl, sym, ap, ◌∙◌}
use Rattle.query_lang.specs.declared.fault.{FaultKind.FaultKind, QueryFault.QueryFault}
use Rattle.plan_file.proofs.{LineLaws.makes_one, TextLaws.{not_refused, place_once}}
use Rattle.plan_loader.specs.Faults.{OnePlanFault}

pub one_fault : OnePlanFault
one_fault text None None p q = refl
one_fault text None (Some f) p q = absurd (not_refused makes_one text p.0 f.span.start p.1 q.1)
one_fault text (Some e) None p q = absurd (not_refused makes_one text q.0 e.span.start q.1 p.1)
one_fault text (Some e) (Some f) p q =
    let kind : e.kind ≡ f.kind = p.0 ∙ sym q.0 in
    let start : e.span.start ≡ f.span.start = place_once makes_one text e.span.start f.span.start p.1 q.1 in
    let after : e.span.end ≡ f.span.end = p.2 ∙ start ∙ sym q.2 in
    let make : FaultKind → ℕ → ℕ → QueryFault = λ k a b. record { kind = k; span = record { start = a; end = b } } in
    ap Some (ap (λ k. make k e.span.start e.span.end) kind ∙ ap (λ a. make f.kind a e.span.end) start ∙ ap (make f.kind f.span.start) after)
