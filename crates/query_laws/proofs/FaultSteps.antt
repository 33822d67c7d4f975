-- What a check that finds a fault has met on its way.
use Rattle.std.proofs.Common.{◌≡◌, Bool, true, false, List, Ok, Err, refl, subst, [], ◌∷◌, ◌++◌}
use Rattle.query_laws.proofs.Terms.{FaultKind, QueryFault, Span, Known, Checked, and_then, must, must_not, Demand, Tells, collected}

abbrev pub at_span : FaultKind → Span → QueryFault
at_span kind span = record { kind = kind; span = span }

pub same_fault : {A : Type 0} {f g : QueryFault} → (let whole : Checked A = Err f in whole) ≡ Err g → f ≡ g
same_fault e = cc e

pub no_fault : {A P : Type 0} {x : A} {fault : QueryFault} → (let whole : Checked A = Ok x in whole) ≡ Err fault → P
no_fault e = cc e

pub not_both : {P : Type 0} (b : Bool) → b ≡ false → b ≡ true → P
not_both true e f = cc e
not_both false e f = cc f

pub by_must : {A P : Type 0} (test : Bool) {kind : FaultKind} {span : Span} (next : Checked A) {fault : QueryFault}
    → must test kind span next ≡ Err fault → (test ≡ false → at_span kind span ≡ fault → P) → (test ≡ true → next ≡ Err fault → P) → P
by_must true _ e _ good = good refl e
by_must false _ e bad _ = bad refl (same_fault e)

pub by_must_not : {A P : Type 0} (test : Bool) {kind : FaultKind} {span : Span} {next : Checked A} {fault : QueryFault}
    → must_not test kind span next ≡ Err fault → (test ≡ true → at_span kind span ≡ fault → P) → (test ≡ false → next ≡ Err fault → P) → P
by_must_not true e bad _ = bad refl (same_fault e)
by_must_not false e _ good = good refl e

pub by_next : {A B P : Type 0} (first : Checked A) {next : A → Checked B} {fault : QueryFault}
    → and_then first next ≡ Err fault → (first ≡ Err fault → P) → ((x : A) → first ≡ Ok x → next x ≡ Err fault → P) → P
by_next (Ok x) e _ good = good x refl e
by_next (Err _) e bad _ = bad (cc e)

pub by_collected : {A P : Type 0} (before : List A) (first : Checked A) (rest : List (Checked A)) {fault : QueryFault}
    → collected before (first ∷ rest) ≡ Err fault → (first ≡ Err fault → P)
    → ((x : A) → first ≡ Ok x → collected (before ++ x ∷ []) rest ≡ Err fault → P) → P
by_collected _ (Ok x) _ e _ good = good x refl e
by_collected _ (Err _) _ e bad _ = bad (cc e)

-- what a fault at a span says is what the fault says
pub told : (known : List Known) (demand : Demand) {kind : FaultKind} {span : Span} {fault : QueryFault} → at_span kind span ≡ fault
    → Tells known kind span demand → Tells known fault.kind fault.span demand
told known demand e tells = subst (λ (f : QueryFault). Tells known f.kind f.span demand) e tells

-- something that is asked, of which the fault says that it isn't so
pub record Broken (Asks : Demand → Type 0) (known : List Known) (fault : QueryFault) : Type 0 where
  pub demand : Demand
  pub asks : Asks demand
  pub tells : Tells known fault.kind fault.span demand

pub broken : {Asks : Demand → Type 0} (d : Demand) {known : List Known} {fault : QueryFault} → Asks d
    → Tells known fault.kind fault.span d → Broken Asks known fault
broken d asks tells = record { demand = d; asks = asks; tells = tells }

pub broken_at : {Asks : Demand → Type 0} (d : Demand) {known : List Known} {kind : FaultKind} {span : Span} {fault : QueryFault} → Asks d
    → at_span kind span ≡ fault → Tells known kind span d → Broken Asks known fault
broken_at d asks at tells = broken d asks (told _ _ at tells)

pub broken_in : {A B : Demand → Type 0} {known : List Known} {fault : QueryFault} → ((d : Demand) → A d → B d) → Broken A known fault
    → Broken B known fault
broken_in asks b = record { demand = b.demand; asks = asks b.demand b.asks; tells = b.tells }
