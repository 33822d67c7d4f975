-- Checks in sequence: the first fault is the answer.
use Rattle.std.specs.Prelude.{ℕ, ◌+◌, Bool, nat_eq, List, [], ◌∷◌, ◌++◌, Option, Some, None, Result, Ok, Err, if◌then◌else◌}
use Rattle.std.specs.List.{list_any}
use Rattle.query_lang.specs.declared.fault.{FaultKind.FaultKind, Span.Span, QueryFault.QueryFault}

-- what a check finds, or the first fault
abbrev pub Checked : Type 0 → Type 0
Checked A = Result A QueryFault

abbrev pub refused : {A : Type 0} → FaultKind → Span → Checked A
refused kind span = Err (record { kind = kind; span = span })

-- the next check where the first finds no fault
abbrev pub and_then : {A B : Type 0} → Checked A → (A → Checked B) → Checked B
and_then (Ok x) next = next x
and_then (Err fault) next = Err fault

-- the next check where the test holds, and otherwise this fault
abbrev pub must : {A : Type 0} → Bool → FaultKind → Span → Checked A → Checked A
must test kind span next = if test then next else refused kind span

-- this fault where the test holds, and otherwise the next check
abbrev pub must_not : {A : Type 0} → Bool → FaultKind → Span → Checked A → Checked A
must_not test kind span next = if test then refused kind span else next

-- what checks find in sequence, after what was found before
abbrev pub collected : {A : Type 0} → List A → List (Checked A) → Checked (List A)
collected found [] = Ok found
collected found (Ok x ∷ rest) = collected (found ++ x ∷ []) rest
collected found (Err fault ∷ rest) = Err fault

abbrev pub is_among : ℕ → List ℕ → Bool
is_among id names = list_any (λ name. nat_eq name id) names

-- the place of a name among these, of which the first has this place
abbrev pub place_from : ℕ → List ℕ → ℕ → Option ℕ
place_from at [] id = None
place_from at (name ∷ rest) id = if nat_eq name id then Some at else place_from (at + 1) rest id

abbrev pub place_of : List ℕ → ℕ → Option ℕ
place_of names id = place_from 0 names id
