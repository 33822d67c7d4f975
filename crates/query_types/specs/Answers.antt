-- What a check that changes something in place answers, and one that allocates nothing, from what its definition gives.
use Rattle.std.specs.{Prelude.{◌≡◌, Result, Ok, Err}, Borrow.Bor}
use Rattle.query_lang.specs.declared.{error.QueryError.{QueryError, TheVariants.{Refused, Memory}}, fault.QueryFault.QueryFault}
use Rattle.query_lang.specs.Checks.{Checked}

-- what a check leaves is what is expected, or memory ran out
abbrev pub Leaves : {A : Type 0} → Result (Unit {0}) QueryError → A → Checked A → Type 0
Leaves (Ok done) left expected = expected ≡ Ok left
Leaves (Err (Refused fault)) left expected = expected ≡ Err fault
Leaves (Err Memory) left expected = Unit {0}

-- what is found of something is what is expected
abbrev pub Finds : {A : Type 0} → Result (Bor A) QueryFault → Checked A → Type 0
Finds (Ok x) expected = expected ≡ Ok x.now
Finds (Err fault) expected = expected ≡ Err fault
