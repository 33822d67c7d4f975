-- What is answered where memory may run out, from what a definition gives.
use Rattle.std.specs.Prelude.{◌≡◌, Result, Ok, Err, Option, Some}
use Rattle.query_lang.specs.declared.{error.QueryError.{QueryError, TheVariants.{Refused, Memory}}, fault.QueryFault.QueryFault}
use Rattle.query_lang.specs.Checks.{Checked}

-- the answer is what is expected, or memory ran out
abbrev pub Answers : {A : Type 0} → Result A QueryError → Checked A → Type 0
Answers (Ok x) expected = expected ≡ Ok x
Answers (Err (Refused fault)) expected = expected ≡ Err fault
Answers (Err Memory) expected = Unit {0}

-- the error is the fault that is expected, or memory ran out
abbrev pub IsTold : Option QueryFault → QueryError → Type 0
IsTold expected (Refused fault) = expected ≡ Some fault
IsTold expected Memory = Unit {0}
