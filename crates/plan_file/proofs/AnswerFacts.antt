-- A text has one answer.
use Rattle.std.proofs.Common.{ℕ, List}
use Rattle.query_lang.specs.declared.error.QueryError.{QueryError}
use Rattle.query_lang.specs.declared.error.QueryError.TheVariants as answers
use Rattle.plan_file.{specs.{declared.made.Made.Made, Texts.{Says, IsBadAt, IsRefused, IsOnlyAnswer}}, proofs.LineLaws.makes_one}
use Rattle.plan_file.proofs.TextLaws.{not_refused, place_once}

pub nowhere : (text : List ℕ) (made : Made) → Says text made → (place : ℕ) → IsBadAt text place → ⊥
nowhere text made says place bad = not_refused makes_one text made place says bad

pub only_answer : (text : List ℕ) (answer : QueryError) → IsRefused text answer → IsOnlyAnswer text answer
only_answer text (answers.Refused fault) is = (
  λ valid. not_refused makes_one text valid.0 fault.span.start valid.1 is.1,
  λ place bad. place_once makes_one text place fault.span.start bad is.1,
)
only_answer text answers.Memory is = tt
