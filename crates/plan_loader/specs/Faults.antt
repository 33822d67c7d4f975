-- Why the text of a plan is refused.
use Rattle.std.specs.Prelude.{◌≡◌, ℕ, List, Option, Some, None}
use Rattle.query_lang.specs.declared.fault.QueryFault.{QueryFault}
use Rattle.query_lang.specs.declared.error.QueryError.TheVariants as answers
use Rattle.plan_file.specs.Texts.{IsRefused, IsValidText}

-- The fault of a text: none where the text is valid.
abbrev pub IsPlanFault : List ℕ → Option QueryFault → Type 0
IsPlanFault text None = IsValidText text
IsPlanFault text (Some fault) = IsRefused text (answers.Refused fault)

-- A text has one fault at most, and none if it is valid.
abbrev pub OnePlanFault : Type 0
OnePlanFault = (text : List ℕ) (a b : Option QueryFault) → IsPlanFault text a → IsPlanFault text b → a ≡ b
