-- Which texts are accepted: by the grammar, the rules and the depths of operations.
use Rattle.std.specs.Prelude.{◌≡◌, ◌↔◌, ℕ, ◌≤◌, List, All, Some, Ok, Err}
use Rattle.query_lang.specs.declared.{fault.{FaultKind.TheVariants.NothingPrinted, QueryFault.QueryFault}, query.Query.Query}
use Rattle.query_lang.specs.{declared.{typed.TypedQuery.TypedQuery, fault.TheConstants.MAX_STAGES}, Typing.checked}
use Rattle.query_grammar.specs.Texts.{IsQueryOf, IsFaultOf}
use Rattle.query_laws.specs.{Demands.Tells, FaultLaws.{Breaks, PrintsNothing}, QueryRules.IsTyped}
use Rattle.stage_plan.specs.Depths.{query_depths, stage_fault}
use Rattle.accepted_query.specs.Accepted.{accepted}

-- no operation needs a stage past the 64th
abbrev pub FitsStages : TypedQuery → Type 0
FitsStages t = All (λ depth. depth ≤ MAX_STAGES) (query_depths t)

-- The text is accepted with this typed form: a query derives from it, has this form by the rules, and fits the stages.
pub record IsAcceptedAs (text : List ℕ) (t : TypedQuery) : Type 0 where
  pub query : Query
  pub derives : IsQueryOf text query
  pub typed : IsTyped query t
  pub fits : FitsStages t

abbrev pub AcceptedByRules : Type 0
AcceptedByRules = (text : List ℕ) (t : TypedQuery) → (accepted text ≡ Ok t) ↔ IsAcceptedAs text t

abbrev pub AcceptedOnce : Type 0
AcceptedOnce = (text : List ℕ) (t u : TypedQuery) → IsAcceptedAs text t → IsAcceptedAs text u → t ≡ u

-- The rule that a query breaks, as the fault says it. An item has no typed form after those before it, which have theirs: something is
-- asked of one of its tokens that isn't so, and a fault of this kind at this token says that. Or all items have typed forms, none prints a
-- table, and the fault is at the end.
pub data BreaksRule (q : Query) (fault : QueryFault) : Type 0 where
  of_item : Breaks (λ known demand. Tells known fault.kind fault.span demand) q → BreaksRule q fault
  of_end : fault ≡ record { kind = NothingPrinted; span = q.end } → PrintsNothing q → BreaksRule q fault

-- Why a text is refused: the fault is the first of the grammar; or a query derives that has no typed form, and the fault, the first that
-- the checks find, says which rule it breaks; or its form has a stream that is too deep.
pub data IsRefusedFor (text : List ℕ) (fault : QueryFault) : Type 0 where
  by_grammar : IsFaultOf text fault → IsRefusedFor text fault
  by_typing : {q : Query} → IsQueryOf text q → checked q ≡ Err fault → BreaksRule q fault → ((t : TypedQuery) → IsTyped q t → ⊥)
      → IsRefusedFor text fault
  by_stages : {q : Query} {t : TypedQuery} → IsQueryOf text q → IsTyped q t → stage_fault t ≡ Some fault → (FitsStages t → ⊥)
      → IsRefusedFor text fault

-- A text is refused for such a cause, and isn't accepted by the rules.
abbrev pub RefusedByRules : Type 0
RefusedByRules = (text : List ℕ) (fault : QueryFault) → accepted text ≡ Err fault
    → IsRefusedFor text fault × ((t : TypedQuery) → IsAcceptedAs text t → ⊥)
