-- Which query texts are accepted.
use Rattle.std.specs.Prelude.{ℕ, List, Option, Some, None, Ok, Err}
use Rattle.query_lang.specs.{declared.{fault.QueryFault.QueryFault, typed.TypedQuery.TypedQuery}, Checks.{Checked, and_then}}
use Rattle.query_lang.specs.Typing.{checked}
use Rattle.query_grammar.specs.Texts.{parsed_text}
use Rattle.stage_plan.specs.Depths.{stage_fault}

abbrev pub unless_fault : Option QueryFault → TypedQuery → Checked TypedQuery
unless_fault None q = Ok q
unless_fault (Some fault) q = Err fault

-- the typed query, unless it needs too many stages
abbrev pub staged : TypedQuery → Checked TypedQuery
staged q = unless_fault (stage_fault q) q

-- The typed query of a text, or its first fault: of its length, its tokens, the grammar, the typing or the stages, in this order.
unfoldable pub accepted : List ℕ → Checked TypedQuery
accepted text = and_then (parsed_text text) (λ q. and_then (checked q) staged)

abbrev pub fault_in : Checked TypedQuery → Option QueryFault
fault_in (Ok q) = None
fault_in (Err fault) = Some fault

-- the first fault of a query's text
abbrev pub query_fault : List ℕ → Option QueryFault
query_fault text = fault_in (accepted text)
