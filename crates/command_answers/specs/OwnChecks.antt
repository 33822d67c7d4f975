-- The first fault of a query for a command that has a check of its own.
use Rattle.std.specs.Prelude.{List, ℕ, Option, Some, Ok, Err}
use Rattle.query_lang.specs.{declared.{fault.QueryFault.QueryFault, typed.TypedQuery.TypedQuery}, Checks.Checked}
use Rattle.accepted_query.specs.Accepted.{accepted}
use Rattle.enclosure_folds.specs.Check.{enclose_fault}
use Rattle.net_wide.specs.Combining.{net_fault}
use Rattle.plan_writer.specs.PlanText.{final_fault}
use Rattle.command_answers.specs.declared.checked.Check.{Check, TheVariants.{Switches, Bounds, PlanText}}

-- the fault of a query that is asked for bounds
abbrev pub bounds_fault : TypedQuery → Option QueryFault
bounds_fault = enclose_fault

-- the fault that a command's own check finds in a query
abbrev pub own_fault : Check → TypedQuery → Option QueryFault
own_fault Switches = net_fault
own_fault Bounds = bounds_fault
own_fault PlanText = final_fault

-- the fault of a query or a plan, or where it has none, the fault that a command's own check finds in it
abbrev pub fault_after : {X : Type 0} → (X → Option QueryFault) → Checked X → Option QueryFault
fault_after own (Ok q) = own q
fault_after own (Err fault) = Some fault

-- the first fault of a query's text for a command that has a check of its own: its faults come after all others
abbrev pub fault_with : (TypedQuery → Option QueryFault) → List ℕ → Option QueryFault
fault_with own query = fault_after own (accepted query)
