-- What a command with a check of its own refuses.
use Rattle.std.proofs.Common.{◌≡◌, ℕ, List, Option, None, Some, IfSome, Ok, Err, ap, refl, ◌∙◌}
use Rattle.marple_base.specs.{Inputs.Input, declared.inputs.Which.TheVariants.{Query, Trace}}
use Rattle.query_lang.specs.{Checks.Checked, declared.{fault.QueryFault.QueryFault, typed.TypedQuery.TypedQuery}}
use Rattle.accepted_query.specs.Accepted.{accepted, fault_in, query_fault}
use Rattle.command_answers.specs.{Phases.QueryEnds, OwnChecks.{fault_after, fault_with}, declared.status.Status.Status}
use Rattle.command_answers.specs.declared.status.Status.TheVariants as statuses
use Rattle.command_answers.proofs.Limits.{IfSome-map}
use Rattle.trace_drive.proofs.Breaking.{none_some}

module _ (own : TypedQuery → Option QueryFault) where
  -- a fault of the text comes first
  text_first : (found : Checked TypedQuery) (fault : QueryFault) → fault_in found ≡ Some fault → fault_after own found ≡ Some fault
  text_first (Ok q) fault is = absurd (none_some fault None refl is)
  text_first (Err found) fault is = is

  -- a phase that reads the query and refuses it for the text's faults ends as one that also has a check of its own
  pub text_ends : (before after : Input) (status : Status) → QueryEnds query_fault before after status
      → QueryEnds (fault_with own) before after status
  text_ends before after statuses.Memory ended = ended
  text_ends before after (statuses.InputFault Query) ended = ended
  text_ends before after (statuses.QueryRefused fault) ended =
      IfSome-map (λ query. query_fault query ≡ Some fault) (λ query. fault_with own query ≡ Some fault) before.left
      (λ query is. text_first (accepted query) fault is) ended
  text_ends before after statuses.Ok ended = absurd ended
  text_ends before after statuses.Usage ended = absurd ended
  text_ends before after (statuses.InputFault Trace) ended = absurd ended
  text_ends before after (statuses.TraceRefused fault) ended = absurd ended
  text_ends before after statuses.OutputFault ended = absurd ended

  -- an accepted query is refused for the fault that the command finds in it
  pub own_refused : (left : Option (List ℕ)) (q : TypedQuery) (fault : QueryFault) → IfSome left (λ query. accepted query ≡ Ok q)
      → own q ≡ Some fault → IfSome left (λ query. fault_with own query ≡ Some fault)
  own_refused left q fault known is =
      IfSome-map (λ query. accepted query ≡ Ok q) (λ query. fault_with own query ≡ Some fault) left
      (λ query read. ap (fault_after own) read ∙ is) known
