-- The trial's query isn't refused.
use Rattle.std.{proofs.Common.{◌≡◌, ℕ, List, Some, ap, ◌∙◌, subst}, specs.Prelude.Ok}
use Rattle.query_lang.specs.declared.{error.QueryError.{QueryError, TheVariants.Refused}, fault.QueryFault.QueryFault}
use Rattle.query_lang.specs.{declared.typed.TypedQuery.TypedQuery, Answers.IsTold}
use Rattle.accepted_query.specs.{Accepted.{accepted, query_fault, fault_in}, TrialQuery.trial_query}
use Rattle.command_answers.proofs.operands.accept_trial.Goals as goal

never : (text : List ℕ) (error : QueryError) (fault : QueryFault) → text ≡ trial_query → (q : TypedQuery) × (accepted trial_query ≡ Ok q)
    → error ≡ Refused fault → IsTold (query_fault text) error → ⊥
never text error fault same trial is told =
    let refused : query_fault text ≡ Some fault = subst (IsTold (query_fault text)) is told in
    let accepted_as : query_fault text ≡ fault_in (Ok trial.0) = ap (λ bytes. fault_in (accepted bytes)) same ∙ ap fault_in trial.1 in
    cc

pub unreachable-requires : goal.unreachable-requires
unreachable-requires c =
    never c.trial_query.result.now c.in-Err-Refused.field-0 c.in-Err-Refused._fault c.trial_query.ensures c.trial_is_accepted.ensures
    c.in-Err-Refused.field-0-is c.in-Err-Refused.ensures.err
