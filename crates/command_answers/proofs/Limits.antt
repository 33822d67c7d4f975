-- What is read to one byte more than a limit says the same as all the bytes, where all longer texts are alike.
use Rattle.std.proofs.Common.{inl, inr, ◌≡◌, ℕ, ◌+◌, ◌<◌, ◌≤◌, true, nat_lt, List, length, take, Option, None, Some, IfSome, ap, sym, ◌∙◌}
use Rattle.std.proofs.{Common.{arith, Ok, Err, refl, [], subst}, lemmas.{Bool.Decides.{leb_tells, nat_tests}, Grind.common_steps}}
use Rattle.marple_base.specs.{Inputs.Input, Sink.TakesFront, declared.{field.FieldSet.FieldSet, inputs.Which.TheVariants.{Query, Trace}}}
use Rattle.query_lang.specs.{Answers.IsTold, Checks.Checked, Lexis.fault_at}
use Rattle.query_lang.specs.declared.fault.FaultKind.TheVariants as kinds
use Rattle.query_lang.specs.declared.{fault.TheConstants.MAX_QUERY, typed.TypedQuery.TypedQuery}
use Rattle.trace_reader.specs.{Traces.{Contents, contents, opening}, declared.fault.TheConstants.MAX_TRACE}
use Rattle.trace_reader.specs.declared.fault.TraceFault.TheVariants as faults
use Rattle.trace_reader.specs.declared.fault.TraceFault.{TraceFault}
use Rattle.accepted_query.specs.Accepted.{accepted, fault_in, query_fault}
use Rattle.query_lang.specs.declared.error.QueryError.{QueryError, TheVariants.{Refused, Memory}}
use Rattle.trace_drive.specs.{Answers.{BreaksOff, text_unless}, declared.answer.RunError.RunError}
use Rattle.trace_drive.specs.declared.answer.RunError.TheVariants as breaks
use Rattle.command_answers.specs.Phases.{QueryEnds, ReadEnds, TraceEnds, WriteEnds, refusal_status, status_for}
use Rattle.command_answers.specs.declared.status.Status.{Status}
use Rattle.command_answers.specs.declared.status.Status.TheVariants as statuses
use Rattle.trace_drive.proofs.Breaking.{none_some, nothing_taken}

pub take_whole : (limit : ℕ) (bytes : List ℕ) → length bytes ≤ limit → take (limit + 1) bytes ≡ bytes
take_whole limit bytes short = grind (arith, common_steps)

pub take_long : (limit : ℕ) (bytes : List ℕ) → limit < length bytes → limit < length (take (limit + 1) bytes)
take_long limit bytes long = grind (arith, common_steps)

test_true : (m n : ℕ) → m < n → nat_lt m n ≡ true
test_true m n less = grind (arith, nat_tests)

-- the function is the same at all bytes that are more than the limit
abbrev pub IsLimited : {A : Type 0} → ℕ → A → (List ℕ → A) → Type 0
IsLimited limit beyond f = (bytes : List ℕ) → limit < length bytes → f bytes ≡ beyond

cut_same : {A : Type 0} (limit : ℕ) (beyond : A) (f : List ℕ → A) (bytes : List ℕ) → IsLimited limit beyond f
    → f bytes ≡ f (take (limit + 1) bytes)
cut_same limit beyond f bytes limited =
    elim (leb_tells (length bytes) limit) [
      | inl short ↦ ap f (sym (take_whole limit bytes short.1))
      | inr long ↦ limited bytes long.1 ∙ sym (limited (take (limit + 1) bytes) (take_long limit bytes long.1))
    ]

-- what was read says the same as the bytes that were left
told_same : {A : Type 0} (limit : ℕ) (beyond : A) (f : List ℕ → A) (left : Option (List ℕ)) (text : List ℕ) → IsLimited limit beyond f
    → IfSome left (λ bytes. text ≡ take (limit + 1) bytes) → IfSome left (λ bytes. f bytes ≡ f text)
told_same limit beyond f None text limited read = tt
told_same limit beyond f (Some bytes) text limited read = cut_same limit beyond f bytes limited ∙ ap f (sym read)

long_query : IsLimited MAX_QUERY (Err (fault_at kinds.QueryTooLong MAX_QUERY)) accepted
unfolding accepted
long_query bytes long = rw (test_true MAX_QUERY (length bytes) long) refl

told_query : (left : Option (List ℕ)) (text : List ℕ) → IfSome left (λ bytes. text ≡ take (MAX_QUERY + 1) bytes)
    → IfSome left (λ bytes. accepted bytes ≡ accepted text)
told_query left text read = told_same MAX_QUERY (Err (fault_at kinds.QueryTooLong MAX_QUERY)) accepted left text long_query read

long_trace : (reads : FieldSet) → IsLimited MAX_TRACE (record { packets = []; fault = Some faults.TraceTooLong })
    (λ bytes. contents bytes reads)
unfolding contents opening
long_trace reads bytes long = rw (test_true MAX_TRACE (length bytes) long) refl

told_trace : (reads : FieldSet) (left : Option (List ℕ)) (text : List ℕ) → IfSome left (λ bytes. text ≡ take (MAX_TRACE + 1) bytes)
    → IfSome left (λ bytes. contents bytes reads ≡ contents text reads)
told_trace reads left text read =
    told_same MAX_TRACE (record { packets = []; fault = Some faults.TraceTooLong }) (λ bytes. contents bytes reads) left text
    (long_trace reads) read

-- a fact that follows, where the bytes are known
pub IfSome-map : {A : Type 0} (P Q : A → Type 0) (o : Option A) → ((x : A) → P x → Q x) → IfSome o P → IfSome o Q
IfSome-map P Q None f p = tt
IfSome-map P Q (Some x) f p = f x p

-- What is known of the query of the bytes that were read holds of the query in the input.
pub told_answer : (P : Checked TypedQuery → Type 0) (left : Option (List ℕ)) (text slice : List ℕ)
    → IfSome left (λ bytes. text ≡ take (MAX_QUERY + 1) bytes) → slice ≡ text
    → P (accepted slice) → IfSome left (λ bytes. P (accepted bytes))
told_answer P left text slice read same known =
    IfSome-map (λ bytes. accepted bytes ≡ accepted text) (λ bytes. P (accepted bytes)) left
    (λ bytes is. subst P (ap accepted same ∙ sym is) known) (told_query left text read)

-- how the phase of the query ends, where what was read of its text isn't accepted
pub query_ends : (before after : Input) (text slice : List ℕ) (error : QueryError)
    → IfSome before.left (λ bytes. text ≡ take (MAX_QUERY + 1) bytes) → slice ≡ text → IsTold (query_fault slice) error
    → QueryEnds query_fault before after (refusal_status error)
query_ends before after text slice (Refused fault) read same told =
    told_answer (λ found. fault_in found ≡ Some fault) before.left text slice read same told
query_ends before after text slice Memory read same told = tt

-- What is known of the packets and the fault of the bytes that were read holds of the trace in the input.
pub told_contents : (P : Contents → Type 0) (reads : FieldSet) (left : Option (List ℕ)) (text slice : List ℕ)
    → IfSome left (λ bytes. text ≡ take (MAX_TRACE + 1) bytes) → slice ≡ text
    → P (contents slice reads) → IfSome left (λ bytes. P (contents bytes reads))
told_contents P reads left text slice read same known =
    IfSome-map (λ bytes. contents bytes reads ≡ contents text reads) (λ bytes. P (contents bytes reads)) left
    (λ bytes is. subst P (ap (λ bytes. contents bytes reads) same ∙ sym is) known) (told_trace reads left text read)

-- how the phase of the trace ends, where the run over its packets broke off with this answer
pub trace_ends : {O : Type 0} (taken : O → Option (List ℕ)) (faults : O → ℕ) (reads : FieldSet) (fault : Contents → Option TraceFault)
    (shown : Contents → List ℕ) (before after : Input) (old new : O) (text slice : List ℕ) (answer : RunError)
    → IfSome before.left (λ bytes. text ≡ take (MAX_TRACE + 1) bytes) → slice ≡ text
    → BreaksOff taken faults (shown (contents slice reads)) (fault (contents slice reads)) old new answer
    → TraceEnds taken faults (λ bytes. fault (contents bytes reads)) (λ bytes. shown (contents bytes reads)) before after old new
    (status_for answer)
trace_ends taken faults reads fault shown before after old new text slice breaks.Memory read same ended =
    told_contents (λ found. TakesFront (taken old) (taken new) (text_unless (fault found) (shown found))) reads before.left text slice read
    same ended
trace_ends taken faults reads fault shown before after old new text slice (breaks.Refused refused) read same ended =
    (told_contents (λ found. fault found ≡ Some refused) reads before.left text slice read same ended.0, ended.1)
trace_ends taken faults reads fault shown before after old new text slice breaks.Failed read same ended = (
  ended.1,
  told_contents (λ found. (fault found ≡ None) × TakesFront (taken old) (taken new) (shown found)) reads before.left text slice
      read same (ended.0, ended.2),
)

-- how the phase that reads the trace ends, where nothing was written
pub read_ends : {O : Type 0} (taken : O → Option (List ℕ)) (faults : O → ℕ) (fault : List ℕ → Option TraceFault) (shown : List ℕ → List ℕ)
    (before after : Input) (out : O) (status : Status)
    → ReadEnds before after status → TraceEnds taken faults fault shown before after out out status
read_ends taken faults fault shown before after out statuses.Memory ended = by_left before.left
  where
    by_left : (left : Option (List ℕ)) → IfSome left (λ bytes. TakesFront (taken out) (taken out) (text_unless (fault bytes) (shown bytes)))
    by_left None = tt
    by_left (Some bytes) = nothing_taken (taken out) (text_unless (fault bytes) (shown bytes))
read_ends taken faults fault shown before after out (statuses.InputFault Trace) ended = (ended, refl)
read_ends taken faults fault shown before after out statuses.Ok ended = absurd ended
read_ends taken faults fault shown before after out statuses.Usage ended = absurd ended
read_ends taken faults fault shown before after out (statuses.InputFault Query) ended = absurd ended
read_ends taken faults fault shown before after out (statuses.QueryRefused found) ended = absurd ended
read_ends taken faults fault shown before after out (statuses.TraceRefused found) ended = absurd ended
read_ends taken faults fault shown before after out statuses.OutputFault ended = absurd ended

-- how a phase that writes ends, where a run over generated packets broke off with this answer
pub made_ends : {O : Type 0} (taken : O → Option (List ℕ)) (faults : O → ℕ) (text : List ℕ) (old new : O) (answer : RunError)
    → BreaksOff taken faults text None old new answer → WriteEnds taken faults text old new (status_for answer)
made_ends taken faults text old new breaks.Memory ended = ended
made_ends taken faults text old new (breaks.Refused found) ended = absurd (none_some found None refl ended.0)
made_ends taken faults text old new breaks.Failed ended = (ended.1, ended.2)
