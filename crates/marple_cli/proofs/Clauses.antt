-- What the table of statuses says of a call, clause by clause.
use Rattle.std.proofs.Common.{inl, inr, ◌≡◌, ◌⊎◌, ℕ, Bool, true, false, List, Option, None, Some, refl, sym, ap, ◌∙◌, subst}
use Rattle.marple_base.specs.{Faults.Rose, Inputs.Input, declared.inputs.Which.{Which, TheVariants.{Query, Trace}}}
use Rattle.query_lang.specs.declared.fault.QueryFault.{QueryFault}
use Rattle.trace_reader.specs.declared.fault.TraceFault.{TraceFault}
use Rattle.trace_drive.proofs.Breaking.{none_some}
use Rattle.command_line.specs.declared.command.Command.{Command}
use Rattle.marple_cli.specs.Call.{Holds, IsBeforeOutput, IsBeforeTrace, Takes, ToldOf, WhereQueryTold, WhereTold}
use Rattle.marple_cli.specs.Ends.{Answers, Ends, QueryTold}
use Rattle.marple_cli.specs.Output.{IsRead, Source, refusal, takes, trace_refusal}
use Rattle.command_answers.specs.declared.status.Status.{Status}
use Rattle.command_answers.specs.declared.status.Status.TheVariants as statuses

not_true : (b : Bool) → (b ≡ true → ⊥) → b ≡ false
not_true true other = absurd (other refl)
not_true false other = refl

same : {A : Type 0} (x y : A) → Some x ≡ Some y → x ≡ y
same x y e = cc

other_than : (status found : Status) → (found ≡ statuses.Usage → ⊥) → status ≡ statuses.Usage → status ≡ found → ⊥
other_than status found other usage is = other (sym is ∙ usage)

-- what is known of the query of the command that is asked for
asked_query : (command : Command) (before : Which → Input) (P : Command → Source → Type 0) → QueryTold command before (P command)
    → WhereQueryTold (Some command) before P
asked_query command before P told other query is has left read =
    let other_is = sym (same command other is) in
    subst (λ one. P one query) (same command other is) (told query (subst (λ one. takes one Query ≡ true) other_is has) left
    (subst (λ one. IsRead one query) other_is read))

-- and of the command and its operands
asked_told : (command : Command) (before : Which → Input) (P : Command → Source → List ℕ → Type 0) → ToldOf command before (P command)
    → WhereTold (Some command) before P
asked_told command before P told other query trace is holds =
    subst (λ one. Holds one before query trace → P one query trace) (same command other is) (told query trace) holds

module _ {O : Type 0} (taken : O → Option (List ℕ)) (faults : O → ℕ) (before after : Which → Input) (old new : O) where
  -- this holds of each answer to what is asked for
  abbrev pub OfAnswers : (Option Command → Status → Type 0) → Type 0
  OfAnswers P = (asked : Option Command) (status : Status) → Answers taken faults before after old new asked status → P asked status

  -- what is known of the status, where it is this one
  known : (command : Command) (status found : Status) → Answers taken faults before after old new (Some command) status → status ≡ found
      → Ends taken faults command before after old new found
  known command status found a is = subst (Ends taken faults command before after old new) is a.0

  -- where the status says this of the command and its operands
  pub told : (P : Command → Source → List ℕ → Type 0) (found : Status) → (found ≡ statuses.Usage → ⊥)
      → ((command : Command) → Ends taken faults command before after old new found → ToldOf command before (P command))
      → OfAnswers (λ asked status. status ≡ found → WhereTold asked before P)
  told P found other ends None status a is = absurd (other_than status found other a.0 is)
  told P found other ends (Some command) status a is = asked_told command before P (ends command (known command status found a is))

  pub input_fault : OfAnswers (λ asked status. (which : Which) → status ≡ statuses.InputFault which
      → Takes asked which × Rose (before which).faults (after which).faults)
  input_fault None status a which is = absurd (other_than status (statuses.InputFault which) (λ e. cc) a.0 is)
  input_fault (Some command) status a Query is = let e = known command status (statuses.InputFault Query) a is in (e.0, e.1)
  input_fault (Some command) status a Trace is = let e = known command status (statuses.InputFault Trace) a is in (e.0, e.1)

  pub fault_of_trace : OfAnswers (λ asked status. status ≡ statuses.InputFault Trace
      → WhereQueryTold asked before (λ command query. refusal command query ≡ None))
  fault_of_trace None status a is = absurd (other_than status (statuses.InputFault Trace) (λ e. cc) a.0 is)
  fault_of_trace (Some command) status a is =
      asked_query command before (λ one query. refusal one query ≡ None) (known command status (statuses.InputFault Trace) a is).2

  pub output_fault : OfAnswers (λ asked status. status ≡ statuses.OutputFault → Rose (faults old) (faults new))
  output_fault None status a is = absurd (other_than status statuses.OutputFault (λ e. cc) a.0 is)
  output_fault (Some command) status a is = (known command status statuses.OutputFault a is).0

  pub query_refused : OfAnswers (λ asked status. (fault : QueryFault) → status ≡ statuses.QueryRefused fault
      → Takes asked Query × WhereQueryTold asked before (λ command query. refusal command query ≡ Some fault))
  query_refused None status a fault is = absurd (other_than status (statuses.QueryRefused fault) (λ e. cc) a.0 is)
  query_refused (Some command) status a fault is =
      let e = known command status (statuses.QueryRefused fault) a is in
      (e.0, asked_query command before (λ one query. refusal one query ≡ Some fault) e.1)

  pub trace_refused : OfAnswers (λ asked status. (fault : TraceFault) → status ≡ statuses.TraceRefused fault
      → Takes asked Trace × WhereQueryTold asked before (λ command query. refusal command query ≡ None)
      × WhereTold asked before (λ command query trace. trace_refusal command query trace ≡ Some fault))
  trace_refused None status a fault is = absurd (other_than status (statuses.TraceRefused fault) (λ e. cc) a.0 is)
  trace_refused (Some command) status a fault is = let e = known command status (statuses.TraceRefused fault) a is in (
    e.0,
    asked_query command before (λ one query. refusal one query ≡ None) e.1,
    λ other query trace is holds. subst (λ one. trace_refusal one query trace ≡ Some fault) (same command other is)
        (e.2 query trace (subst (λ one. Holds one before query trace) (sym (same command other is)) holds)).1,
  )

  pub usage : OfAnswers (λ asked status. (status ≡ statuses.Usage → asked ≡ None) × (asked ≡ None → status ≡ statuses.Usage))
  usage None status a = ((λ is. refl), (λ is. a.0))
  usage (Some command) status a = (
    (λ is. absurd (known command status statuses.Usage a is)),
    (λ is. absurd (none_some command (Some command) is refl)),
  )

  pub no_operand : OfAnswers (λ asked status. (which : Which) → (Takes asked which → ⊥) → after which ≡ before which)
  no_operand None status a which other = a.2 which
  no_operand (Some command) status a which other = a.1 which (not_true (takes command which) other)

  -- what isn't reached before the output, and before the trace
  pub not_reached : OfAnswers (λ asked status. (IsBeforeOutput status → new ≡ old) × (IsBeforeTrace status → after Trace ≡ before Trace))
  not_reached None status a = ((λ early. a.1), (λ early. a.2 Trace))
  not_reached (Some command) statuses.Usage a = absurd a.0
  not_reached (Some command) (statuses.InputFault Query) a = ((λ early. a.0.3), (λ early. a.0.2))
  not_reached (Some command) (statuses.InputFault Trace) a = ((λ early. a.0.3), (λ early. absurd early))
  not_reached (Some command) (statuses.QueryRefused fault) a = ((λ early. a.0.3), (λ early. a.0.2))
  not_reached (Some command) (statuses.TraceRefused fault) a = ((λ early. a.0.3), (λ early. absurd early))
  not_reached (Some command) statuses.Ok a = ((λ early. absurd early), (λ early. absurd early))
  not_reached (Some command) statuses.Memory a = ((λ early. absurd early), (λ early. absurd early))
  not_reached (Some command) statuses.OutputFault a = ((λ early. absurd early), (λ early. absurd early))

  -- a query that is refused ends the command so, unless it wasn't read or memory was out, and leaves output and trace as they were
  abbrev IsRefusal : Status → QueryFault → Type 0
  IsRefusal status fault = ((status ≡ statuses.QueryRefused fault) ⊎ (status ≡ statuses.InputFault Query) ⊎ (status ≡ statuses.Memory))
      × (new ≡ old) × (after Trace ≡ before Trace)

  refused_by : (command : Command) (fault : QueryFault) (status : Status) → Ends taken faults command before after old new status
      → QueryTold command before (λ query. refusal command query ≡ Some fault → IsRefusal status fault)
  refused_by command fault statuses.Usage e query has left read some = absurd e
  refused_by command fault (statuses.InputFault Query) e query has left read some = (inr (inl refl), e.3, e.2)
  refused_by command fault (statuses.InputFault Trace) e query has left read some =
      absurd (none_some fault (refusal command query) (e.2 query has left read) some)
  refused_by command fault (statuses.QueryRefused found) e query has left read some =
      (inl (ap statuses.QueryRefused (same found fault (sym (e.1 query has left read) ∙ some))), e.3, e.2)
  refused_by command fault (statuses.TraceRefused found) e query has left read some =
      absurd (none_some fault (refusal command query) (e.1 query has left read) some)
  refused_by command fault statuses.Ok e query has left read some =
      absurd (none_some fault (refusal command query) (e.0 query has left read) some)
  refused_by command fault statuses.Memory e query has left read some =
      let kept = e.1 query has left read (λ none. none_some fault (refusal command query) none some) in
      (inr (inr refl), kept.0, kept.1)
  refused_by command fault statuses.OutputFault e query has left read some =
      absurd (none_some fault (refusal command query) (e.1 query has left read) some)

  pub refuses_query : OfAnswers (λ asked status. (fault : QueryFault)
      → WhereQueryTold asked before (λ command query. refusal command query ≡ Some fault → IsRefusal status fault))
  refuses_query None status a fault = λ command query is has left read some. absurd (none_some command None refl is)
  refuses_query (Some command) status a fault =
      asked_query command before (λ one query. refusal one query ≡ Some fault → IsRefusal status fault)
      (refused_by command fault status a.0)
