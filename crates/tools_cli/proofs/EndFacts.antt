-- How the second program ends.
use Rattle.std.proofs.Common.{◌≡◌, ◌≢◌, ◌↔◌, ℕ, List, [], Option, None, Some, Result, Ok, Err, OnErr, OnOk, refl, subst}
use Rattle.std.specs.Prelude.{IfErr}
use Rattle.marple_base.specs.{Faults.Rose, declared.inputs.Which.TheVariants.{Query, Trace}}
use Rattle.query_lang.specs.declared.{fault.QueryFault.QueryFault, typed.TypedQuery.TypedQuery}
use Rattle.trace_pieces.specs.declared.fault.WholeFault.{WholeFault}
use Rattle.trace_split.specs.{Holding.Taken, Traces.OneRose}
use Rattle.tools_cli.specs.Call.{IsAfterQuery, IsOfFacts, WhereFacts, WhereSplit}
use Rattle.tools_cli.specs.{Ends.{IsAcceptedWith, IsFirstFault, IsRefusedFor, IsSplit, SplitEnds, split_by}, FactsEnds.FactsEnd}
use Rattle.tools_cli.specs.{Statuses.status_of, declared.command.{SplitSetting.SplitSetting, ToolCommand.ToolCommand}}
use Rattle.tools_cli.specs.declared.{command.ToolCommand.TheVariants.{Facts, Split}, status.ToolStatus.ToolStatus}
use Rattle.tools_cli.specs.declared.status.ToolStatus.TheVariants as tools

-- ---- the command that is asked for

-- what holds of the setting that is asked for
pub where_split : (asked : Option ToolCommand) (setting : SplitSetting) (P : SplitSetting → Type 0) → asked ≡ Some (Split setting)
    → P setting → WhereSplit asked P
where_split asked setting P is holds other is_other =
    let same : setting ≡ other = cc (is, is_other) in
    subst P same holds

-- what holds where no splitting is asked for
pub where_none : (asked : Option ToolCommand) (P : SplitSetting → Type 0) → asked ≡ None → WhereSplit asked P
where_none asked P none other is_other = absurd (cc (none, is_other))

-- what holds where facts aren't asked for, and where a splitting isn't
pub where_none_facts : (asked : Option ToolCommand) (P : Type 0) → asked ≡ None → WhereFacts asked P
where_none_facts asked P none is = absurd (cc (none, is))

pub where_facts_no_split : (asked : Option ToolCommand) (P : SplitSetting → Type 0) → asked ≡ Some Facts → WhereSplit asked P
where_facts_no_split asked P facts other is_other = absurd (cc (facts, is_other))

pub where_split_no_facts : (asked : Option ToolCommand) (setting : SplitSetting) (P : Type 0) → asked ≡ Some (Split setting)
    → WhereFacts asked P
where_split_no_facts asked setting P split is = absurd (cc (split, is))

pub fronts_of : (asked : Option ToolCommand) (setting : SplitSetting) (answer : Result (Unit {0}) ToolStatus) (P : SplitSetting → Type 0)
    → OnErr answer (P setting) → asked ≡ Some (Split setting) → status_of answer ≢ tools.Ok → WhereSplit asked P
fronts_of asked setting (Ok done) P fronts is not = absurd (not refl)
fronts_of asked setting (Err status) P fronts is not = where_split asked setting P is fronts

-- what follows for a query that is accepted
pub accepted_so : (query : Option (List ℕ)) (P Q : TypedQuery → Type 0) → ((q : TypedQuery) → P q → Q q) → IsAcceptedWith query P
    → IsAcceptedWith query Q
accepted_so query P Q so holds text is = let found = holds text is in (found.0, found.1, so found.0 found.2)

-- ---- what a command answers

-- a command that ended in a fault or a refusal ended so
pub ended : (answer : Result (Unit {0}) ToolStatus) (Ends : ToolStatus → Type 0) → IfErr answer Ends → status_of answer ≢ tools.Ok
    → Ends (status_of answer)
ended (Ok done) Ends ends not = absurd (not refl)
ended (Err status) Ends ends not = ends

-- what a command gave that wasn't refused
pub ok_of : (answer : Result (Unit {0}) ToolStatus) (Ends : ToolStatus → Type 0) (P : Type 0) → (Ends tools.Ok → ⊥) → OnOk answer P
    → IfErr answer Ends → status_of answer ≡ tools.Ok → P
ok_of (Ok done) Ends P never holds ends is = holds
ok_of (Err status) Ends P never holds ends is = absurd (never (subst Ends is ends))

-- a command that is asked for doesn't end as one that isn't
pub not_usage : (asked : Option ToolCommand) (answer : Result (Unit {0}) ToolStatus) (Ends : ToolStatus → Type 0) → (Ends tools.Usage → ⊥)
    → IfErr answer Ends → asked ≡ Some Facts → (status_of answer ≡ tools.Usage) ↔ (asked ≡ None)
not_usage asked (Ok done) Ends never ends is = ((λ e. absurd (cc e)), (λ e. absurd (cc (is, e))))
not_usage asked (Err status) Ends never ends is = ((λ e. absurd (never (subst Ends e ends))), (λ e. absurd (cc (is, e))))

-- ---- what each status says

module _ (query : Option (List ℕ)) (Bytes : SplitSetting → List (List ℕ) → Type 0) (query_old query_new : ℕ)
    (traces_old traces_new : List ℕ) (parts_old parts_new out_old out_new : ℕ) (asked : Option ToolCommand) (status : ToolStatus) where
  abbrev OfSplit : SplitSetting → ToolStatus → Type 0
  OfSplit setting = SplitEnds query (Bytes setting) query_old query_new traces_old traces_new parts_old parts_new

  abbrev OfFacts : ToolStatus → Type 0
  OfFacts = FactsEnd query_old query_new out_old out_new

  module _ (usage : (status ≡ tools.Usage) ↔ (asked ≡ None)) (ends : status ≢ tools.Ok → WhereSplit asked (λ s. OfSplit s status))
      (facts_end : status ≢ tools.Ok → WhereFacts asked (OfFacts status)) where
    -- a status other than `Ok` and `Usage` is that of a splitting or of facts
    by_command : (P : Type 0) → status ≢ tools.Ok → status ≢ tools.Usage → ((setting : SplitSetting) → OfSplit setting status → P)
        → (OfFacts status → P) → P
    by_command P not_ok not_usage of_split of_facts = by asked refl
      where
        by : (found : Option ToolCommand) → asked ≡ found → P
        by None is = absurd (not_usage (usage.1 is))
        by (Some (Split setting)) is = of_split setting (ends not_ok setting is)
        by (Some Facts) is = of_facts (facts_end not_ok is)

    pub at_query_fault : status ≡ tools.InputFault Query → Rose query_old query_new
    at_query_fault is =
        by_command (Rose query_old query_new) (λ e. absurd (cc (is, e))) (λ e. absurd (cc (is, e))) (λ s all. subst (OfSplit s) is all)
        (λ all. subst OfFacts is all)

    pub at_trace_fault : status ≡ tools.InputFault Trace → OneRose traces_old traces_new
    at_trace_fault is =
        by_command (OneRose traces_old traces_new) (λ e. absurd (cc (is, e))) (λ e. absurd (cc (is, e)))
        (λ s all. let split = subst (OfSplit s) is all in split.0) (λ all. absurd (subst OfFacts is all))

    pub at_parts_fault : status ≡ tools.OutputFault → WhereSplit asked (λ _. Rose parts_old parts_new)
    at_parts_fault is setting split = let all = subst (OfSplit setting) is (ends (λ e. absurd (cc (is, e))) setting split) in all.0

    pub at_out_fault : status ≡ tools.OutputFault → WhereFacts asked (Rose out_old out_new)
    at_out_fault is facts = subst OfFacts is (facts_end (λ e. absurd (cc (is, e))) facts)

    pub at_query_refused : (fault : QueryFault) → status ≡ tools.QueryRefused fault → IsRefusedFor query fault
    at_query_refused fault is =
        by_command (IsRefusedFor query fault) (λ e. absurd (cc (is, e))) (λ e. absurd (cc (is, e))) (λ s all. subst (OfSplit s) is all)
        (λ all. absurd (subst OfFacts is all))

    pub at_field_needed : status ≡ tools.FieldNeeded → IsAcceptedWith query (λ q. split_by q ≡ [])
    at_field_needed is =
        by_command (IsAcceptedWith query (λ q. split_by q ≡ [])) (λ e. absurd (cc (is, e))) (λ e. absurd (cc (is, e)))
        (λ s all. subst (OfSplit s) is all) (λ all. absurd (subst OfFacts is all))

    pub at_trace_refused : (fault : WholeFault) → status ≡ tools.TraceRefused fault
        → WhereSplit asked (λ s. IsAcceptedWith query (IsFirstFault (Bytes s) fault))
    at_trace_refused fault is setting split =
        accepted_so query (λ q. (split_by q ≢ []) × IsFirstFault (Bytes setting) fault q) (IsFirstFault (Bytes setting) fault)
        (λ q holds. holds.1) (subst (OfSplit setting) is (ends (λ e. absurd (cc (is, e))) setting split))

    -- facts end in no other status
    pub of_facts : WhereFacts asked (IsOfFacts status)
    of_facts facts = by status refl
      where
        such : (found : ToolStatus) → status ≡ found → found ≢ tools.Ok → OfFacts found
        such found is not = subst OfFacts is (facts_end (λ e. not (cc (is, e))) facts)

        by : (found : ToolStatus) → status ≡ found → IsOfFacts found
        by tools.Ok is = tt
        by tools.Memory is = tt
        by (tools.InputFault Query) is = tt
        by tools.OutputFault is = tt
        by (tools.InputFault Trace) is = such (tools.InputFault Trace) is (λ e. absurd (cc e))
        by (tools.QueryRefused fault) is = such (tools.QueryRefused fault) is (λ e. absurd (cc e))
        by tools.FieldNeeded is = such tools.FieldNeeded is (λ e. absurd (cc e))
        by (tools.TraceRefused fault) is = such (tools.TraceRefused fault) is (λ e. absurd (cc e))
        by tools.Usage is = such tools.Usage is (λ e. absurd (cc e))

-- what comes after the query of a splitting says that it is accepted, and that traces may be split by some field
module _ (query : Option (List ℕ)) (Bytes : SplitSetting → List (List ℕ) → Type 0) (query_old query_new : ℕ)
    (traces_old traces_new : List ℕ) (parts_old parts_new : ℕ) (asked : Option ToolCommand) (old new : Taken) where
  abbrev Ends : SplitSetting → ToolStatus → Type 0
  Ends setting = SplitEnds query (Bytes setting) query_old query_new traces_old traces_new parts_old parts_new

  pub after_query : (status : ToolStatus)
      → (status ≡ tools.Ok → WhereSplit asked (λ s. IsAcceptedWith query (IsSplit (Bytes s) old new s)))
      → (status ≢ tools.Ok → WhereSplit asked (λ s. Ends s status))
      → IsAfterQuery status → WhereSplit asked (λ _. IsAcceptedWith query (λ q. split_by q ≢ []))
  after_query tools.Ok ok ends after setting is =
      accepted_so query (IsSplit (Bytes setting) old new setting) (λ q. split_by q ≢ []) (λ q split. split.some) (ok refl setting is)
  after_query (tools.InputFault Trace) ok ends after setting is = let all = ends (λ e. absurd (cc e)) setting is in all.1
  after_query (tools.TraceRefused fault) ok ends after setting is =
      accepted_so query (λ q. (split_by q ≢ []) × IsFirstFault (Bytes setting) fault q) (λ q. split_by q ≢ []) (λ q holds. holds.0)
      (ends (λ e. absurd (cc e)) setting is)
  after_query tools.OutputFault ok ends after setting is = let all = ends (λ e. absurd (cc e)) setting is in all.1
  after_query tools.Memory ok ends after setting is = absurd after
  after_query tools.Usage ok ends after setting is = absurd after
  after_query (tools.InputFault Query) ok ends after setting is = absurd after
  after_query (tools.QueryRefused fault) ok ends after setting is = absurd after
  after_query tools.FieldNeeded ok ends after setting is = absurd after
