-- Traces that are split for a query.
use Rattle.std.proofs.Common.{◌≡◌, ◌≢◌, ℕ, Bool, cond, List, [], ◌∷◌, Option, None, Some, Result, Ok, Err, refl, sym, ap, subst, ◌∙◌}
use Rattle.std.specs.{Prelude.{IfErr, IfSome, IsErrAnd, filter}, Result.IsErrOf, Io.KnownBytes.Appends}
use Rattle.accepted_query.specs.Accepted.{accepted, query_fault}
use Rattle.command_answers.specs.{Phases.QueryEnds, declared.status.Status.Status}
use Rattle.command_answers.specs.declared.status.Status.TheVariants as marple
use Rattle.marple_base.specs.{Faults.Rose, Field.{all_fields, has_field}, Inputs.Input, Sink.TakesFront, declared.field.Field.Field}
use Rattle.marple_base.specs.declared.{field.FieldSet.FieldSet, inputs.Which.TheVariants.{Query, Trace}}
use Rattle.part_texts.specs.Texts.{fields_in, part_by_hash, part_text}
use Rattle.query_lang.specs.declared.typed.TypedQuery.{TypedQuery}
use Rattle.split_fields.specs.Splits.{may_split}
use Rattle.stage_plan.specs.Fields.{reads_of}
use Rattle.trace_pieces.specs.Faults.{trace_fault_of}
use Rattle.trace_split.specs.{Faults.IfSplitRefused, Holding.{TakeFronts, TakeTexts, Taken}, Traces.{OneRose, fault_of_all, packets_of_all}}
use Rattle.trace_split.specs.declared.fault.SplitError.{SplitError}
use Rattle.trace_split.specs.declared.fault.SplitError.TheVariants as error
use Rattle.tools_cli.specs.Ends.{IsAcceptedWith, IsBeforeTraces, IsSplit, SplitEnds, TakeFrontsOf, split_by, texts_for}
use Rattle.tools_cli.specs.{Statuses.{IsOfQuery, status_of_query, status_of_traces}, declared.command.SplitSetting.SplitSetting}
use Rattle.tools_cli.specs.declared.status.ToolStatus.{ToolStatus}

-- ---- the query

filter_same : (f g : Field → Bool) (xs : List Field) → ((x : Field) → f x ≡ g x) → filter f xs ≡ filter g xs
filter_same f g [] same = refl
filter_same f g (x ∷ xs) same =
    ap (λ b. cond b (x ∷ filter f xs) (filter f xs)) (same x) ∙ ap (λ ys. cond (g x) (x ∷ ys) ys) (filter_same f g xs same)

-- the fields of a set that has those by which traces may be split
pub fields_are : (q : TypedQuery) (by : FieldSet) → ((field : Field) → has_field by field ≡ may_split q field) → fields_in by ≡ split_by q
fields_are q by same = filter_same (has_field by) (may_split q) all_fields same

-- a text that was accepted
pub is_accepted : (query : Option (List ℕ)) (q : TypedQuery) (P : TypedQuery → Type 0) → IfSome query (λ text. accepted text ≡ Ok q) → P q
    → IsAcceptedWith query P
is_accepted query q P ok holds text is = (q, subst (λ (t : Option (List ℕ)). IfSome t (λ x. accepted x ≡ Ok q)) is ok, holds)

same_query : (query : Option (List ℕ)) (text : List ℕ) (found q : TypedQuery) → IfSome query (λ x. accepted x ≡ Ok found)
    → query ≡ Some text
    → accepted text ≡ Ok q → found ≡ q
same_query query text found q ok is accepts =
    let is_found : accepted text ≡ Ok found = subst (λ (t : Option (List ℕ)). IfSome t (λ x. accepted x ≡ Ok found)) is ok in
    cc (is_found, accepts)

-- what ends before the query is accepted is one of its statuses
pub of_query : (before after : Input) (status : Status) → QueryEnds query_fault before after status → IsOfQuery status
of_query before after marple.Memory ends = tt
of_query before after (marple.InputFault Query) ends = tt
of_query before after (marple.QueryRefused found) ends = tt
of_query before after marple.Ok ends = absurd ends
of_query before after marple.Usage ends = absurd ends
of_query before after (marple.InputFault Trace) ends = absurd ends
of_query before after (marple.TraceRefused found) ends = absurd ends
of_query before after marple.OutputFault ends = absurd ends

-- ---- the texts of parts

module _ (q : TypedQuery) (by reads : FieldSet) (salt : ℕ) (setting : SplitSetting) (are : fields_in by ≡ split_by q)
    (is_read : reads ≡ reads_of q) (is_salt : salt ≡ setting.salt) where
  text_is : (traces : List (List ℕ)) (n : ℕ)
      → part_text reads (part_by_hash (fields_in by) salt setting.parts) n (packets_of_all traces reads) ≡ texts_for q setting traces n
  text_is traces n =
      ap (λ r. part_text r (part_by_hash (fields_in by) salt setting.parts) n (packets_of_all traces r)) is_read
      ∙ ap (λ fs. part_text (reads_of q) (part_by_hash fs salt setting.parts) n (packets_of_all traces (reads_of q))) are
      ∙ ap (λ s. part_text (reads_of q) (part_by_hash (split_by q) s setting.parts) n (packets_of_all traces (reads_of q))) is_salt

  module _ (Bytes : List (List ℕ) → Type 0) (old new : Taken) where
    -- all was taken
    pub is_split : split_by q ≢ [] → ((traces : List (List ℕ)) → Bytes traces → fault_of_all traces reads ≡ None)
        → ((traces : List (List ℕ)) → Bytes traces → TakeTexts setting.parts old new
        (λ n. part_text reads (part_by_hash (fields_in by) salt setting.parts) n (packets_of_all traces reads)))
        → IsSplit Bytes old new setting q
    is_split some whole taken = record {
      some = some;
      whole = λ traces bytes. subst (λ r. fault_of_all traces r ≡ None) is_read (whole traces bytes);
      texts = λ traces bytes n within. subst (Appends (old n) (new n)) (text_is traces n) (taken traces bytes n within);
    }

    -- some first bytes were taken
    pub take_fronts : (query : Option (List ℕ)) → IfSome query (λ text. accepted text ≡ Ok q)
        → ((traces : List (List ℕ)) → Bytes traces → TakeFronts setting.parts old new
        (λ n. part_text reads (part_by_hash (fields_in by) salt setting.parts) n (packets_of_all traces reads)))
        → TakeFrontsOf query Bytes old new setting
    take_fronts query ok fronts text other traces is accepts bytes n within =
        let same : q ≡ other = same_query query text q other ok is accepts in
        subst (TakesFront (old n) (new n)) (text_is traces n ∙ ap (λ one. texts_for one setting traces n) same)
        (fronts traces bytes n within)

-- ---- what was refused, or failed

module _ (query : Option (List ℕ)) (Bytes : List (List ℕ) → Type 0) (query_old query_new : ℕ) (traces_old traces_new : List ℕ)
    (parts_old parts_new : ℕ) where
  -- a query that wasn't read or accepted
  pub query_ends : (before after : Input) (status : Status) → before.left ≡ query → before.faults ≡ query_old → after.faults ≡ query_new
      → QueryEnds query_fault before after status
      → SplitEnds query Bytes query_old query_new traces_old traces_new parts_old parts_new (status_of_query status)
  query_ends before after marple.Memory left old new ends = tt
  query_ends before after (marple.InputFault Query) left old new ends =
      subst (λ n. Rose n query_new) old (subst (Rose before.faults) new ends)
  query_ends before after (marple.QueryRefused found) left old new ends = λ text is.
      subst (λ (t : Option (List ℕ)). IfSome t (λ x. query_fault x ≡ Some found)) (left ∙ is) ends
  query_ends before after marple.Ok left old new ends = absurd ends
  query_ends before after marple.Usage left old new ends = absurd ends
  query_ends before after (marple.InputFault Trace) left old new ends = absurd ends
  query_ends before after (marple.TraceRefused found) left old new ends = absurd ends
  query_ends before after marple.OutputFault left old new ends = absurd ends

  -- traces that weren't split
  pub traces_end : (reads : FieldSet) (q : TypedQuery) (found : SplitError) → IfSome query (λ text. accepted text ≡ Ok q)
      → split_by q ≢ [] → reads ≡ reads_of q
      → IfSplitRefused found (λ fault. (traces : List (List ℕ)) → Bytes traces → fault_of_all traces reads ≡ Some (trace_fault_of fault))
      → (found ≡ error.InputFault → OneRose traces_old traces_new)
      → (found ≡ error.OutputFault → Rose parts_old parts_new)
      → SplitEnds query Bytes query_old query_new traces_old traces_new parts_old parts_new (status_of_traces found)
  traces_end reads q (error.Refused fault) ok some is_read refused input output =
      is_accepted query q (λ one. (split_by one ≢ []) × ((traces : List (List ℕ)) → Bytes traces
      → fault_of_all traces (reads_of one) ≡ Some (trace_fault_of fault))) ok
      (some, λ traces bytes. subst (λ r. fault_of_all traces r ≡ Some (trace_fault_of fault)) is_read (refused traces bytes))
  traces_end reads q error.InputFault ok some is_read refused input output =
      (input refl, is_accepted query q (λ one. split_by one ≢ []) ok some)
  traces_end reads q error.OutputFault ok some is_read refused input output =
      (output refl, is_accepted query q (λ one. split_by one ≢ []) ok some)
  traces_end reads q error.Memory ok some is_read refused input output = tt

-- what follows of a result from what is known of its error
pub if_err_is : {A : Type 0} (result : Result A ToolStatus) (status : ToolStatus) (P : ToolStatus → Type 0)
    → IsErrAnd result (λ found. found ≡ status) → P status → IfErr result P
if_err_is (Ok done) status P is holds = tt
if_err_is (Err found) status P is holds = subst P (sym is) holds

-- traces that weren't split were reached
pub is_reached : (found : SplitError) → IsBeforeTraces (status_of_traces found) → ⊥
is_reached (error.Refused fault) before = before
is_reached error.InputFault before = before
is_reached error.OutputFault before = before
is_reached error.Memory before = before

-- the error of a result is this one
pub is_err_of : (found other : SplitError) → found ≡ other → IsErrOf {T = Unit {0}} {E = SplitError} (Err found) other
is_err_of found other same = subst (λ (e : SplitError). IsErrOf {T = Unit {0}} {E = SplitError} (Err found) e) same refl
