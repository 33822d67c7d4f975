-- How a splitting ends.
use Rattle.std.specs.Prelude.{◌≡◌, ◌≢◌, ℕ, List, [], Option, Some, None, Ok, filter, ⊤}
use Rattle.accepted_query.specs.Accepted.{accepted, query_fault}
use Rattle.marple_base.specs.{Faults.Rose, Field.all_fields, Inputs.Input, declared.{field.Field.Field, inputs.Which.Which}}
use Rattle.marple_base.specs.declared.inputs.Which.TheVariants.{Query, Trace}
use Rattle.part_texts.specs.Texts.{part_by_hash, part_text}
use Rattle.query_lang.specs.declared.{fault.QueryFault.QueryFault, typed.TypedQuery.TypedQuery}
use Rattle.split_fields.specs.Splits.{may_split}
use Rattle.stage_plan.specs.Fields.{reads_of}
use Rattle.trace_pieces.specs.{Faults.trace_fault_of, declared.fault.WholeFault.WholeFault}
use Rattle.trace_split.specs.{Holding.{TakeFronts, TakeTexts, Taken}, Traces.{AreLeft, OneRose, fault_of_all, packets_of_all}}
use Rattle.trace_ranges.specs.{Ranges.range_input, declared.ranged.Ranged.Ranged}
use Rattle.tools_cli.specs.declared.{command.SplitSetting.SplitSetting, status.ToolStatus.ToolStatus}
use Rattle.tools_cli.specs.declared.status.ToolStatus.TheVariants as tools

-- the fields that decide the part of a packet: all that may
abbrev pub split_by : TypedQuery → List Field
split_by q = filter (may_split q) all_fields

-- the text of each part of traces that are split for a query
abbrev pub texts_for : TypedQuery → SplitSetting → List (List ℕ) → ℕ → List ℕ
texts_for q setting traces n =
    part_text (reads_of q) (part_by_hash (split_by q) setting.salt setting.parts) n (packets_of_all traces (reads_of q))

-- these are the texts of the traces, of each the range that the setting names
abbrev pub AreTexts : {T : Type 0} → (T → Which → Input) → List (Ranged T) → SplitSetting → List (List ℕ) → Type 0
AreTexts input traces setting = AreLeft (range_input input setting.range) traces

-- Where the text of the query is known, it is accepted, and this holds of what it says.
abbrev pub IsAcceptedWith : Option (List ℕ) → (TypedQuery → Type 0) → Type 0
IsAcceptedWith query P = (text : List ℕ) → query ≡ Some text → (q : TypedQuery) × (accepted text ≡ Ok q) × P q

-- Where the text of the query is known, it is refused for this fault.
abbrev pub IsRefusedFor : Option (List ℕ) → QueryFault → Type 0
IsRefusedFor query found = (text : List ℕ) → query ≡ Some text → query_fault text ≡ Some found

-- The query may be split by some fields; of traces with these bytes none has a fault, and each part took exactly its text.
pub record IsSplit (Bytes : List (List ℕ) → Type 0) (old new : Taken) (setting : SplitSetting) (q : TypedQuery) : Type 0 where
  pub some : split_by q ≢ []
  pub whole : (traces : List (List ℕ)) → Bytes traces → fault_of_all traces (reads_of q) ≡ None
  pub texts : (traces : List (List ℕ)) → Bytes traces → TakeTexts setting.parts old new (texts_for q setting traces)

-- Where the query and traces with these bytes are known, and the query is accepted, each part took some first bytes of its text.
abbrev pub TakeFrontsOf : Option (List ℕ) → (List (List ℕ) → Type 0) → Taken → Taken → SplitSetting → Type 0
TakeFrontsOf query Bytes old new setting =
    (text : List ℕ) (q : TypedQuery) (traces : List (List ℕ)) → query ≡ Some text → accepted text ≡ Ok q → Bytes traces
    → TakeFronts setting.parts old new (texts_for q setting traces)

-- This is the first fault of traces with these bytes.
abbrev pub IsFirstFault : (List (List ℕ) → Type 0) → WholeFault → TypedQuery → Type 0
IsFirstFault Bytes found q = (traces : List (List ℕ)) → Bytes traces → fault_of_all traces (reads_of q) ≡ Some (trace_fault_of found)

-- the status comes before a trace is opened or a part written
abbrev pub IsBeforeTraces : ToolStatus → Type 0
IsBeforeTraces tools.Usage = ⊤
IsBeforeTraces (tools.InputFault Query) = ⊤
IsBeforeTraces (tools.QueryRefused found) = ⊤
IsBeforeTraces tools.FieldNeeded = ⊤
IsBeforeTraces status = ⊥

-- A splitting of traces with these bytes ended in this status, and not in `Ok`. The counts of faults are those before and after, of
-- the query, of the traces and of the parts.
module _ (query : Option (List ℕ)) (Bytes : List (List ℕ) → Type 0) (query_old query_new : ℕ) (traces_old traces_new : List ℕ)
    (parts_old parts_new : ℕ) where
  abbrev pub SplitEnds : ToolStatus → Type 0
  SplitEnds tools.Memory = ⊤
  SplitEnds (tools.InputFault Query) = Rose query_old query_new
  SplitEnds (tools.InputFault Trace) = OneRose traces_old traces_new × IsAcceptedWith query (λ q. split_by q ≢ [])
  SplitEnds (tools.QueryRefused found) = IsRefusedFor query found
  SplitEnds tools.FieldNeeded = IsAcceptedWith query (λ q. split_by q ≡ [])
  SplitEnds (tools.TraceRefused found) = IsAcceptedWith query (λ q. (split_by q ≢ []) × IsFirstFault Bytes found q)
  SplitEnds tools.OutputFault = Rose parts_old parts_new × IsAcceptedWith query (λ q. split_by q ≢ [])
  SplitEnds status = ⊥
