-- What a query over several switches reads of a trace, and the trace's first fault for it.
use Rattle.std.specs.Prelude.{ℕ, suc, List, [], ◌∷◌, ◌++◌, Option, Some, None}
use Rattle.marple_base.specs.{declared.field.{Field.TheVariants.Switch, FieldSet.FieldSet, Packet.Packet}, Field.field_set}
use Rattle.query_lang.specs.declared.typed.TypedQuery.{TypedQuery}
use Rattle.stage_plan.specs.Fields.{read_fields}
use Rattle.trace_drive.specs.Drives.{words_of}
use Rattle.trace_reader.specs.{Traces.{Contents, contents}, Upcoming.Upcoming}
use Rattle.trace_reader.specs.declared.fault.TraceFault.{TraceFault, TheVariants.TooManySwitches}
use Rattle.net_wide.specs.{NetTables.switch_in, Numbering.{switch_number, with_switch}}

-- the fields that the query reads, and always the switch
abbrev pub net_reads : TypedQuery → FieldSet
net_reads q = field_set (read_fields q ++ Switch ∷ [])

-- the fault of a record whose switch has no number, and otherwise this one
abbrev pub fault_at : ℕ → Option ℕ → Option TraceFault → Option TraceFault
fault_at record_number None later = Some (TooManySwitches record_number)
fault_at record_number (Some at) later = later

-- The first fault of packets from the record with this number on, where these switches came before them: that of the 65th switch,
-- and otherwise the one after them.
abbrev pub first_fault : List ℕ → ℕ → List (List ℕ) → Option TraceFault → Option TraceFault
first_fault known number [] past = past
first_fault known number (words ∷ packets) past =
    fault_at number (switch_number known (switch_in words)) (first_fault (with_switch known (switch_in words)) (suc number) packets past)

-- that of the packets that are still to come of a trace, where no packet came before them
abbrev pub fault_ahead : Upcoming → Option TraceFault
fault_ahead trace = first_fault [] 1 (words_of trace.packets) trace.fault

-- the first fault of what a trace contains: a 65th switch among the packets before the trace's own fault comes before that
abbrev pub net_fault_in : Contents → Option TraceFault
net_fault_in found = first_fault [] 1 (words_of found.packets) found.fault

-- The packets of a trace for a query over several switches.
abbrev pub net_packets : List ℕ → TypedQuery → List Packet
net_packets text q = (contents text (net_reads q)).packets

-- The first fault of a trace for a query over several switches.
abbrev pub net_trace_fault : List ℕ → TypedQuery → Option TraceFault
net_trace_fault text q = net_fault_in (contents text (net_reads q))
