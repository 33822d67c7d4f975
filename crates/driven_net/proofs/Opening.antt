-- A trace that can't be opened has that fault for several switches too.
use Rattle.std.proofs.Common.{◌≡◌, List, ℕ, Some, Result, Err, ap}
use Rattle.marple_base.specs.declared.field.FieldSet.{FieldSet}
use Rattle.trace_reader.specs.{Faults.IfRefused, Reading.records, Traces.{Layout, contents, contents_with, opening, rest_of}}
use Rattle.trace_reader.specs.declared.fault.{TraceAnswer.{TraceAnswer, TheVariants.{Refused, Memory}}, TraceFault.TraceFault}
use Rattle.driven_net.specs.NetTraces.{net_fault_in}

pub opening_fault : (text : List ℕ) (reads : FieldSet) (fault : TraceFault) → opening text reads ≡ Err fault
    → net_fault_in (contents text reads) ≡ Some fault
unfolding contents
opening_fault text reads fault e = ap (λ (found : Result Layout TraceFault). net_fault_in (contents_with found (rest_of (records text)))) e

-- a fact of the fault gives another one
pub refused_as : (answer : TraceAnswer) (P Q : TraceFault → Type 0) → ((fault : TraceFault) → P fault → Q fault) → IfRefused answer P
    → IfRefused answer Q
refused_as (Refused fault) P Q h p = h fault p
refused_as Memory P Q h p = tt
