-- What contracts see of a trace that is being read.
use Rattle.std.specs.Prelude.{ℕ, ◌≡◌, List, [], ◌∷◌, Option, None, Some}
use Rattle.marple_base.specs.declared.field.{FieldSet.FieldSet, Packet.Packet}
use Rattle.trace_reader.specs.{Traces.{packets, trace_fault}, declared.fault.{TraceAnswer.TraceAnswer, TraceFault.TraceFault}}

-- the packets still to come, the fault after them, and the answer that stopped the trace
pub record Upcoming : Type 0 where
  pub packets : List Packet
  pub fault : Option TraceFault
  pub stopped : Option TraceAnswer

-- all of a trace
abbrev pub upcoming_of : List ℕ → FieldSet → Upcoming
upcoming_of text reads = record { packets = packets text reads; fault = trace_fault text reads; stopped = None }

-- one packet fewer is to come: the first one was given
pub record Gives (old : Upcoming) (packet : Packet) (new : Upcoming) : Type 0 where
  pub packets : old.packets ≡ packet ∷ new.packets
  pub fault : new.fault ≡ old.fault
  pub going : new.stopped ≡ None

-- nothing is to come
pub record IsAtEnd (trace : Upcoming) : Type 0 where
  pub packets : trace.packets ≡ []
  pub fault : trace.fault ≡ None

-- no packet is to come, but this fault
pub record IsAtFault (trace : Upcoming) (found : TraceFault) : Type 0 where
  pub packets : trace.packets ≡ []
  pub fault : trace.fault ≡ Some found
