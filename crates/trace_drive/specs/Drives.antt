-- Which packets a trace has, and the fault after them.
use Rattle.std.specs.Prelude.{ℕ, List, map, drop, Option, None}
use Rattle.epoch_model.specs.Epochs.{Geometry}
use Rattle.marple_base.specs.declared.field.Packet.{Packet}
use Rattle.trace_drive.specs.declared.{packets.Packets.{Packets, TheVariants.{Trace, Made, Kept}}, schedule.Schedule.Schedule}
use Rattle.trace_reader.specs.declared.fault.TraceFault.{TraceFault}

-- the packets still to come
abbrev pub coming : Packets → List Packet
coming (Trace trace) = trace.packets
coming (Made packets at) = drop at packets
coming (Kept kept at) = drop at kept.packets

-- the fault after them; packets that were generated or kept have none
abbrev pub fault_of : Packets → Option TraceFault
fault_of (Trace trace) = trace.fault
fault_of (Made packets at) = None
fault_of (Kept kept at) = None

-- the words of each packet
abbrev pub words_of : List Packet → List (List ℕ)
words_of packets = map (λ packet. packet.words) packets

-- caches of this many ways, with the schedule's buckets and refresh
abbrev pub geometry_for : ℕ → Schedule → Geometry
geometry_for ways schedule = record { buckets = schedule.buckets; ways = ways; refresh = schedule.refresh }
