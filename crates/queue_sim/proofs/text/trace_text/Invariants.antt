use Rattle.std.proofs.Common.{◌≡◌, take}
use Rattle.queue_sim.specs.TraceText.{trace_text}
use Rattle.queue_sim.proofs.text.trace_text.Given as goal

abbrev pub invariant-loop-packet : goal.invariant-loop-packet
invariant-loop-packet l = l.text ≡ trace_text (take l.packet-index l.fn.packets)
