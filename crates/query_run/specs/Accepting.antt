-- Where the packets of a run come from.
use Rattle.std.specs.Prelude.{⊤}
use Rattle.trace_drive.specs.declared.packets.Packets.{Packets, TheVariants.{Trace, Kept}}

-- They were read before, and are taken from where they are kept.
abbrev pub AreKept : Packets → Type 0
AreKept (Kept kept at) = ⊤
AreKept packets = ⊥

-- They are read as they are taken.
abbrev pub AreUnread : Packets → Type 0
AreUnread (Trace trace) = ⊤
AreUnread packets = ⊥
