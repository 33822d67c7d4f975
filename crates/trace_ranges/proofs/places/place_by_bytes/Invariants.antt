use Rattle.std.proofs.Common.{◌≡◌, take}
use Rattle.trace_ranges.specs.Spots.{place_over}
use Rattle.trace_ranges.proofs.places.place_by_bytes.Given as goal

-- the place after the bytes so far
abbrev pub invariant-loop-byte : goal.invariant-loop-byte
invariant-loop-byte l = l.place ≡ place_over l.fn.place (take l.byte-index l.bytes)
