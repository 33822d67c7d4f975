use Rattle.std.proofs.Common.{◌≡◌, take}
use Rattle.query_lang.specs.Names.{print_of}
use Rattle.query_lang.proofs.names.print_of.Given as goal

-- the word is that of the bytes so far
abbrev pub invariant-loop-byte : goal.invariant-loop-byte
invariant-loop-byte l = l.print ≡ print_of (take l.byte-index l.text)
