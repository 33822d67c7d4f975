use Rattle.std.proofs.Common.{◌≡◌, length}
use Rattle.trace_split.proofs.ListFacts.{AllHave}
use Rattle.trace_split.proofs.texts.PartTexts.new.Given as goal

-- the header waits in each buffer
abbrev pub invariant-loop-part : goal.invariant-loop-part
invariant-loop-part l = record { size : length l.waiting.items ≡ l._part; all : AllHave l.names l.waiting.items }
