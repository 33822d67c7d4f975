use Rattle.std.proofs.Common.{◌≡◌, ◌++◌, length, map, string_bytes}
use Rattle.tools_cli.specs.Options.{operands}
use Rattle.tools_cli.proofs.options.operands_of.Given as goal

-- the operands so far with those that are left are all
abbrev pub invariant-words : goal.invariant-words
invariant-words l = record {
  all : map string_bytes l.found.items ++ operands (map string_bytes l.left) ≡ operands (map string_bytes l.words);
}

abbrev pub decreases-words : goal.decreases-words
decreases-words l = length l.left
