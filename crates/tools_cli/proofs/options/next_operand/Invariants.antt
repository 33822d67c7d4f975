use Rattle.std.proofs.Common.{◌≡◌, ◌≤◌, length, map, string_bytes}
use Rattle.tools_cli.specs.Options.{operands}
use Rattle.tools_cli.proofs.options.next_operand.Given as goal

-- the words that are left have the same operands
abbrev pub invariant-words : goal.invariant-words
invariant-words l = record {
  same : operands (map string_bytes l.left) ≡ operands (map string_bytes l.words);
  fewer : length l.left ≤ length l.words;
}

abbrev pub decreases-words : goal.decreases-words
decreases-words l = length l.left
