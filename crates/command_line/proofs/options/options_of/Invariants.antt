use Rattle.std.proofs.Common.{◌≡◌, length, map, string_bytes}
use Rattle.command_line.specs.Command.{options_from, no_options, AreWithin}
use Rattle.command_line.proofs.options.options_of.Given as goal

-- the options so far with those that are left are all
abbrev pub invariant-pairs : goal.invariant-pairs
invariant-pairs l = record {
  rest : options_from l.options (map string_bytes l.left) ≡ options_from no_options (map string_bytes l.words);
  within : AreWithin l.options;
}

abbrev pub decreases-pairs : goal.decreases-pairs
decreases-pairs l = length l.left
