use Rattle.std.proofs.Common.{◌≡◌, length, map, string_bytes}
use Rattle.tools_cli.specs.Options.{AreWithin, no_options, options_from}
use Rattle.tools_cli.proofs.options.options_of.Given as goal

-- the options so far with those of the words that are left are all
abbrev pub invariant-words : goal.invariant-words
invariant-words l = record {
  rest : options_from l.options (map string_bytes l.left) ≡ options_from no_options (map string_bytes l.words);
  within : AreWithin l.options;
}

abbrev pub decreases-words : goal.decreases-words
decreases-words l = length l.left
