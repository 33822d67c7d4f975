use Rattle.std.proofs.Common.{◌∙◌, sym, string_bytes}
use Rattle.command_line.proofs.OptionPairs.{options_from_pair}
use Rattle.command_line.proofs.options.options_of.Goals as goal

pub pairs-preserved : goal.pairs-preserved
pairs-preserved c = record {
  rest = sym (options_from_pair string_bytes c.pairs.options c.in_ok-options.options c.pairs.left.now c.in-Some.more.now
      c.in_ok-value.rest.now c.in-Some.name.now c.in_ok-value.value.now
      c.in-Some.ensures.cases.0 c.in_ok-value.ensures.cases.0 (sym c.in_ok-options.ensures.with_option)) ∙ c.pairs.invariant.rest;
  within = c.in_ok-options.ensures.within;
}
