-- A range takes three words, another option two and an operand one, and the words left give the same options.
use Rattle.std.proofs.Common.{◌∙◌, string_bytes, sym}
use Rattle.tools_cli.proofs.WordFacts.{past_operand, past_option, past_range}
use Rattle.tools_cli.proofs.options.options_of.Goals as goal

pub words-preserved-then-is_range : goal.words-preserved-then-is_range
words-preserved-then-is_range c = record {
  rest = sym (past_range string_bytes c.words.options c.in_ok-ranged.ranged c.words.left.now c.in-Some.more.now
      c.in_ok-first.after.now c.in_ok-last.rest.now c.in-Some.word.now c.in_ok-first.first.now c.in_ok-last.last.now
      c.in-Some.ensures.cases.0 c.in_ok-first.ensures.cases.0 c.in_ok-last.ensures.cases.0
      (sym c.is_range.ensures ∙ c.if-is_range.true) (sym c.in_ok-ranged.ensures.with_range)) ∙ c.words.invariant.rest;
  within = c.in_ok-ranged.ensures.within;
}

pub words-preserved-then-is_option : goal.words-preserved-then-is_option
words-preserved-then-is_option c = record {
  rest = sym (past_option string_bytes c.words.options c.in_ok-named.named c.words.left.now c.in-Some.more.now
      c.in_ok-value.rest.now c.in-Some.word.now c.in_ok-value.value.now c.in-Some.ensures.cases.0 c.in_ok-value.ensures.cases.0
      (sym c.is_range.ensures ∙ c.if-is_range.false) (sym c.is_option.ensures ∙ c.if-is_option.true)
      (sym c.in_ok-named.ensures.with_option)) ∙ c.words.invariant.rest;
  within = c.in_ok-named.ensures.within;
}

pub words-preserved : goal.words-preserved
words-preserved c = record {
  rest = sym (past_operand string_bytes c.words.options c.words.left.now c.in-Some.more.now c.in-Some.word.now
      c.in-Some.ensures.cases.0 (sym c.is_range.ensures ∙ c.if-is_range.false) (sym c.is_option.ensures ∙ c.if-is_option.false)
      (sym c.is_dashed.ensures ∙ c.if-is_dashed.false))
      ∙ c.words.invariant.rest;
  within = c.words.invariant.within;
}
