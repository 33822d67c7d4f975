use Rattle.std.proofs.Common.{◌≡◌, ◌≤◌, ◌-◌, length, drop}
use Rattle.query_lang.specs.Lexis.{cut, tokens_of}
use Rattle.query_parser.proofs.Cuts.{with_all}
use Rattle.query_parser.proofs.lexer.cut_text.Given as goal

-- the tokens so far, and those of the bytes that are left, are those of the text; and each turn adds at most one name
abbrev pub invariant-loop : goal.invariant-loop
invariant-loop l = record {
  within : l.at ≤ length l.text;
  few : length l.names ≤ l.counter;
  so_far : with_all l.tokens (cut (length l.text - l.counter) l.at l.names (drop l.at l.text)) ≡ tokens_of l.text;
}
