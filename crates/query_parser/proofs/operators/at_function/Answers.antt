use Rattle.std.proofs.Common.{◌∙◌}
use Rattle.query_grammar.specs.Grammar.{functions}
use Rattle.query_parser.proofs.OperatorLists.{comes_next}
use Rattle.query_parser.proofs.operators.at_function.Goals as goal

pub returns : goal.returns
returns c = c.is_some.ensures ∙ comes_next functions c.args.rest.now _ c.next_function.ensures
