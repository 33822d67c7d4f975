use Rattle.std.proofs.Common.{◌∙◌}
use Rattle.query_parser.{specs.Reads.ops_of, proofs.OperatorLists.comes_next}
use Rattle.query_parser.proofs.operators.at_operator.Goals as goal

pub returns : goal.returns
returns c = c.is_some.ensures ∙ comes_next (ops_of c.args.level) c.args.rest.now _ c.next_operator.ensures
