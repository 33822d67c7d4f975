use Rattle.query_parser.proofs.ParseFacts.{query_is, readable_is, fault_is}
use Rattle.query_parser.proofs.reading.parse.Goals as goal

pub returns-clause-query : goal.returns-clause-query
returns-clause-query c = query_is c.args.text.now c.read_text.result c.read_text.ensures

pub returns-clause-refused : goal.returns-clause-refused
returns-clause-refused c = fault_is c.args.text.now c.read_text.result c.read_text.ensures

pub returns-clause-readable : goal.returns-clause-readable
returns-clause-readable c = readable_is c.args.text.now c.read_text.result c.read_text.ensures
