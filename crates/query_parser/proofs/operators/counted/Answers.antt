use Rattle.query_parser.proofs.OperatorLists.{counted_is}
use Rattle.query_parser.proofs.operators.counted.Goals as goal

pub returns-in-Ok : goal.returns-in-Ok
returns-in-Ok c ops e = counted_is ops _ _ c.args.reader.now.counts _ c.args.reader.now.rest.now _ c.in-Some-len1-up.len_at_least e
    (c.in-Some-len1-up.is-0) c.in-Ok.ensures
