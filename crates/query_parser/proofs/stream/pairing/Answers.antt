use Rattle.query_grammar.specs.{Kinds.keyword, Parser.Limited, Reading.plain_name}
use Rattle.query_parser.proofs.Inputs.{input_closed, input_stops, part_stops}
use Rattle.query_parser.proofs.stream.pairing.Goals as goal

pub returns-in-Err : goal.returns-in-Err
returns-in-Err c = input_stops (keyword c.args.word) (plain_name Limited) c.args.reader.now _ _ c.in-Err.ensures

pub returns-in-Err-name : goal.returns-in-Err-name
returns-in-Err-name c = part_stops (keyword c.args.word) (plain_name Limited) c.args.reader.now _ c.input.new.self c.in-Ok.ensures _ _
    c.in-Err-name.ensures

pub returns : goal.returns
returns c = input_closed (keyword c.args.word) (plain_name Limited) c.args.reader.now _ c.input.new.self c.in-Ok.ensures _
    c.name.new.self _ _ c.in-Ok-name.ensures c.closed.ensures
