use Rattle.query_lang.specs.declared.token.Word.TheVariants.{Filter}
use Rattle.query_grammar.specs.{Kinds.keyword, Parser.Limited, Reading.expr_at}
use Rattle.query_parser.proofs.{Inputs.{input_closed, input_stops, part_fails, seen_given}, Loops.stops_fails}
use Rattle.query_parser.proofs.stream.filter.Goals as goal

pub returns-in-Err : goal.returns-in-Err
returns-in-Err c = stops_fails _ _ _ (input_stops (keyword Filter) (expr_at Limited 63) c.args.reader.now _ _ c.in-Err.ensures)

pub returns-in-Err-expression : goal.returns-in-Err-expression
returns-in-Err-expression c = part_fails (keyword Filter) (expr_at Limited 63) c.args.reader.now _ c.input.new.self c.in-Ok.ensures _ _
    c.in-Err-expression.ensures

pub returns : goal.returns
returns c = seen_given _ _ _ _ (input_closed (keyword Filter) (expr_at Limited 63) c.args.reader.now _ c.input.new.self c.in-Ok.ensures _
    c.expression.new.reader _ _ c.in-Ok-expression.ensures c.closed.ensures)
