-- The columns in their brackets are what comes after the input.
use Rattle.query_lang.specs.declared.token.Word.TheVariants.{Map}
use Rattle.query_grammar.specs.{Kinds.keyword, Parser.Limited, Reading.{brackets, column_of, expr_at, separated}}
use Rattle.query_parser.proofs.{Inputs.{input_closed, input_stops, part_fails, seen_given}, Loops.stops_fails}
use Rattle.query_parser.proofs.stream.mapping.Goals as goal

pub returns-in-Err : goal.returns-in-Err
returns-in-Err c = stops_fails _ _ _ (input_stops (keyword Map)
    (brackets Limited (separated Limited (column_of Limited (expr_at Limited 62)))) c.args.reader.now _ _ c.in-Err.ensures)

pub returns-in-Err-bracketed : goal.returns-in-Err-bracketed
returns-in-Err-bracketed c = part_fails (keyword Map) (brackets Limited (separated Limited (column_of Limited (expr_at Limited 62))))
    c.args.reader.now _ c.input.new.self c.in-Ok.ensures _ _ c.in-Err-bracketed.ensures

pub returns : goal.returns
returns c = seen_given _ _ _ _ (input_closed (keyword Map) (brackets Limited (separated Limited (column_of Limited (expr_at Limited 62))))
    c.args.reader.now _ c.input.new.self c.in-Ok.ensures _ c.bracketed.new.reader _ _ c.in-Ok-bracketed.ensures c.closed.ensures)
