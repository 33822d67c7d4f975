-- The column and the count are what comes after the input.
use Rattle.std.proofs.Common.{ℕ, refl, rules}
use Rattle.query_lang.specs.declared.{fault.Span.Span, query.Name.Name, token.{Mark.TheVariants.Comma, Word.TheVariants.Top}}
use Rattle.query_grammar.specs.{Kinds.{keyword, number, sign}, Language.Plain, Parser.{Limited, Parser, followed_by, word}}
use Rattle.query_grammar.specs.Reading.{after, plain_name}
use Rattle.query_parser.proofs.Inputs.{input_closed, input_stops, part_stops}
use Rattle.query_parser.proofs.final_table.best.Goals as goal

abbrev column_and_count : Parser (Name × (ℕ × Span))
column_and_count = followed_by (plain_name Limited) (after Limited (sign Comma) (word Limited Plain number))

pub returns-in-Err : goal.returns-in-Err
returns-in-Err c = input_stops (keyword Top) column_and_count c.args.reader.now _ _ c.in-Err.ensures

pub returns-in-Err-name : goal.returns-in-Err-name
returns-in-Err-name c = part_stops (keyword Top) column_and_count c.args.reader.now _ c.input.new.self c.in-Ok.ensures _ _ (search rules)

pub returns-in-Err-mark : goal.returns-in-Err-mark
returns-in-Err-mark c = part_stops (keyword Top) column_and_count c.args.reader.now _ c.input.new.self c.in-Ok.ensures _ _ (search rules)

pub returns-in-Err-number : goal.returns-in-Err-number
returns-in-Err-number c = part_stops (keyword Top) column_and_count c.args.reader.now _ c.input.new.self c.in-Ok.ensures _ _ (search rules)

pub returns : goal.returns
returns c = input_closed (keyword Top) column_and_count c.args.reader.now _ c.input.new.self c.in-Ok.ensures _ c.number.new.self _ _
    (rw (c.in-Ok-name.ensures, c.in-Ok-mark.ensures, c.in-Ok-number.ensures) refl) c.closed.ensures
