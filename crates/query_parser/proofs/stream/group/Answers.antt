-- The keys in their brackets and the fold are what comes after the input.
use Rattle.std.proofs.Common.{List, refl, rules}
use Rattle.query_lang.specs.declared.query.{Key.Key, Name.Name}
use Rattle.query_lang.specs.declared.token.{Mark.TheVariants.Comma, Word.TheVariants.Groupby}
use Rattle.query_grammar.specs.{Kinds.{keyword, sign}, Parser.{Limited, Parser, followed_by}}
use Rattle.query_grammar.specs.Reading.{after, brackets, key_of, plain_name, separated}
use Rattle.query_parser.proofs.{Inputs.{input_closed, input_stops, part_fails, seen_given}, Loops.stops_fails}
use Rattle.query_parser.proofs.stream.group.Goals as goal

abbrev keys_and_fold : Parser (List Key × Name)
keys_and_fold = followed_by (brackets Limited (separated Limited (key_of Limited))) (after Limited (sign Comma) (plain_name Limited))

pub returns-in-Err : goal.returns-in-Err
returns-in-Err c = stops_fails _ _ _ (input_stops (keyword Groupby) keys_and_fold c.args.reader.now _ _ c.in-Err.ensures)

pub returns-in-Err-bracketed : goal.returns-in-Err-bracketed
returns-in-Err-bracketed c = part_fails (keyword Groupby) keys_and_fold c.args.reader.now _ c.input.new.self c.in-Ok.ensures _ _
    (search rules)

pub returns-in-Err-comma_name : goal.returns-in-Err-comma_name
returns-in-Err-comma_name c = part_fails (keyword Groupby) keys_and_fold c.args.reader.now _ c.input.new.self c.in-Ok.ensures _ _
    (search rules)

pub returns : goal.returns
returns c = seen_given _ _ _ _ (input_closed (keyword Groupby) keys_and_fold c.args.reader.now _ c.input.new.self c.in-Ok.ensures
    _ c.comma_name.new.self _ _ (rw (c.in-Ok-bracketed.ensures, c.in-Ok-comma_name.ensures) refl) c.closed.ensures)
