-- How the fields of `Rows` show a list of rows.
use Rattle.std.specs.Prelude.{List}
use Rattle.epoch_model.specs.declared.tables.Row.{Row}
use Rattle.table_rows.specs.{Spans.{rows_in, AllWithin}, declared.rows.Rows.TheInside.Inside}

abbrev pub list_of : Inside → List Row
list_of a = rows_in a.words.items a.spans.items

abbrev pub IsSound : Inside → Type 0
IsSound a = AllWithin a.words.items a.spans.items
