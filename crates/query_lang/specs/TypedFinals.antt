-- The typing of finals.
use Rattle.std.specs.Prelude.{ℕ, ◌+◌, Bool, ◌&&◌, nat_eq, nat_lt, nat_le, List, [], ◌∷◌, ◌++◌, length, take, drop, Option, Some, None, Ok}
use Rattle.std.specs.{Cmp.Lexicographic.pointwise, List.list_any}
use Rattle.query_lang.specs.declared.fault.{FaultKind.TheVariants.{UnknownName, NameTaken, WrongKind, BadConstant}, Span.Span}
use Rattle.query_lang.specs.declared.query.{Name.Name, Key.Key, Column.Column, Expr.Expr, FinalDef.FinalDef, FinalOp.FinalOp}
use Rattle.query_lang.specs.declared.query.FinalOp.TheVariants as ops
use Rattle.query_lang.specs.declared.typed.PrintOf.{PrintOf}
use Rattle.query_lang.specs.declared.typed.PrintOf.TheVariants as place
use Rattle.query_lang.specs.declared.typed.TypedFinalOp.TheVariants as typed
use Rattle.query_lang.specs.declared.typing.{Earlier.Earlier, Given.Given, FoldView.FoldView, Known.Known, Meaning.Meaning}
use Rattle.query_lang.specs.declared.typing.Meaning.TheVariants as meaning
use Rattle.query_lang.specs.declared.typing.{MadeFinal.MadeFinal, TableView.TableView}
use Rattle.query_lang.specs.{Checks.{Checked, refused, and_then, must, must_not, is_among}, TypedExprs.{slot_of, condition_of}}
use Rattle.query_lang.specs.TypedStreams.{meaning_of, begun, fold_named, new_columns, no_new_columns, keys_checked, arguments_of}

-- a name that has to denote a table: a groupby or a final
abbrev pub table_at : Option TableView → Span → Checked TableView
table_at None span = refused WrongKind span
table_at (Some table) span = Ok table

abbrev pub as_table : Option Meaning → Span → Checked TableView
as_table None span = refused UnknownName span
as_table (Some (meaning.Fold f)) span = refused WrongKind span
as_table (Some (meaning.Stream stream)) span = table_at stream.table span
as_table (Some (meaning.Final table)) span = Ok table

abbrev pub table_named : List Known → Name → Checked TableView
table_named known name = as_table (meaning_of known name.id) name.span

-- the number of a table, after the number of the query's groupbys: the groupbys come first
abbrev pub table_number : ℕ → PrintOf → ℕ
table_number groups (place.Group number) = number
table_number groups (place.Final number) = groups + number

-- `5tuple` means the fields srcip, dstip, srcport, dstport and proto, which are the five from the fourth on
abbrev pub five_fields : List ℕ → List ℕ
five_fields fields = take 5 (drop 3 fields)

abbrev pub final_filter : ℕ → Earlier → Name → Expr → Checked MadeFinal
final_filter groups earlier input e =
    and_then (table_named earlier.known input) (λ source.
    and_then (condition_of source.columns [] e) (λ condition.
    Ok (record { op = typed.Filter (table_number groups source.place) condition; columns = source.columns; keys = source.keys })))

abbrev pub final_map : ℕ → Earlier → Name → List Column → Checked MadeFinal
final_map groups earlier input columns =
    and_then (table_named earlier.known input) (λ source.
    and_then (new_columns source.columns [] no_new_columns columns) (λ made.
    Ok (record {
      op = typed.Map (table_number groups source.place) made.values;
      columns = source.columns ++ made.names;
      keys = source.keys;
    })))

-- the fold of a final's groupby has no `emit`
abbrev pub quiet_fold : List Known → Name → Checked FoldView
quiet_fold known name = and_then (fold_named known name) (λ f. must_not f.emits WrongKind name.span (Ok f))

abbrev pub final_group : Given → Earlier → Name → List Key → Name → Checked MadeFinal
final_group given earlier input keys fold_name =
    and_then (table_named earlier.known input) (λ source.
    and_then (keys_checked (five_fields given.fields) source.columns [] keys) (λ picked.
    and_then (quiet_fold earlier.known fold_name) (λ f.
    and_then (arguments_of source.columns [] picked.names f fold_name.span) (λ arguments.
    Ok (record {
      op = typed.Group (table_number given.groups source.place) picked.slots f.number arguments;
      columns = picked.names ++ f.states;
      keys = length picked.names;
    })))))

-- the same names in the same order
abbrev pub same_names : List ℕ → List ℕ → Bool
same_names names others = pointwise nat_eq names others

abbrev pub key_columns : TableView → List ℕ
key_columns table = take table.keys table.columns

abbrev pub other_columns : TableView → List ℕ
other_columns table = drop table.keys table.columns

abbrev pub final_join : ℕ → Earlier → Name → Name → Checked MadeFinal
final_join groups earlier first second =
    and_then (table_named earlier.known first) (λ left.
    and_then (table_named earlier.known second) (λ right.
    must (same_names (key_columns left) (key_columns right)) WrongKind second.span (
    must_not (list_any (λ name. is_among name left.columns) (other_columns right)) NameTaken second.span (
    Ok (record {
      op = typed.Join (table_number groups left.place) (table_number groups right.place);
      columns = left.columns ++ other_columns right;
      keys = left.keys;
    })))))

abbrev pub final_top : ℕ → Earlier → Name → Name → ℕ → Span → Checked MadeFinal
final_top groups earlier input column kept span =
    and_then (table_named earlier.known input) (λ source.
    and_then (slot_of source.columns [] column) (λ slot.
    must (nat_lt 0 kept && nat_le kept 65536) BadConstant span (
    Ok (record { op = typed.Top (table_number groups source.place) slot kept; columns = source.columns; keys = source.keys }))))

-- what the final's operator makes
abbrev pub made_final : Given → Earlier → FinalOp → Checked MadeFinal
made_final given earlier (ops.Filter input e) = final_filter given.groups earlier input e
made_final given earlier (ops.Map input columns) = final_map given.groups earlier input columns
made_final given earlier (ops.Group input keys fold_name) = final_group given earlier input keys fold_name
made_final given earlier (ops.Join first second) = final_join given.groups earlier first second
made_final given earlier (ops.Top input column kept span) = final_top given.groups earlier input column kept span

-- with one more final
abbrev pub with_final : Earlier → Name → MadeFinal → Earlier
with_final earlier name made = record earlier {
  known = earlier.known ++ record {
    name = name.id;
    meaning = meaning.Final (record { place = place.Final (length earlier.finals); columns = made.columns; keys = made.keys });
  } ∷ [];
  finals = earlier.finals ++ record { name = name; columns = made.columns; keys = made.keys; op = made.op } ∷ [];
}

abbrev pub final_checked : Given → Earlier → FinalDef → Checked Earlier
final_checked given earlier d =
    and_then (begun earlier d.name) (λ _. and_then (made_final given earlier d.op) (λ made. Ok (with_final earlier d.name made)))
