-- The columns of an earlier table have slots, and it has an early number.
use Rattle.std.proofs.Common.{◌≡◌, ℕ, List, [], Ok, refl}
use Rattle.query_lang.specs.declared.{query.{Expr.Expr, Name.Name}, typing.{Earlier.Earlier, TableView.TableView}}
use Rattle.query_lang.specs.declared.typed.TypedFinalOp.TheVariants as typed
use Rattle.query_lang.specs.{Checks.and_then, TypedExprs.condition_of, TypedFinals.{table_named, table_number, final_filter}}
use Rattle.query_types.proofs.{CheckLemmas.{stops, goes_on}, NamedFits.{table_narrow, table_early}}
use Rattle.query_types.proofs.finals.check_filter.Goals as goal

pub check_condition-requires : goal.check_condition-requires
check_condition-requires c = rw c.as_slice.ensures
    (table_narrow c.args.earlier.now c.args.input c.in_ok-source.source.now c.requires.fits c.in_ok-source.ensures)

pub number_of_table-number-requires-clause-place : goal.number_of_table-number-requires-clause-place
number_of_table-number-requires-clause-place c =
    table_early c.args.earlier.now c.args.input c.in_ok-source.source.now c.requires.fits c.in_ok-source.ensures

filter_is : (groups : ℕ) (earlier : Earlier) (input : Name) (e : Expr) {source : TableView} {columns : List ℕ}
    → table_named earlier.known input ≡ Ok source → columns ≡ source.columns
    → final_filter groups earlier input e ≡ and_then (condition_of columns [] e) (λ condition.
    Ok (record { op = typed.Filter (table_number groups source.place) condition; columns = source.columns; keys = source.keys }))
filter_is groups earlier input e found same = rw (found, same) refl

pub returns-in_err-condition-clause-given : goal.returns-in_err-condition-clause-given
returns-in_err-condition-clause-given c =
    stops _ _ (filter_is c.args.groups c.args.earlier.now c.args.input c.args.e.now c.in_ok-source.ensures c.as_slice.ensures) _ _
    c.from_residual-in_err-condition.ensures.1 c.in_err-condition.ensures.given

pub returns-clause-given : goal.returns-clause-given
returns-clause-given c =
    goes_on _ _ (filter_is c.args.groups c.args.earlier.now c.args.input c.args.e.now c.in_ok-source.ensures c.as_slice.ensures) _
    c.in_ok-condition.ensures.given (rw c.number_of_table-number.ensures at c.with_same_columns.ensures)
