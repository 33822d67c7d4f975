-- The columns of an earlier table have slots, it has an early number, and its keys come before its fold's arguments.
use Rattle.std.proofs.Common.{◌≡◌, ◌++◌, ℕ, List, [], length, Ok, refl}
use Rattle.query_lang.specs.declared.query.{Key.Key, Name.Name}
use Rattle.query_lang.specs.declared.typed.TypedFinalOp.TheVariants as typed
use Rattle.query_lang.specs.declared.typing.{Earlier.Earlier, FoldView.FoldView, Given.Given, Picked.Picked, TableView.TableView}
use Rattle.query_lang.specs.{Checks.and_then, TypedStreams.{keys_checked, arguments_of}}
use Rattle.query_lang.specs.TypedFinals.{five_fields, table_named, table_number, quiet_fold, final_group}
use Rattle.query_types.proofs.{CheckLemmas.{stops, goes_on}, NamedFits.{table_narrow, table_early}}
use Rattle.query_types.proofs.finals.check_group.Goals as goal

pub number_of_table-number-requires-clause-place : goal.number_of_table-number-requires-clause-place
number_of_table-number-requires-clause-place c =
    table_early c.args.earlier.now c.args.input c.in_ok-source.source.now c.requires.fits c.in_ok-source.ensures

pub check_keys-requires : goal.check_keys-requires
check_keys-requires c = rw c.as_slice-columns.ensures
    (table_narrow c.args.earlier.now c.args.input c.in_ok-source.source.now c.requires.fits c.in_ok-source.ensures)

pub check_arguments-requires : goal.check_arguments-requires
check_arguments-requires c = rw c.as_slice-columns.ensures
    (table_narrow c.args.earlier.now c.args.input c.in_ok-source.source.now c.requires.fits c.in_ok-source.ensures)

module _ (given : Given) (earlier : Earlier) (input : Name) (keys : List Key) (name : Name) {source : TableView} {five columns : List ℕ}
    (found : table_named earlier.known input ≡ Ok source) (e5 : five ≡ five_fields given.fields) (same : columns ≡ source.columns) where
  keys_are : final_group given earlier input keys name ≡ and_then (keys_checked five columns [] keys) (λ picked.
      and_then (quiet_fold earlier.known name) (λ f. and_then (arguments_of source.columns [] picked.names f name.span) (λ arguments.
      Ok (record {
        op = typed.Group (table_number given.groups source.place) picked.slots f.number arguments;
        columns = picked.names ++ f.states;
        keys = length picked.names;
      }))))
  keys_are = rw (found, e5, same) refl

  arguments_are : {picked : Picked} {f : FoldView} {names : List ℕ} → keys_checked five columns [] keys ≡ Ok picked
      → quiet_fold earlier.known name ≡ Ok f → names ≡ picked.names
      → final_group given earlier input keys name ≡ and_then (arguments_of columns [] names f name.span) (λ arguments.
      Ok (record {
        op = typed.Group (table_number given.groups source.place) picked.slots f.number arguments;
        columns = picked.names ++ f.states;
        keys = length picked.names;
      }))
  arguments_are ek ef en = rw (keys_are, ek, ef, en, same) refl

pub returns-in_err-picked : goal.returns-in_err-picked
returns-in_err-picked c =
    stops _ _ (keys_are c.args.given.now c.args.earlier.now c.args.input c.args.keys.now c.args.fold_name c.in_ok-source.ensures
    c.five_of.ensures c.as_slice-columns.ensures) _ _ c.from_residual-in_err-picked.ensures.1 c.in_err-picked.ensures.given

pub returns-in_err-arguments : goal.returns-in_err-arguments
returns-in_err-arguments c =
    stops _ _ (arguments_are c.args.given.now c.args.earlier.now c.args.input c.args.keys.now c.args.fold_name c.in_ok-source.ensures
    c.five_of.ensures c.as_slice-columns.ensures c.in_ok-picked.ensures.given c.in_ok-f.ensures c.as_slice-names.ensures) _ _
    c.from_residual-in_err-arguments.ensures.1 c.in_err-arguments.ensures

pub returns : goal.returns
returns c =
    goes_on _ _ (arguments_are c.args.given.now c.args.earlier.now c.args.input c.args.keys.now c.args.fold_name c.in_ok-source.ensures
    c.five_of.ensures c.as_slice-columns.ensures c.in_ok-picked.ensures.given c.in_ok-f.ensures c.as_slice-names.ensures) _
    c.in_ok-arguments.ensures (rw c.number_of_table-number.ensures at c.made_group.ensures)
