-- What the checks of an operator, of a fold and of an item find on the way, and what they make of it.
use Rattle.std.proofs.Common.{◌≡◌, ℕ, ◌+◌, ◌<◌, ◌≤◌, Bool, true, false, ◌&&◌, List, [], ◌∷◌, ◌++◌, length, map, Some, None, Ok, nat_lt}
use Rattle.std.{proofs.{Common.{nat_le, refl}, lemmas.Bool.{ltb-true, leb-true}}, specs.{Prelude.is_some, List.list_any}}
use Rattle.query_lang.specs.declared.{fold.{TypedExpr.TypedExpr, TypedFold.TypedFold}, fault.Span.Span, query.{Column.Column, Expr.Expr}}
use Rattle.query_lang.specs.declared.query.{FinalDef.FinalDef, FinalOp.FinalOp, FoldDef.FoldDef, Item.Item, Key.Key, Name.Name}
use Rattle.query_lang.specs.declared.{query.{StreamDef.StreamDef, StreamOp.StreamOp}, typing.{Body.Body, Earlier.Earlier}}
use Rattle.query_lang.specs.declared.typing.{FoldView.FoldView, Given.Given, MadeFinal.MadeFinal, MadeStream.MadeStream}
use Rattle.query_lang.specs.declared.typing.{NewColumns.NewColumns, Picked.Picked, StreamView.StreamView, TableView.TableView}
use Rattle.query_lang.specs.{declared.fault.TheConstants.{MAX_BINDINGS, MAX_GROUPBYS}, Checks.is_among, TypedExprs.{slot_of, condition_of}}
use Rattle.query_lang.specs.Typing.{with_fold, item_checked}
use Rattle.query_lang.specs.TypedFolds.{states_from, args_from, body_checked, fold_with, fold_checked}
use Rattle.query_lang.specs.TypedStreams.{meaning_of, begun, stream_named, fold_named, column_names, new_columns, no_new_columns, clash}
use Rattle.query_lang.specs.TypedStreams.{others_from, columns_at, keys_checked, arguments_of, next_stream, made_stream, with_stream}
use Rattle.query_lang.specs.TypedFinals.{table_named, table_number, five_fields, quiet_fold, same_names, key_columns, other_columns}
use Rattle.query_lang.specs.TypedFinals.{made_final, with_final}
use Rattle.query_types.proofs.{ExprLaws.{from_ok, found_first, must_ok}, BodyLaws.must_not_ok}
use Rattle.query_lang.specs.declared.query.FinalOp.TheVariants as final_ops
use Rattle.query_lang.specs.declared.query.Item.TheVariants as item
use Rattle.query_lang.specs.declared.query.StreamOp.TheVariants as ops
use Rattle.query_lang.specs.declared.typed.PrintOf.TheVariants as place
use Rattle.query_lang.specs.declared.typed.TypedFinalOp.TheVariants as typed_final
use Rattle.query_lang.specs.declared.typed.TypedOp.TheVariants as typed
use Rattle.query_lang.specs.declared.typing.Origin.TheVariants as origin

-- ---- operators

pub data StreamMade (five : List ℕ) (e : Earlier) : StreamOp → MadeStream → Type 0 where
  filters : {input : Name} {c : Expr} (source : StreamView) (condition : TypedExpr) → stream_named e.known input ≡ Ok source
      → condition_of (column_names source.columns) source.hidden c ≡ Ok condition
      → StreamMade five e (ops.Filter input c)
      (record { op = typed.Filter source.number condition; columns = source.columns; hidden = source.hidden; table = None })
  maps : {input : Name} {columns : List Column} (source : StreamView) (new : NewColumns) → stream_named e.known input ≡ Ok source
      → new_columns (column_names source.columns) source.hidden no_new_columns columns ≡ Ok new
      → StreamMade five e (ops.Map input columns) (record {
        op = typed.Map source.number new.values;
        columns = source.columns ++ map (λ name. record { name = name; origin = origin.Map (next_stream e) }) new.names;
        hidden = source.hidden;
        table = None;
      })
  zips : {first second : Name} (left right : StreamView) → stream_named e.known first ≡ Ok left → stream_named e.known second ≡ Ok right
      → clash left.columns right.columns ≡ false
      → StreamMade five e (ops.Zip first second) (record {
        op = typed.Zip left.number right.number (others_from 0 (column_names left.columns) right.columns);
        columns = left.columns ++ columns_at right.columns (others_from 0 (column_names left.columns) right.columns);
        hidden = left.hidden ++ right.hidden;
        table = None;
      })
  groups : {input : Name} {keys : List Key} {fold_name : Name} (source : StreamView) (picked : Picked) (f : FoldView) (arguments : List ℕ)
      → e.groups < MAX_GROUPBYS → stream_named e.known input ≡ Ok source
      → keys_checked five (column_names source.columns) source.hidden keys ≡ Ok picked → fold_named e.known fold_name ≡ Ok f
      → arguments_of (column_names source.columns) source.hidden picked.names f fold_name.span ≡ Ok arguments
      → StreamMade five e (ops.Group input keys fold_name) (record {
        op = typed.Group source.number picked.slots f.number arguments;
        columns = columns_at source.columns picked.slots;
        hidden = f.states;
        table = Some (record { place = place.Group e.groups; columns = picked.names ++ f.states; keys = length picked.names });
      })

pub stream_made : (five : List ℕ) (e : Earlier) (name : Name) (op : StreamOp) (made : MadeStream) → made_stream five e name op ≡ Ok made
    → StreamMade five e op made
stream_made five e name (ops.Filter input c) made h =
    let source = found_first _ _ _ h in
    let condition = found_first _ _ _ source.2 in
    from_ok (StreamMade five e _) condition.2 (filters source.0 condition.0 source.1 condition.1)
stream_made five e name (ops.Map input columns) made h =
    let source = found_first _ _ _ h in
    let new = found_first _ _ _ source.2 in
    from_ok (StreamMade five e _) new.2 (maps source.0 new.0 source.1 new.1)
stream_made five e name (ops.Zip first second) made h =
    let left = found_first _ _ _ h in
    let right = found_first _ _ _ left.2 in
    let free = must_not_ok _ _ _ _ _ right.2 in
    from_ok (StreamMade five e _) free.1 (zips left.0 right.0 left.1 right.1 free.0)
stream_made five e name (ops.Group input keys fold_name) made h =
    let room = must_ok _ _ _ _ _ h in
    let source = found_first _ _ _ room.1 in
    let picked = found_first _ _ _ source.2 in
    let f = found_first _ _ _ picked.2 in
    let arguments = found_first _ _ _ f.2 in
    from_ok (StreamMade five e _) arguments.2
    (groups source.0 picked.0 f.0 arguments.0 (ltb-true _ _ room.0) source.1 picked.1 f.1 arguments.1)

-- (that many groupbys are before the finals)
pub data FinalMade (groupbys : ℕ) (five : List ℕ) (e : Earlier) : FinalOp → MadeFinal → Type 0 where
  final_filters : {input : Name} {c : Expr} (source : TableView) (condition : TypedExpr) → table_named e.known input ≡ Ok source
      → condition_of source.columns [] c ≡ Ok condition
      → FinalMade groupbys five e (final_ops.Filter input c) (record {
        op = typed_final.Filter (table_number groupbys source.place) condition;
        columns = source.columns;
        keys = source.keys;
      })
  final_maps : {input : Name} {columns : List Column} (source : TableView) (new : NewColumns) → table_named e.known input ≡ Ok source
      → new_columns source.columns [] no_new_columns columns ≡ Ok new
      → FinalMade groupbys five e (final_ops.Map input columns) (record {
        op = typed_final.Map (table_number groupbys source.place) new.values;
        columns = source.columns ++ new.names;
        keys = source.keys;
      })
  final_groups : {input : Name} {keys : List Key} {fold_name : Name} (source : TableView) (picked : Picked) (f : FoldView)
      (arguments : List ℕ)
      → table_named e.known input ≡ Ok source → keys_checked five source.columns [] keys ≡ Ok picked
      → quiet_fold e.known fold_name ≡ Ok f → arguments_of source.columns [] picked.names f fold_name.span ≡ Ok arguments
      → FinalMade groupbys five e (final_ops.Group input keys fold_name) (record {
        op = typed_final.Group (table_number groupbys source.place) picked.slots f.number arguments;
        columns = picked.names ++ f.states;
        keys = length picked.names;
      })
  final_joins : {first second : Name} (left right : TableView) → table_named e.known first ≡ Ok left → table_named e.known second ≡ Ok right
      → same_names (key_columns left) (key_columns right) ≡ true
      → list_any (λ name. is_among name left.columns) (other_columns right) ≡ false
      → FinalMade groupbys five e (final_ops.Join first second) (record {
        op = typed_final.Join (table_number groupbys left.place) (table_number groupbys right.place);
        columns = left.columns ++ other_columns right;
        keys = left.keys;
      })
  final_tops : {input column : Name} {kept : ℕ} {span : Span} (source : TableView) (slot : ℕ) → table_named e.known input ≡ Ok source
      → slot_of source.columns [] column ≡ Ok slot → 0 < kept → kept ≤ 65536
      → FinalMade groupbys five e (final_ops.Top input column kept span) (record {
        op = typed_final.Top (table_number groupbys source.place) slot kept;
        columns = source.columns;
        keys = source.keys;
      })

pub both_true : (a b : Bool) → (a && b) ≡ true → (a ≡ true) × (b ≡ true)
both_true true b e = (refl, e)
both_true false b e = cc e

pub final_made : (given : Given) (e : Earlier) (op : FinalOp) (made : MadeFinal) → made_final given e op ≡ Ok made
    → FinalMade given.groups (five_fields given.fields) e op made
final_made given e (final_ops.Filter input c) made h =
    let source = found_first _ _ _ h in
    let condition = found_first _ _ _ source.2 in
    from_ok (FinalMade _ _ e _) condition.2 (final_filters source.0 condition.0 source.1 condition.1)
final_made given e (final_ops.Map input columns) made h =
    let source = found_first _ _ _ h in
    let new = found_first _ _ _ source.2 in
    from_ok (FinalMade _ _ e _) new.2 (final_maps source.0 new.0 source.1 new.1)
final_made given e (final_ops.Group input keys fold_name) made h =
    let source = found_first _ _ _ h in
    let picked = found_first _ _ _ source.2 in
    let f = found_first _ _ _ picked.2 in
    let arguments = found_first _ _ _ f.2 in
    from_ok (FinalMade _ _ e _) arguments.2 (final_groups source.0 picked.0 f.0 arguments.0 source.1 picked.1 f.1 arguments.1)
final_made given e (final_ops.Join first second) made h =
    let left = found_first _ _ _ h in
    let right = found_first _ _ _ left.2 in
    let equal = must_ok _ _ _ _ _ right.2 in
    let free = must_not_ok _ _ _ _ _ equal.1 in
    from_ok (FinalMade _ _ e _) free.1 (final_joins left.0 right.0 left.1 right.1 equal.0 free.0)
final_made given e (final_ops.Top input column kept span) made h =
    let source = found_first _ _ _ h in
    let slot = found_first _ _ _ source.2 in
    let test = must_ok _ _ _ _ _ slot.2 in
    let both = both_true (nat_lt 0 kept) (nat_le kept 65536) test.0 in
    from_ok (FinalMade _ _ e _) test.1 (final_tops source.0 slot.0 source.1 slot.1 (ltb-true _ _ both.0) (leb-true _ _ both.1))

-- ---- folds

pub data FoldMade (d : FoldDef) : TypedFold → Type 0 where
  folded : (states args : List ℕ) (body : Body) → states_from [] d.states ≡ Ok states → args_from states [] d.args ≡ Ok args
      → body_checked states args d.body ≡ Ok body
      → FoldMade d (fold_with d states args body)

pub fold_made : (d : FoldDef) (f : TypedFold) → fold_checked d ≡ Ok f → FoldMade d f
fold_made d f h =
    let states = found_first _ _ _ h in
    let args = found_first _ _ _ states.2 in
    let body = found_first _ _ _ args.2 in
    from_ok (FoldMade d) body.2 (folded states.0 args.0 body.0 states.1 args.1 body.1)

-- ---- items

-- a name is free and there is room for one more stream or final
pub record IsBegun (e : Earlier) (name : Name) : Type 0 where
  pub free : is_some (meaning_of e.known name.id) ≡ false
  pub room : length e.streams + length e.finals < MAX_BINDINGS

pub data ItemMade (given : Given) (e : Earlier) : Item → Earlier → Type 0 where
  fold_item : {d : FoldDef} (f : TypedFold) → is_some (meaning_of e.known d.name.id) ≡ false → FoldMade d f
      → ItemMade given e (item.Fold d) (with_fold e f)
  stream_item : {d : StreamDef} (made : MadeStream) → IsBegun e d.name → StreamMade (five_fields given.fields) e d.op made
      → ItemMade given e (item.Stream d) (with_stream e d.name made)
  final_item : {d : FinalDef} (made : MadeFinal) → IsBegun e d.name → FinalMade given.groups (five_fields given.fields) e d.op made
      → ItemMade given e (item.Final d) (with_final e d.name made)
  print_item : {name : Name} (table : TableView) → table_named e.known name ≡ Ok table → is_among name.id e.printed ≡ false
      → ItemMade given e (item.Print name)
      (record e { prints = e.prints ++ table.place ∷ []; printed = e.printed ++ name.id ∷ [] })

is_begun : (e : Earlier) (name : Name) → begun e name ≡ Ok tt → IsBegun e name
is_begun e name h =
    let free = must_not_ok _ _ _ _ _ h in
    let room = must_ok _ _ _ _ _ free.1 in
    record { free = free.0; room = ltb-true _ _ room.0 }

pub item_made : (given : Given) (e after : Earlier) (one : Item) → item_checked given e one ≡ Ok after → ItemMade given e one after
item_made given e after (item.Fold d) h =
    let free = must_not_ok _ _ _ _ _ h in
    let f = found_first _ _ _ free.1 in
    from_ok (ItemMade given e _) f.2 (fold_item f.0 free.0 (fold_made d f.0 f.1))
item_made given e after (item.Stream d) h =
    let begins = found_first _ _ _ h in
    let made = found_first _ _ _ begins.2 in
    from_ok (ItemMade given e _) made.2
    (stream_item made.0 (is_begun e d.name begins.1) (stream_made (five_fields given.fields) e d.name d.op made.0 made.1))
item_made given e after (item.Final d) h =
    let begins = found_first _ _ _ h in
    let made = found_first _ _ _ begins.2 in
    from_ok (ItemMade given e _) made.2 (final_item made.0 (is_begun e d.name begins.1) (final_made given e d.op made.0 made.1))
item_made given e after (item.Print name) h =
    let table = found_first _ _ _ h in
    let new = must_not_ok _ _ _ _ _ table.2 in
    from_ok (ItemMade given e _) new.1 (print_item table.0 table.1 new.0)
