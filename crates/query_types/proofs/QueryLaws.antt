-- What the check of a query gives is valid.
use Rattle.std.proofs.Common.{◌≡◌, ℕ, ◌+◌, ◌<◌, ◌^◌, cond, List, [], ◌∷◌, ◌++◌, length, map, count_by, Some, Ok, refl, ap, ◌∙◌, arith}
use Rattle.std.proofs.lemmas.{Option.slice_get_within, List.{length-append, length-map, Sums.sum_by-cons}}
use Rattle.std.{proofs.lemmas.List.Elements.{All-push, All-head, All-tail}, specs.{Prelude.{is_some, slice_get}, List.All}}
use Rattle.query_lang.specs.declared.{fold.TypedFold.TypedFold, query.{Item.Item, Name.Name, StreamOp.StreamOp}, typed.PrintOf.PrintOf}
use Rattle.query_lang.specs.declared.{typed.{TypedFinal.TypedFinal, TypedStream.TypedStream}, typing.{Earlier.Earlier, FoldView.FoldView}}
use Rattle.query_lang.specs.declared.typing.{Given.Given, MadeFinal.MadeFinal, MadeStream.MadeStream, StreamView.StreamView}
use Rattle.query_lang.specs.{declared.typing.TableView.TableView, Limits.{HasKeys, KeepsLimits, IsNumbered}, Streams.takings}
use Rattle.query_lang.specs.{TypedFinals.{five_fields, with_final}, TypedStreams.{begun, column_names, next_stream, with_stream}}
use Rattle.query_lang.specs.TypedQueries.{HasNames, shapes, group_shape, final_shape}
use Rattle.query_lang.specs.Typing.{with_fold, items_checked, is_group, is_groupby}
use Rattle.query_types.{specs.Numbers.{greatest_of, item_number}, proofs.ExprLaws.{from_ok, same_ok, found_first}}
use Rattle.query_types.proofs.ItemLaws.{Standing, item_stands, fold_named_well}
use Rattle.query_types.proofs.ViewLaws.{Whole, IsTable, IsFold, IsStream, known_more, table_shape, table_known, get_next}
use Rattle.query_types.proofs.{MadeLaws.{IsPart, IsMade, made_valid}, FinalLaws.{IsMadeFinal, final_valid}, WholeLaws.{IsPrinted, Sound}}
use Rattle.query_types.proofs.WholeLaws.{streams_push, finals_push, get_map, past, item_part, items_part, made_table, next_width}
use Rattle.query_types.proofs.Makings.{StreamMade, filters, maps, zips, groups, ItemMade, fold_item, stream_item, final_item, print_item}
use Rattle.query_types.proofs.Makings.{item_made}
use Rattle.query_lang.specs.declared.typed.PrintOf.TheVariants as place
use Rattle.query_lang.specs.declared.typing.Meaning.TheVariants as meaning

-- a table that was looked up is printed
printed : (w : Whole) (finals : ℕ) (t : TableView) → IsTable w finals t → IsPrinted w t.place
printed w finals t v = go t.place v.shape
  where
    go : (p : PrintOf) → table_shape w p ≡ Some (record { width = length t.columns; keys = t.keys }) → IsPrinted w p
    go (place.Group number) is = omega (
      arith,
      slice_get_within (map (group_shape w.folds) (takings w.streams)) number
          (record { width = length t.columns; keys = t.keys }) is,
      length-map (takings w.streams) (group_shape w.folds),
    )
    go (place.Final number) is = omega (
      arith,
      slice_get_within (map final_shape w.finals) number
          (record { width = length t.columns; keys = t.keys }) is,
      length-map w.finals final_shape,
    )

fold_sound : (w : Whole) (e : Earlier) (f : TypedFold) → Sound w e → IsPart w (with_fold e f) → Standing w.names (with_fold e f)
    → HasNames w.names f → Sound w (with_fold e f)
fold_sound w e f s part base ids =
    let view : FoldView = record { number = length e.folds; states = f.state_names; args = f.arg_names; emits = is_some f.emit } in
    let is = past w.folds e.folds part.later_folds f part.folds in
    let v : IsFold w view = record {
      one = f;
      is = ap (λ (l : List TypedFold). slice_get l (length e.folds)) is ∙ get_next e.folds part.later_folds f;
      states = refl;
      args = refl;
      emits = refl;
      names = ids.states;
    } in
    record {
      base = base;
      known = known_more w (length e.streams) (length e.streams) (length e.finals) (length e.finals) e.known
          (record { name = f.name.id; meaning = meaning.Fold view }) (omega arith) (omega arith) s.known v;
      streams = s.streams;
      finals = s.finals;
      prints = s.prints;
    }

stream_sound : (w : Whole) (e : Earlier) (name : Name) (made : MadeStream) → Sound w e → IsPart w (with_stream e name made)
    → Standing w.names (with_stream e name made) → name.id < w.names → IsMade w e made
    → Sound w (with_stream e name made)
stream_sound w e name made s part base id v =
    let one : TypedStream = record { name = name; columns = column_names made.columns; op = made.op } in
    let view : StreamView = record { number = next_stream e; columns = made.columns; hidden = made.hidden; table = made.table } in
    let is = past w.streams e.streams part.later_streams one part.streams in
    let more : length (e.streams ++ one ∷ []) ≡ length e.streams + 1 = length-append e.streams (one ∷ []) in
    let is_stream : IsStream w (length (e.streams ++ one ∷ [])) (length e.finals) view = record {
      number = omega (arith, more);
      width = next_width e.streams part.later_streams one w.streams is;
      names = v.names;
      table = made_table w e part.later_streams one (length e.finals) made.table is s.base.groups v.table;
    } in
    record {
      base = base;
      known = known_more w (length e.streams) (length (e.streams ++ one ∷ [])) (length e.finals) (length e.finals) e.known
          (record { name = name.id; meaning = meaning.Stream view }) (omega (arith, more)) (omega arith) s.known is_stream;
      streams = streams_push w.names w.folds [] e.streams one s.streams (record { name = id; columns = v.names; operator = v.operator });
      finals = s.finals;
      prints = s.prints;
    }

final_sound : (w : Whole) (e : Earlier) (name : Name) (made : MadeFinal) → Sound w e → IsPart w (with_final e name made)
    → Standing w.names (with_final e name made) → name.id < w.names → IsMadeFinal w e made
    → Sound w (with_final e name made)
final_sound w e name made s part base id v =
    let one : TypedFinal = record { name = name; columns = made.columns; keys = made.keys; op = made.op } in
    let view : TableView = record { place = place.Final (length e.finals); columns = made.columns; keys = made.keys } in
    let is = past w.finals e.finals part.later_finals one part.finals in
    let more : length (e.finals ++ one ∷ []) ≡ length e.finals + 1 = length-append e.finals (one ∷ []) in
    let is_table : IsTable w (length (e.finals ++ one ∷ [])) view = record {
      shape = get_map final_shape w.finals (length e.finals) one (ap (λ (l : List TypedFinal). slice_get l (length e.finals)) is
          ∙ get_next e.finals part.later_finals one);
      names = v.names;
      keys = v.keys;
      below = omega (arith, more);
    } in
    record {
      base = base;
      known = known_more w (length e.streams) (length e.streams) (length e.finals) (length (e.finals ++ one ∷ [])) e.known
          (record { name = name.id; meaning = meaning.Final view }) (omega arith) (omega (arith, more)) s.known is_table;
      streams = s.streams;
      finals = finals_push w.names w.folds (shapes w.folds w.streams []) e.finals one s.finals
          (record { name = id; columns = v.names; keys = v.keys; operator = v.operator });
      prints = s.prints;
    }

item_sound : {w : Whole} {given : Given} {e after : Earlier} {one : Item} → length (takings w.streams) ≡ w.groups → given.groups ≡ w.groups
    → KeepsLimits one → IsNumbered w.names one → (0 < length (five_fields given.fields)) × HasKeys one → item_number one < 2 ^ 64
    → Sound w e → ItemMade given e one after → IsPart w after → Standing w.names after → Sound w after
item_sound {w} {e = e} count same limits numbered some words s (fold_item f free is) part base =
    fold_sound w e f s part base (fold_named_well w.names numbered is)
item_sound {w} {given} {e} count same limits numbered some words s (stream_item {d} made begun is) part base =
    let v = made_valid (item_part {given = given} (stream_item made begun is) part) s.known limits numbered.1 some words is in
    stream_sound w e d.name made s part base numbered.0 v
item_sound {w} {given} {e} count same limits numbered some words s (final_item {d} made begun is) part base =
    let v = final_valid (item_part {given = given} (final_item made begun is) part) count s.known limits numbered.1 some words
    (rw same at is) in
    final_sound w e d.name made s part base numbered.0 v
item_sound {w} {e = e} count same limits numbered some words s (print_item {name} table is_table new) part base = record {
  base = base;
  known = s.known;
  streams = s.streams;
  finals = s.finals;
  prints = All-push (IsPrinted w) e.prints table.place s.prints
      (printed w (length e.finals) table (table_known w _ _ e.known name table s.known is_table));
}

pub items_sound : (w : Whole) (given : Given) (items : List Item) (e after : Earlier) → length (takings w.streams) ≡ w.groups
    → given.groups ≡ w.groups → All KeepsLimits items → All (IsNumbered w.names) items → 0 < length (five_fields given.fields)
    → All HasKeys items
    → greatest_of (map item_number items) < 2 ^ 64 → Sound w e → items_checked given e items ≡ Ok after → IsPart w after → Sound w after
items_sound w given [] e after count same limits numbered five keys words s h part = from_ok (Sound w) h s
items_sound w given (one ∷ rest) e after count same limits numbered five keys words s h part =
    let first = found_first _ _ _ h in
    let half = items_part w given rest first.0 after first.2 part in
    let made = item_made given e first.0 one first.1 in
    let keeps = All-head KeepsLimits one rest limits in
    let named = All-head (IsNumbered w.names) one rest numbered in
    let base = item_stands w.names keeps named (omega arith) s.base made in
    items_sound w given rest first.0 after count same (All-tail KeepsLimits one rest limits)
    (All-tail (IsNumbered w.names) one rest numbered) five (All-tail HasKeys one rest keys) (omega arith)
    (item_sound count same keeps named (five, All-head HasKeys one rest keys) (omega arith) s made half base) first.2 part

-- the streams with tables are the groupbys
group_made : {five : List ℕ} {e : Earlier} {op : StreamOp} {made : MadeStream} → StreamMade five e op made
    → is_some made.table ≡ is_group op
group_made (filters source condition is_source is_condition) = refl
group_made (maps source new is_source is_new) = refl
group_made (zips left right is_left is_right free) = refl
group_made (groups source picked f arguments room is_source is_picked is_f are) = refl

item_counts : {given : Given} {e after : Earlier} {one : Item} → ItemMade given e one after
    → after.groups ≡ e.groups + cond (is_groupby one) 1 0
item_counts (fold_item f free is) = omega arith
item_counts {e = e} (stream_item made begun is) = ap (λ b. e.groups + cond b 1 0) (group_made is)
item_counts (final_item made begun is) = omega arith
item_counts (print_item table is_table new) = omega arith

pub items_count : (given : Given) (items : List Item) (e after : Earlier) → items_checked given e items ≡ Ok after → after.groups ≡ e.groups
    + count_by is_groupby items
items_count given [] e after h = let same = ap (λ (z : Earlier). z.groups) (same_ok _ _ h) in omega (arith, same)
items_count given (one ∷ rest) e after h =
    let first = found_first _ _ _ h in
    let head = item_counts (item_made given e first.0 one first.1) in
    let tail = items_count given rest first.0 after first.2 in
    let all = sum_by-cons (λ x. cond (is_groupby x) 1 0) one rest in
    omega (arith, head, tail, all)
