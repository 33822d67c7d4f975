-- What a stream's operator makes is valid after the streams before it, in the whole query.
use Rattle.std.proofs.Common.{◌≡◌, ℕ, ◌<◌, ◌≤◌, ◌^◌, List, [], ◌∷◌, ◌++◌, length, map, flat_map, Option, Some, None, Ok, refl, sym, ap}
use Rattle.std.proofs.{Common.{subst, ◌∙◌, arith}, lemmas.List.{length-append, length-map, map-append, Elements.All-append}}
use Rattle.query_lang.specs.declared.{query.{Name.Name, StreamOp.StreamOp}, fold.TypedFold.TypedFold, typed.TypedFinal.TypedFinal}
use Rattle.query_lang.specs.declared.{typed.{TypedOp.TypedOp, TypedStream.TypedStream}, typing.{Earlier.Earlier, MadeStream.MadeStream}}
use Rattle.query_lang.specs.declared.typing.{Origin.Origin, StreamColumn.StreamColumn, StreamView.StreamView, TableView.TableView}
use Rattle.query_lang.specs.{declared.fault.TheConstants.MAX_NODES, Limits.{stream_nodes, HasStreamKeys, IsNumberedStream}}
use Rattle.query_lang.specs.Streams.{Taking, taking_of}
use Rattle.query_lang.specs.TypedStreams.{stream_named, column_names, no_new_columns, others_from, columns_at, key_names, next_stream}
use Rattle.query_lang.specs.TypedQueries.{AreNames, AreSlots, IsValidOp, group_shape, stream_width}
use Rattle.query_types.{specs.Numbers.stream_number, proofs.ExprLaws.condition_valid}
use Rattle.query_types.proofs.{ViewLaws.{Whole, IsStream, AreKnown, stream_known, fold_known, width_front}, StreamLaws.condition_fits}
use Rattle.query_types.proofs.StreamLaws.{new_valid, keys_valid, picked_some, arguments_valid, group_valid, group_is, others_valid}
use Rattle.query_types.proofs.{StreamLaws.{picked_valid, none_new, none_picked}, Makings.{StreamMade, filters, maps, zips, groups}}
use Rattle.query_lang.specs.declared.typed.PrintOf.TheVariants as place
use Rattle.query_lang.specs.declared.typing.Origin.TheVariants as origins

abbrev pub IsName : ℕ → ℕ → Type 0
IsName names id = id < names

-- what earlier items give is the first part of the whole query
pub record IsPart (w : Whole) (e : Earlier) : Type 0 where
  pub later_folds : List TypedFold
  pub folds : w.folds ≡ e.folds ++ later_folds
  pub later_streams : List TypedStream
  pub streams : w.streams ≡ e.streams ++ later_streams
  pub later_finals : List TypedFinal
  pub finals : w.finals ≡ e.finals ++ later_finals

abbrev pub IsMadeTable : Whole → Earlier → TypedOp → Option TableView → Type 0
IsMadeTable w e op None = taking_of op ≡ None
IsMadeTable w e op (Some t) =
    (one : Taking) × (taking_of op ≡ Some one) × (group_shape w.folds one ≡ record { width = length t.columns; keys = t.keys })
    × AreNames w.names t.columns × (t.keys ≤ length t.columns) × (t.place ≡ place.Group e.groups)

pub record IsMade (w : Whole) (e : Earlier) (made : MadeStream) : Type 0 where
  pub operator : IsValidOp w.folds e.streams (length (column_names made.columns)) made.op
  pub names : AreNames w.names (column_names made.columns)
  pub table : IsMadeTable w e made.op made.table

pub names_of_made : (origin : Origin) (names : List ℕ) → column_names (map (λ name. record { name = name; origin = origin }) names) ≡ names
names_of_made origin [] = refl
names_of_made origin (name ∷ rest) = ap (λ l. name ∷ l) (names_of_made origin rest)

pub names_append : (a b : List StreamColumn) → column_names (a ++ b) ≡ column_names a ++ column_names b
names_append a b = map-append (λ (column : StreamColumn). column.name) a b

-- the names of a `map`'s columns
pub columns_made : (e : Earlier) (columns : List StreamColumn) (names : List ℕ) → column_names (columns
    ++ map (λ name. record { name = name; origin = origins.Map (next_stream e) }) names) ≡ column_names columns ++ names
columns_made e columns names = names_append columns (map (λ name. record { name = name; origin = origins.Map (next_stream e) }) names)
    ∙ ap (λ l. column_names columns ++ l) (names_of_made (origins.Map (next_stream e)) names)

columns_length : (columns : List StreamColumn) → length (column_names columns) ≡ length columns
columns_length columns = simp length-map

module _ {w : Whole} {e : Earlier} (part : IsPart w e) (known : AreKnown w (length e.streams) (length e.finals) e.known) where
  -- a stream that was looked up is among those before, and as wide
  source_known : (name : Name) (s : StreamView) → stream_named e.known name ≡ Ok s
      → IsStream w (length e.streams) (length e.finals) s × (stream_width e.streams s.number ≡ length (column_names s.columns))
  source_known name s is =
      let v = stream_known w _ _ e.known name s known is in (
        v,
        sym (width_front e.streams part.later_streams s.number v.number) ∙ ap (λ (l : List TypedStream). stream_width l s.number)
            (sym part.streams) ∙ v.width,
      )

  pub made_valid : {five : List ℕ} {op : StreamOp} {made : MadeStream} → stream_nodes op ≤ MAX_NODES → IsNumberedStream w.names op
      → (0 < length five) × HasStreamKeys op → stream_number op < 2 ^ 64 → StreamMade five e op made → IsMade w e made
  made_valid nodes numbered some words (filters {input} {c} source condition is_source is_condition) =
      let (v, width) = source_known input source is_source in
      let fits = condition_fits _ _ _ nodes (condition_valid _ _ c condition words is_condition) in
      record { operator = (v.number, rw width fits, sym width); names = v.names; table = refl }
  made_valid nodes numbered some words (maps {input} {columns} source new is_source is_new) =
      let (v, width) = source_known input source is_source in
      let ids = column_names source.columns in
      let fits = new_valid ids source.hidden w.names no_new_columns new columns (none_new _ _) (omega arith) numbered words is_new in
      let all = columns_made e source.columns new.names in
      record {
        operator = (
          v.number,
          rw width (fits.0.values, fits.1),
          omega (
            arith,
            ap length all,
            length-append ids new.names,
            fits.0.same,
            width,
          ),
        );
        names = rw all (All-append (IsName w.names) ids new.names v.names fits.0.ids);
        table = refl;
      }
  made_valid nodes numbered some words (zips {first} {second} left right is_left is_right free) =
      let (vl, wl) = source_known first left is_left in
      let (vr, wr) = source_known second right is_right in
      let ids = column_names left.columns in
      let slots = others_from 0 ids right.columns in
      let A : ℕ → Type 0 = λ k. AreSlots k slots in
      let within : AreSlots (length right.columns) slots = subst A (omega arith) (others_valid 0 ids right.columns) in
      let picked = picked_valid w.names right.columns slots vr.names within in
      let all = names_append left.columns (columns_at right.columns slots) in
      record {
        operator = (
          vl.number,
          vr.number,
          subst A (omega (arith, wr, columns_length right.columns)) within,
          omega (arith, ap length all, length-append ids (column_names (columns_at right.columns slots)), picked.0, wl),
        );
        names = rw all (All-append (IsName w.names) ids (column_names (columns_at right.columns slots)) vl.names picked.1);
        table = refl;
      }
  made_valid {five} nodes numbered some words (groups {input} {keys} {fold_name} source picked f arguments room is_source is_picked is_f
      are) =
      let (v, width) = source_known input source is_source in
      let ids = column_names source.columns in
      let vf = fold_known w _ _ e.known fold_name f known is_f in
      let vp = keys_valid ids source.hidden w.names _ picked (flat_map (key_names five) keys) v.names (none_picked _ _) is_picked in
      let va = arguments_valid ids source.hidden picked.names f fold_name.span arguments are in
      let one_key = picked_some five ids source.hidden picked keys some.0 some.1 is_picked in
      let within : AreSlots (length source.columns) picked.slots = rw (← columns_length source.columns) vp.slots_in in
      let kept = picked_valid w.names source.columns picked.slots v.names within in
      record {
        operator = (v.number, rw width (group_valid w ids arguments picked f vf vp one_key va.0 va.1), kept.0);
        names = kept.1;
        table = (
          record { input = source.number; keys = picked.slots; fold_number = f.number; args = arguments },
          refl,
          group_is w ids arguments source.number picked f vf vp,
          All-append (IsName w.names) picked.names f.states vp.ids vf.names,
          omega (arith, length-append picked.names f.states),
          refl,
        );
      }
