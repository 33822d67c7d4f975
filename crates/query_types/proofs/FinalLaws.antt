-- What a final's operator makes is valid after the tables before it, in the whole query.
use Rattle.std.proofs.Common.{◌≡◌, ℕ, zero, suc, ◌+◌, ◌<◌, ◌≤◌, ◌^◌, true, false, List, [], ◌∷◌, ◌++◌, length, map, flat_map, drop, Option}
use Rattle.std.proofs.{Common.{Some, None, Ok, nat_eq, refl, sym, ap, ◌∙◌, append-nil, length-drop, arith}, lemmas.Option.slice_get_within}
use Rattle.std.proofs.lemmas.List.{length-append, length-map, length-take, map-append, Elements.{All-append, All-tail}}
use Rattle.std.specs.{Prelude.{is_some, slice_get, unwrap_or}, Cmp.Lexicographic.pointwise}
use Rattle.query_lang.specs.declared.{query.{FinalOp.FinalOp, Name.Name}, typed.PrintOf.PrintOf, typing.Earlier.Earlier}
use Rattle.query_lang.specs.declared.{typing.{MadeFinal.MadeFinal, TableView.TableView}, fault.TheConstants.MAX_NODES}
use Rattle.query_lang.specs.{Limits.{final_nodes, HasFinalKeys, IsNumberedFinal}, Streams.takings, TypedStreams.{no_new_columns, key_names}}
use Rattle.query_lang.specs.TypedFinals.{table_named, table_number, key_columns, other_columns}
use Rattle.query_lang.specs.TypedQueries.{AreNames, IsValidFinalOp, IsQuiet, Shape, shapes, shape_at, group_shape, final_shape}
use Rattle.query_types.{specs.Numbers.final_number, proofs.{ExprLaws.{slot_bound, condition_valid}, MadeLaws.{IsPart, IsName}}}
use Rattle.query_types.proofs.ViewLaws.{Whole, IsTable, IsBelow, AreKnown, table_shape, table_known, fold_known, quiet_known, get_front}
use Rattle.query_types.proofs.StreamLaws.{condition_fits, new_valid, keys_valid, picked_some, arguments_valid, group_valid, group_is}
use Rattle.query_types.proofs.StreamLaws.{none_new, none_picked}
use Rattle.query_types.proofs.Makings.{both_true, FinalMade, final_filters, final_maps, final_groups, final_joins, final_tops}
use Rattle.query_lang.specs.declared.typed.PrintOf.TheVariants as place

-- the tables before a final
abbrev pub tables_of : Whole → Earlier → List Shape
tables_of w e = shapes w.folds w.streams [] ++ map final_shape e.finals

get_after : {A : Type 0} (xs ys : List A) (i : ℕ) → slice_get (xs ++ ys) (length xs + i) ≡ slice_get ys i
get_after [] ys i = let same : 0 + i ≡ i = omega arith in ap (slice_get ys) same
get_after (x ∷ xs) ys i = let same : suc (length xs) + i ≡ suc (length xs + i) = omega arith in ap (slice_get (x ∷ (xs ++ ys))) same
    ∙ get_after xs ys i

at_place : (w : Whole) (e : Earlier) (shape : Shape) (p : PrintOf) → IsPart w e → length (takings w.streams) ≡ w.groups
    → IsBelow (length e.finals) p → table_shape w p ≡ Some shape
    → slice_get (tables_of w e) (table_number w.groups p) ≡ Some shape
at_place w e shape (place.Group i) part count below is =
    let A = map (group_shape w.folds) (takings w.streams) in
    let B = map final_shape e.finals in
    ap (λ (l : List Shape). slice_get (l ++ B) i) (append-nil A) ∙ get_front A B i (slice_get_within A i shape is) ∙ is
at_place w e shape (place.Final j) part count below is =
    let A = map (group_shape w.folds) (takings w.streams) in
    let B = map final_shape e.finals in
    let size : length A ≡ w.groups = length-map (takings w.streams) (group_shape w.folds) ∙ count in
    let within : j < length B = omega (arith, length-map e.finals final_shape) in
    let whole : map final_shape w.finals ≡ B ++ map final_shape part.later_finals = ap (map final_shape) part.finals
    ∙ map-append final_shape e.finals part.later_finals in
    ap (λ (l : List Shape). slice_get (l ++ B) (w.groups + j)) (append-nil A)
    ∙ ap (λ (n : ℕ). slice_get (A ++ B) (n + j)) (sym size)
    ∙ get_after A B j
    ∙ sym (get_front B (map final_shape part.later_finals) j within)
    ∙ ap (λ (l : List Shape). slice_get l j) (sym whole)
    ∙ is

-- a table that was looked up is among those before
pub record IsThere (w : Whole) (e : Earlier) (t : TableView) : Type 0 where
  pub within : table_number w.groups t.place < length (tables_of w e)
  pub shape : shape_at (tables_of w e) (table_number w.groups t.place) ≡ record { width = length t.columns; keys = t.keys }

there : (w : Whole) (e : Earlier) (t : TableView) → IsPart w e → length (takings w.streams) ≡ w.groups → IsTable w (length e.finals) t
    → IsThere w e t
there w e t part count v =
    let is = at_place w e (record { width = length t.columns; keys = t.keys }) t.place part count v.below v.shape in
    record {
      within = slice_get_within (tables_of w e) (table_number w.groups t.place) (record { width = length t.columns; keys = t.keys }) is;
      shape = ap (λ (o : Option Shape). unwrap_or o (record { width = 0; keys = 0 })) is;
    }

pub record IsMadeFinal (w : Whole) (e : Earlier) (made : MadeFinal) : Type 0 where
  pub operator : IsValidFinalOp w.folds (tables_of w e) (record { width = length made.columns; keys = made.keys }) made.op
  pub names : AreNames w.names made.columns
  pub keys : made.keys ≤ length made.columns

no_emit : {A : Type 0} (o : Option A) → is_some o ≡ false → o ≡ None
no_emit None e = refl
no_emit (Some x) e = cc e

same_length : (xs ys : List ℕ) → pointwise nat_eq xs ys ≡ true → length xs ≡ length ys
same_length [] [] e = refl
same_length [] (y ∷ ys) e = cc e
same_length (x ∷ xs) [] e = cc e
same_length (x ∷ xs) (y ∷ ys) e = ap suc (same_length xs ys (both_true _ _ e).1)

drop_names : (names n : ℕ) (list : List ℕ) → AreNames names list → AreNames names (drop n list)
drop_names names zero list v = v
drop_names names (suc n) [] v = v
drop_names names (suc n) (x ∷ rest) v = drop_names names n rest (All-tail (IsName names) x rest v)

module _ {w : Whole} {e : Earlier} (part : IsPart w e) (count : length (takings w.streams) ≡ w.groups)
    (known : AreKnown w (length e.streams) (length e.finals) e.known) where
  known_there : (name : Name) (t : TableView) → table_named e.known name ≡ Ok t → IsTable w (length e.finals) t × IsThere w e t
  known_there name t is = let v = table_known w _ _ e.known name t known is in (v, there w e t part count v)

  pub final_valid : {five : List ℕ} {op : FinalOp} {made : MadeFinal} → final_nodes op ≤ MAX_NODES → IsNumberedFinal w.names op
      → (0 < length five) × HasFinalKeys op → final_number op < 2 ^ 64 → FinalMade w.groups five e op made → IsMadeFinal w e made
  final_valid nodes numbered some words (final_filters {input} {c} source condition is_source is_condition) =
      let (v, t) = known_there input source is_source in
      let fits = condition_fits _ _ _ nodes (condition_valid source.columns [] c condition words is_condition) in
      record { operator = (t.within, rw t.shape fits, sym t.shape); names = v.names; keys = v.keys }
  final_valid nodes numbered some words (final_maps {input} {columns} source new is_source is_new) =
      let (v, t) = known_there input source is_source in
      let ids = source.columns in
      let fits = new_valid ids [] w.names no_new_columns new columns (none_new _ _) (omega arith) numbered words is_new in
      record {
        operator = (
          t.within,
          rw t.shape (fits.0.values, fits.1),
          omega (arith, ap (λ (s : Shape). s.width) t.shape, length-append ids new.names, fits.0.same),
          sym (ap (λ (s : Shape). s.keys) t.shape),
        );
        names = All-append (IsName w.names) ids new.names v.names fits.0.ids;
        keys = omega (arith, v.keys, length-append ids new.names);
      }
  final_valid {five} nodes numbered some words (final_groups {input} {keys} {fold_name} source picked f arguments is_source is_picked is_f
      are) =
      let (v, t) = known_there input source is_source in
      let ids = source.columns in
      let quiet = quiet_known e.known fold_name f is_f in
      let vf = fold_known w _ _ e.known fold_name f known quiet.0 in
      let vp = keys_valid ids [] w.names _ picked (flat_map (key_names five) keys) v.names (none_picked _ _) is_picked in
      let va = arguments_valid ids [] picked.names f fold_name.span arguments are in
      let one_key = picked_some five ids [] picked keys some.0 some.1 is_picked in
      let emits : IsQuiet (Some vf.one) = no_emit vf.one.emit (vf.emits ∙ quiet.1) in
      record {
        operator = (
          t.within,
          rw t.shape (group_valid w ids arguments picked f vf vp one_key va.0 va.1),
          rw vf.is emits,
          sym (group_is w ids arguments (table_number w.groups source.place) picked f vf vp),
        );
        names = All-append (IsName w.names) picked.names f.states vp.ids vf.names;
        keys = omega (arith, length-append picked.names f.states);
      }
  final_valid nodes numbered some words (final_joins {first} {second} left right is_left is_right equal free) =
      let (vl, tl) = known_there first left is_left in
      let (vr, tr) = known_there second right is_right in
      let lk = ap (λ (s : Shape). s.keys) tl.shape in
      let rk = ap (λ (s : Shape). s.keys) tr.shape in
      let lw = ap (λ (s : Shape). s.width) tl.shape in
      let rw' = ap (λ (s : Shape). s.width) tr.shape in
      let keys : left.keys ≡ right.keys = omega (
        arith,
        same_length (key_columns left) (key_columns right) equal,
        length-take left.keys left.columns,
        length-take right.keys right.columns,
        vl.keys,
        vr.keys,
      ) in
      record {
        operator = (
          tl.within,
          tr.within,
          omega (arith, keys, lk, rk),
          omega (arith, lw, rw', rk, length-append left.columns (other_columns right), length-drop right.keys right.columns),
          omega (arith, lk),
        );
        names = All-append (IsName w.names) left.columns (other_columns right) vl.names
            (drop_names w.names right.keys right.columns vr.names);
        keys = omega (arith, vl.keys, length-append left.columns (other_columns right));
      }
  final_valid nodes numbered some words (final_tops {input} {column} source slot is_source is_slot above below) =
      let (v, t) = known_there input source is_source in
      record {
        operator = (
          t.within,
          omega (arith, slot_bound source.columns [] column slot is_slot, ap (λ (s : Shape). s.width) t.shape),
          above,
          below,
          sym t.shape,
        );
        names = v.names;
        keys = v.keys;
      }
