-- The columns of what an item makes differ from one another.
use Rattle.std.proofs.Common.{◌≡◌, ℕ, suc, ◌+◌, ◌<◌, Bool, true, false, ◌||◌, cond, List, [], ◌∷◌, ◌++◌, map, flat_map, Some}
use Rattle.std.proofs.{Common.{Ok, nat_eq, refl, sym, ap, subst, ◌∙◌, append-nil, append_assoc, arith}, lemmas.Bool.{eqb-true, or_parts}}
use Rattle.std.{proofs.lemmas.List.Elements.{All-head, All-tail, filter_map-append}, specs.Prelude.{slice_get, IfSome}}
use Rattle.std.specs.List.{All, list_any}
use Rattle.query_lang.specs.declared.{fault.{Span.Span, FaultKind.TheVariants.NameTaken}, fold.TypedFold.TypedFold, query.Column.Column}
use Rattle.query_lang.specs.declared.query.{FinalOp.FinalOp, FoldDef.FoldDef, Name.Name, StateVar.StateVar, StreamOp.StreamOp}
use Rattle.query_lang.specs.declared.typing.{Earlier.Earlier, FoldView.FoldView, MadeFinal.MadeFinal, MadeStream.MadeStream}
use Rattle.query_lang.specs.declared.typing.{NewColumns.NewColumns, Picked.Picked, StreamColumn.StreamColumn}
use Rattle.query_lang.specs.Limits.{AreNumbered, IsNumbered, IsNumberedStream, IsNumberedFinal}
use Rattle.query_lang.specs.{Checks.{collected, is_among, place_from}, TypedExprs.{word_of, slot_of}}
use Rattle.query_lang.specs.{TypedFolds.states_from, TypedFinals.other_columns, TypedQueries.AreNames, TypedStreams.column_names}
use Rattle.query_lang.specs.TypedStreams.{new_columns, no_new_columns, others_from, columns_at, key_names, keys_from, arguments_of}
use Rattle.query_types.{specs.Fitting.{AreApart, AreDifferent, FitsTable, FitsKnown}, proofs.ApartLaws.{among_both, apart_append}}
use Rattle.query_types.proofs.ApartLaws.{apart_push, apart_none, apart_drop, different_push, others_taken}
use Rattle.query_types.proofs.{ExprLaws.{from_ok, found_first, must_ok, slot_place}, BodyLaws.must_not_ok, ViewLaws.quiet_known}
use Rattle.query_types.proofs.{StreamLaws.slot_name, MadeLaws.{names_append, columns_made}, ItemLaws.fold_named_well}
use Rattle.query_types.proofs.{NamedFits.{stream_fits, fold_fits, table_fits}, Makings.{StreamMade, filters, maps, zips, groups, FoldMade}}
use Rattle.query_types.proofs.Makings.{folded, FinalMade, final_filters, final_maps, final_groups, final_joins, final_tops}
use Rattle.query_lang.specs.declared.query.Item.TheVariants as item

-- ---- the columns of what is made

new_apart : (columns hidden : List ℕ) (made result : NewColumns) (rest : List Column) → AreApart (columns ++ made.names)
    → AreNumbered 65536 rest → new_columns columns hidden made rest ≡ Ok result
    → AreApart (columns ++ result.names)
new_apart columns hidden made result [] v numbered e = from_ok (λ (z : NewColumns). AreApart (columns ++ z.names)) e v
new_apart columns hidden made result (column ∷ rest) v numbered e =
    let N : Column → Type 0 = λ column. column.name.id < 65536 in
    let id = column.name.id in
    let free = must_not_ok _ _ _ _ _ e in
    let value = found_first (word_of columns hidden column.value) _ _ free.1 in
    let first = or_parts (is_among id columns) (is_among id hidden || is_among id made.names) free.0 in
    let second = or_parts (is_among id hidden) (is_among id made.names) first.1 in
    let more : AreApart ((columns ++ made.names) ++ id ∷ []) = apart_push (columns ++ made.names) id v (All-head N column rest numbered)
    (among_both id columns made.names first.0 second.1) in
    new_apart columns hidden (record { names = made.names ++ id ∷ []; values = made.values ++ value.0 ∷ [] }) result rest
    (rw (← append_assoc columns made.names (id ∷ [])) more) (All-tail N column rest numbered) value.2

keys_different : (columns hidden : List ℕ) (found picked : Picked) (keys : List Name) → AreNames 65536 columns → AreApart found.names
    → keys_from columns hidden found keys ≡ Ok picked → AreApart picked.names
keys_different columns hidden found picked [] all v e = from_ok (λ (z : Picked). AreApart z.names) e v
keys_different columns hidden found picked (key ∷ rest) all v e =
    let slot = found_first _ _ _ e in
    let new = must_not_ok _ _ _ _ _ slot.2 in
    let room = must_ok _ _ _ _ _ new.1 in
    keys_different columns hidden (record { names = found.names ++ key.id ∷ []; slots = found.slots ++ slot.0 ∷ [] }) picked rest all
    (apart_push found.names key.id v (slot_name 65536 columns hidden key slot.0 all slot.1) new.0) room.1

-- the column at a slot has the name
record IsNamed (columns : List StreamColumn) (v id : ℕ) : Type 0 where
  column : StreamColumn
  is : slice_get columns v ≡ Some column
  name : column.name ≡ id

named_from : (columns : List StreamColumn) (at id v : ℕ) → place_from at (column_names columns) id ≡ Some v → (k : ℕ) × (v ≡ at + k)
    × IsNamed columns k id
named_from [] at id v e = cc e
named_from (column ∷ rest) at id v e = go (nat_eq column.name id) refl (λ k. named_from rest (at + 1) id v k) e
  where
    go : (b : Bool) → nat_eq column.name id ≡ b → (place_from (at + 1) (column_names rest) id ≡ Some v → (k : ℕ) × (v ≡ (at + 1) + k)
        × IsNamed rest k id) → cond b (Some at) (place_from (at + 1) (column_names rest) id) ≡ Some v → (k : ℕ) × (v ≡ at + k)
        × IsNamed (column ∷ rest) k id
    go true is next e = let same : at ≡ v = cc in (
      0,
      omega (arith, same),
      record
          { column = column; is = refl; name = eqb-true column.name id is },
    )
    go false is next e =
        let more = next e in
        (suc more.0, omega (arith, more.1), record { column = more.2.column; is = more.2.is; name = more.2.name })

named_at : (columns : List StreamColumn) (hidden : List ℕ) (name : Name) (v : ℕ) → slot_of (column_names columns) hidden name ≡ Ok v
    → IsNamed columns v name.id
named_at columns hidden name v e =
    let found = named_from columns 0 name.id v (slot_place (column_names columns) hidden name e) in
    let N : ℕ → Type 0 = λ k. IsNamed columns k name.id in
    subst N (let k : found.0 ≡ v = omega (arith, found.1) in k) found.2

keys_named : (columns : List StreamColumn) (hidden : List ℕ) (found picked : Picked) (keys : List Name)
    → column_names (columns_at columns found.slots) ≡ found.names → keys_from (column_names columns) hidden found keys ≡ Ok picked
    → column_names (columns_at columns picked.slots) ≡ picked.names
keys_named columns hidden found picked [] same e =
    from_ok (λ (z : Picked). column_names (columns_at columns z.slots) ≡ z.names) e same
keys_named columns hidden found picked (key ∷ rest) same e =
    let slot = found_first _ _ _ e in
    let new = must_not_ok _ _ _ _ _ slot.2 in
    let room = must_ok _ _ _ _ _ new.1 in
    let named = named_at columns hidden key slot.0 slot.1 in
    let last : column_names (columns_at columns (slot.0 ∷ [])) ≡ key.id ∷ [] = rw named.is (ap (λ n. n ∷ []) named.name) in
    let split : columns_at columns (found.slots ++ slot.0 ∷ []) ≡ columns_at columns found.slots ++ columns_at columns (slot.0 ∷ []) =
    filter_map-append (λ k. slice_get columns k) found.slots (slot.0 ∷ []) in
    let whole : column_names (columns_at columns (found.slots ++ slot.0 ∷ [])) ≡ found.names ++ key.id ∷ [] =
    ap column_names split ∙ names_append (columns_at columns found.slots) (columns_at columns (slot.0 ∷ []))
    ∙ ap (λ l. l ++ column_names (columns_at columns (slot.0 ∷ []))) same ∙ ap (λ l. found.names ++ l) last in
    keys_named columns hidden (record { names = found.names ++ key.id ∷ []; slots = found.slots ++ slot.0 ∷ [] }) picked rest whole room.1

-- no state variable of a groupby's fold has the name of a key
states_beside : (columns hidden keys : List ℕ) (f : FoldView) (span : Span) (slots : List ℕ)
    → arguments_of columns hidden keys f span ≡ Ok slots → list_any (λ state. is_among state keys) f.states ≡ false
states_beside columns hidden keys f span slots e =
    let first = found_first (collected [] (map (λ id. slot_of columns hidden (record { id = id; span = span })) f.args)) _ slots e in
    (must_not_ok _ NameTaken span _ slots first.2).0

pub record FitsMade (made : MadeStream) : Type 0 where
  pub columns : AreApart (column_names made.columns)
  pub table : IfSome made.table FitsTable

pub made_fits : {five : List ℕ} {e : Earlier} {op : StreamOp} {made : MadeStream} → All FitsKnown e.known → IsNumberedStream 65536 op
    → StreamMade five e op made → FitsMade made
made_fits {e = e} known numbered (filters {input} source condition is_source is_condition) =
    record { columns = (stream_fits e.known input source known is_source).columns; table = tt }
made_fits {e = e} known numbered (maps {input} {columns} source new is_source is_new) =
    let ids = column_names source.columns in
    let v = (stream_fits e.known input source known is_source).columns in
    let all = new_apart ids source.hidden no_new_columns new columns (rw append-nil v) numbered is_new in
    record { columns = rw (columns_made e source.columns new.names) all; table = tt }
made_fits {e = e} known numbered (zips {first} {second} left right is_left is_right free) =
    let ids = column_names left.columns in
    let taken = columns_at right.columns (others_from 0 ids right.columns) in
    let more = others_taken ids right.columns (stream_fits e.known second right known is_right).columns in
    record {
      columns = rw (names_append left.columns taken)
          (apart_append ids (column_names taken) (stream_fits e.known first left known is_left).columns more.0 more.1);
      table = tt;
    }
made_fits {five} {e} known numbered (groups {input} {keys} {fold_name} source picked f arguments room is_source is_picked is_f are) =
    let ids = column_names source.columns in
    let names = flat_map (key_names five) keys in
    let below = (stream_fits e.known input source known is_source).columns.below in
    let vp = keys_different ids source.hidden _ picked names below apart_none is_picked in
    record {
      columns = subst AreApart (sym (keys_named source.columns source.hidden (record { names = []; slots = [] }) picked names refl
          is_picked)) vp;
      table = record {
        columns = apart_append picked.names f.states vp (fold_fits e.known fold_name f known is_f)
            (states_beside ids source.hidden picked.names f fold_name.span arguments are);
        place = tt;
      };
    }

pub final_fits : {groupbys : ℕ} {five : List ℕ} {e : Earlier} {op : FinalOp} {made : MadeFinal} → All FitsKnown e.known
    → IsNumberedFinal 65536 op → FinalMade groupbys five e op made → AreApart made.columns
final_fits {e = e} known numbered (final_filters {input} source condition is_source is_condition) =
    (table_fits e.known input source known is_source).columns
final_fits {e = e} known numbered (final_maps {input} {columns} source new is_source is_new) =
    let v = (table_fits e.known input source known is_source).columns in
    new_apart source.columns [] no_new_columns new columns (rw append-nil v) numbered is_new
final_fits {five = five} {e} known numbered (final_groups {input} {keys} {fold_name} source picked f arguments is_source is_picked is_f
    are) =
    let ids = source.columns in
    let vf = fold_fits e.known fold_name f known (quiet_known e.known fold_name f is_f).0 in
    let below = (table_fits e.known input source known is_source).columns.below in
    let vp = keys_different ids [] _ picked (flat_map (key_names five) keys) below apart_none is_picked in
    apart_append picked.names f.states vp vf (states_beside ids [] picked.names f fold_name.span arguments are)
final_fits {e = e} known numbered (final_joins {first} {second} left right is_left is_right equal free) =
    apart_append left.columns (other_columns right) (table_fits e.known first left known is_left).columns
    (apart_drop right.keys right.columns (table_fits e.known second right known is_right).columns) free
final_fits {e = e} known numbered (final_tops {input} source slot is_source is_slot above below) =
    (table_fits e.known input source known is_source).columns

states_different : (found states : List ℕ) (list : List StateVar) → AreDifferent found → states_from found list ≡ Ok states
    → AreDifferent states
states_different found states [] h e = from_ok (λ (l : List ℕ). AreDifferent l) e h
states_different found states (one ∷ rest) h e =
    let new = must_not_ok _ _ _ _ _ e in
    let room = must_ok _ _ _ _ _ new.1 in
    states_different (found ++ one.name.id ∷ []) states rest (different_push found one.name.id h new.0) room.1

pub fold_states_apart : {d : FoldDef} {f : TypedFold} → IsNumbered 65536 (item.Fold d) → FoldMade d f → AreApart f.state_names
fold_states_apart {d} numbered (folded states args body is_states is_args is_body) = record {
  below = (fold_named_well 65536 {d = d} numbered (folded states args body is_states is_args is_body)).states;
  once = states_different [] states d.states tt is_states;
}
