-- What the check of items keeps: valid folds with their names, and the limits on streams, finals and groupbys.
use Rattle.std.proofs.Common.{◌≡◌, ℕ, ◌+◌, ◌<◌, ◌≤◌, ◌^◌, Bool, true, false, cond, List, [], ◌∷◌, ◌++◌, length, map, Option, Some, None, Ok}
use Rattle.std.proofs.{Common.{refl, sym, ap, ◌∙◌, arith}, lemmas.List.length-append}
use Rattle.std.{proofs.lemmas.List.Elements.{All-nil, All-push, All-head, All-tail, filter_map-append}, specs.{Prelude.is_some, List.All}}
use Rattle.query_lang.specs.declared.{fold.TypedFold.TypedFold, query.{FoldDef.FoldDef, Item.Item, Name.Name, StateVar.StateVar}}
use Rattle.query_lang.specs.declared.{query.StreamOp.StreamOp, typed.{TypedOp.TypedOp, TypedFinal.TypedFinal, TypedStream.TypedStream}}
use Rattle.query_lang.specs.declared.typing.{Earlier.Earlier, Given.Given, MadeFinal.MadeFinal, MadeStream.MadeStream}
use Rattle.query_lang.specs.{declared.fault.TheConstants.{MAX_BINDINGS, MAX_GROUPBYS}, Folds.IsValidFold, Limits.{KeepsLimits, IsNumbered}}
use Rattle.query_lang.specs.{TypedFolds.{states_from, args_from}, TypedFinals.with_final, TypedQueries.{AreNames, HasNames}}
use Rattle.query_lang.specs.{Typing.{with_fold, items_checked}, Streams.{Taking, takings, taking_of}}
use Rattle.query_lang.specs.TypedStreams.{begun, column_names, with_stream}
use Rattle.query_types.{specs.Numbers.{greatest_of, item_number}, proofs.{BodyLaws.must_not_ok, StmtLaws.fold_valid}}
use Rattle.query_types.proofs.{ExprLaws.{from_ok, found_first, must_ok}, Makings.{StreamMade, filters, maps, zips, groups, FoldMade}}
use Rattle.query_types.proofs.Makings.{folded, ItemMade, fold_item, stream_item, final_item, print_item, item_made}
use Rattle.query_lang.specs.declared.query.Item.TheVariants as item

abbrev pub IsName : ℕ → ℕ → Type 0
IsName names id = id < names

states_names : (names : ℕ) (found states : List ℕ) (list : List StateVar) → AreNames names found → All (λ state. state.name.id < names) list
    → states_from found list ≡ Ok states → AreNames names states
states_names names found states [] h all e = from_ok (AreNames names) e h
states_names names found states (one ∷ rest) h all e =
    let P : StateVar → Type 0 = λ state. state.name.id < names in
    let new = must_not_ok _ _ _ _ _ e in
    let room = must_ok _ _ _ _ _ new.1 in
    states_names names (found ++ one.name.id ∷ []) states rest (All-push (IsName names) found one.name.id h (All-head P one rest all))
    (All-tail P one rest all) room.1

args_names : (names : ℕ) (states found args : List ℕ) (list : List Name) → AreNames names found → All (λ arg. arg.id < names) list
    → args_from states found list ≡ Ok args → AreNames names args
args_names names states found args [] h all e = from_ok (AreNames names) e h
args_names names states found args (one ∷ rest) h all e =
    let P : Name → Type 0 = λ arg. arg.id < names in
    let new = must_not_ok _ _ _ _ _ e in
    let room = must_ok _ _ _ _ _ new.1 in
    args_names names states (found ++ one.id ∷ []) args rest (All-push (IsName names) found one.id h (All-head P one rest all))
    (All-tail P one rest all) room.1

pub fold_named_well : (names : ℕ) {d : FoldDef} {f : TypedFold} → IsNumbered names (item.Fold d) → FoldMade d f → HasNames names f
fold_named_well names {d} h (folded states args body is_states is_args is_body) = record {
  name = h.0;
  states = states_names names [] states d.states (All-nil (IsName names)) h.1 is_states;
  args = args_names names states [] args d.args (All-nil (IsName names)) h.2 is_args;
}

-- the groupbys are those with tables, and there are at most 8
abbrev IsCounted : Earlier → TypedOp → Bool → Type 0
IsCounted earlier op true = (taking_of op ≡ None → ⊥) × (earlier.groups < MAX_GROUPBYS)
IsCounted earlier op false = taking_of op ≡ None

pub record Standing (names : ℕ) (e : Earlier) : Type 0 where
  pub folds : All IsValidFold e.folds
  pub fold_names : All (HasNames names) e.folds
  pub bindings : length e.streams + length e.finals ≤ MAX_BINDINGS
  pub groups : e.groups ≡ length (takings e.streams)
  pub most : e.groups ≤ MAX_GROUPBYS

with_fold_stands : (names : ℕ) (e : Earlier) (f : TypedFold) → Standing names e → IsValidFold f → HasNames names f
    → Standing names (with_fold e f)
with_fold_stands names e f s v n = record {
  folds = All-push IsValidFold e.folds f s.folds v;
  fold_names = All-push (HasNames names) e.folds f s.fold_names n;
  bindings = s.bindings;
  groups = s.groups;
  most = s.most;
}

some_none : (t : Taking) → (let o : Option Taking = Some t in o) ≡ None → ⊥
some_none t e = cc e

made_counted : {five : List ℕ} {e : Earlier} {op : StreamOp} {made : MadeStream} → StreamMade five e op made
    → IsCounted e made.op (is_some made.table)
made_counted (filters source condition is_source is_condition) = refl
made_counted (maps source new is_source is_new) = refl
made_counted (zips left right is_left is_right free) = refl
made_counted (groups source picked f arguments room is_source is_picked is_f are) = (λ none. some_none _ none, room)

last_counted : (e : Earlier) (name : Name) (columns : List ℕ) (op : TypedOp) (b : Bool) → IsCounted e op b → e.groups ≤ MAX_GROUPBYS
    → (length (takings (record { name = name; columns = columns; op = op } ∷ [])) ≡ cond b 1 0) × (e.groups + cond b 1 0 ≤ MAX_GROUPBYS)
last_counted e name columns op b = go (taking_of op) refl b
  where
    go : (t : Option Taking) → taking_of op ≡ t → (b : Bool) → IsCounted e op b → e.groups ≤ MAX_GROUPBYS
        → (length (takings (record { name = name; columns = columns; op = op } ∷ [])) ≡ cond b 1 0) × (e.groups + cond b 1 0 ≤ MAX_GROUPBYS)
    go None is true c h = absurd (c.0 is)
    go None is false c h = (rw is refl, omega arith)
    go (Some t) is true c h = (rw is refl, omega (arith, c.1))
    go (Some t) is false c h = absurd (some_none t (sym is ∙ c))

with_stream_stands : (names : ℕ) (e : Earlier) (name : Name) (made : MadeStream) → Standing names e → length e.streams
    + length e.finals < MAX_BINDINGS → IsCounted e made.op (is_some made.table)
    → Standing names (with_stream e name made)
with_stream_stands names e name made s room counted =
    let one : TypedStream = record { name = name; columns = column_names made.columns; op = made.op } in
    let split : takings (with_stream e name made).streams ≡ takings e.streams ++ takings (one ∷ []) =
    filter_map-append (λ stream. taking_of stream.op) e.streams (one ∷ []) in
    let count : length (takings (with_stream e name made).streams) ≡ length (takings e.streams) + length (takings (one ∷ [])) =
    ap length split ∙ length-append (takings e.streams) (takings (one ∷ [])) in
    let last = last_counted e name (column_names made.columns) made.op (is_some made.table) counted s.most in
    record {
      folds = s.folds;
      fold_names = s.fold_names;
      bindings = omega (arith, length-append e.streams (one ∷ []));
      groups = omega (arith, count, last.0, s.groups);
      most = omega (arith, last.1, s.most);
    }

with_final_stands : (names : ℕ) (e : Earlier) (name : Name) (made : MadeFinal) → Standing names e → length e.streams
    + length e.finals < MAX_BINDINGS
    → Standing names (with_final e name made)
with_final_stands names e name made s room =
    let one : TypedFinal = record { name = name; columns = made.columns; keys = made.keys; op = made.op } in
    record {
      folds = s.folds;
      fold_names = s.fold_names;
      bindings = omega (arith, length-append e.finals (one ∷ []));
      groups = s.groups;
      most = s.most;
    }

pub item_stands : (names : ℕ) {given : Given} {e after : Earlier} {one : Item} → KeepsLimits one → IsNumbered names one
    → item_number one < 2 ^ 64 → Standing names e → ItemMade given e one after → Standing names after
item_stands names {e = e} limits numbered words s (fold_item {d} f free is) =
    with_fold_stands names e f s (fold_valid words limits.0 limits.1 is) (fold_named_well names numbered is)
item_stands names {e = e} limits numbered words s (stream_item {d} made begun is) =
    with_stream_stands names e d.name made s begun.room (made_counted is)
item_stands names {e = e} limits numbered words s (final_item {d} made begun is) = with_final_stands names e d.name made s begun.room
item_stands names limits numbered words s (print_item table is_table new) =
    record { folds = s.folds; fold_names = s.fold_names; bindings = s.bindings; groups = s.groups; most = s.most }

pub items_stand : (names : ℕ) (given : Given) (items : List Item) (e after : Earlier) → All KeepsLimits items → All (IsNumbered names) items
    → greatest_of (map item_number items) < 2 ^ 64 → Standing names e
    → items_checked given e items ≡ Ok after → Standing names after
items_stand names given [] e after limits numbered words s h = from_ok (Standing names) h s
items_stand names given (one ∷ rest) e after limits numbered words s h =
    let first = found_first _ _ _ h in
    items_stand names given rest first.0 after (All-tail KeepsLimits one rest limits) (All-tail (IsNumbered names) one rest numbered)
    (omega arith)
    (item_stands names (All-head KeepsLimits one rest limits) (All-head (IsNumbered names) one rest numbered) (omega arith) s
    (item_made given e first.0 one first.1)) first.2
