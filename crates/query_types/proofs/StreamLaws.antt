-- What the operators of streams make is valid.
use Rattle.std.proofs.Common.{◌≡◌, ℕ, zero, suc, ◌+◌, ◌<◌, ◌≤◌, ◌^◌, Bool, true, false, ◌||◌, cond, List, [], ◌∷◌, ◌++◌, length, map}
use Rattle.std.proofs.Common.{flat_map, Option, Some, None, Ok, Err, nat_eq, sum_by, refl, sym, ap, subst, ◌∙◌, arith}
use Rattle.std.proofs.lemmas.{Bool.{ltb-true, eqb-true}, Option.slice_get_within, List.{length-append, length-map}}
use Rattle.std.proofs.lemmas.List.{Sums.{sum_by-cons, sum_by_push}, Elements.{All-nil, All-cons, All-push, All-head, All-tail}}
use Rattle.std.specs.{Prelude.{slice_get, option_map, unwrap_or}, List.All}
use Rattle.query_lang.specs.declared.{fault.{Span.Span, FaultKind.TheVariants.NameTaken}, fold.TypedExpr.TypedExpr, query.Column.Column}
use Rattle.query_lang.specs.declared.{query.{Key.{Key, TheVariants.{Named, FiveTuple}}, Name.Name}, typing.FoldView.FoldView}
use Rattle.query_lang.specs.declared.typing.{NewColumns.NewColumns, Picked.Picked, StreamColumn.StreamColumn}
use Rattle.query_lang.specs.{declared.fault.TheConstants.{MAX_KEYS, MAX_NODES}, Terms.term_of, Limits.{columns_nodes, AreNumbered}}
use Rattle.query_lang.specs.{TypedFolds.expr_nodes, Folds.{term_nodes, fold_args, fold_states}}
use Rattle.query_lang.specs.{Checks.{Checked, collected, is_among, place_from}, TypedExprs.{word_of, slot_of}}
use Rattle.query_lang.specs.TypedStreams.{column_names, new_columns, no_new_columns, others_from, columns_at, key_names, keys_from}
use Rattle.query_lang.specs.TypedStreams.{keys_checked, arguments_of}
use Rattle.query_lang.specs.TypedQueries.{AreNames, AreSlots, IsValidWord, IsValidCondition, IsValidGroup, Shape, group_shape}
use Rattle.query_types.{specs.Numbers.columns_number, proofs.{BodyLaws.must_not_ok, ViewLaws.{Whole, IsFold}}}
use Rattle.query_types.proofs.ExprLaws.{from_ok, same_ok, found_first, must_ok, slot_place, slot_bound, IsConditionIn, word_valid}

abbrev pub IsSlot : ℕ → ℕ → Type 0
IsSlot slots slot = slot < slots

abbrev StreamName : Type 0
StreamName = ℕ → Name

abbrev pub IsName : ℕ → ℕ → Type 0
IsName names id = id < names

pub condition_fits : (slots n : ℕ) (e : TypedExpr) → n ≤ MAX_NODES → IsConditionIn slots n e → IsValidCondition slots e
condition_fits slots n e h v = ((v.term, omega (arith, v.nodes)), v.condition)

-- the new columns of a `map`
pub record AreNew (names slots : ℕ) (made : NewColumns) : Type 0 where
  pub ids : AreNames names made.names
  pub values : All (IsValidWord slots) made.values
  pub same : length made.values ≡ length made.names

pub none_new : (names slots : ℕ) → AreNew names slots no_new_columns
none_new names slots = record { ids = All-nil (IsName names); values = All-nil (IsValidWord slots); same = refl }

pub new_valid : (columns hidden : List ℕ) (names : ℕ) (made result : NewColumns) (rest : List Column) → AreNew names (length columns) made
    → sum_by (λ e. term_nodes (term_of e)) made.values + columns_nodes rest ≤ MAX_NODES → AreNumbered names rest
    → columns_number rest < 2 ^ 64
    → new_columns columns hidden made rest ≡ Ok result
    → AreNew names (length columns) result × (sum_by (λ e. term_nodes (term_of e)) result.values ≤ MAX_NODES)
new_valid columns hidden names made result [] v nodes numbered words e =
    from_ok (λ (z : NewColumns). AreNew names (length columns) z × (sum_by (λ e. term_nodes (term_of e)) z.values ≤ MAX_NODES)) e
    (v, omega arith)
new_valid columns hidden names made result (column ∷ rest) v nodes numbered words e =
    let N : Column → Type 0 = λ column. column.name.id < names in
    let size : TypedExpr → ℕ = λ e. term_nodes (term_of e) in
    let free = must_not_ok (is_among column.name.id columns || (is_among column.name.id hidden || is_among column.name.id made.names))
    NameTaken column.name.span _ result e in
    let value = found_first (word_of columns hidden column.value) _ _ free.1 in
    let w = word_valid columns hidden column.value value.0 (omega arith) value.1 in
    let all = sum_by-cons (λ (one : Column). expr_nodes one.value) column rest in
    let word : IsValidWord (length columns) value.0 = ((w.term, omega (arith, w.nodes, all, nodes)), w.word) in
    new_valid columns hidden names (record { names = made.names ++ column.name.id ∷ []; values = made.values ++ value.0 ∷ [] }) result rest
    (record {
      ids = All-push (IsName names) made.names column.name.id v.ids (All-head N column rest numbered);
      values = All-push (IsValidWord (length columns)) made.values value.0 v.values word;
      same = omega (arith, length-append made.values (value.0 ∷ []), length-append made.names (column.name.id ∷ []), v.same);
    })
    (omega (arith, sum_by_push size made.values value.0, w.nodes, all, nodes)) (All-tail N column rest numbered) (omega arith) value.2

-- a name that has a place among names is one of them
place_name : (names columns : ℕ) (list : List ℕ) (at id v : ℕ) → AreNames names list → place_from at list id ≡ Some v → id < names
place_name names columns [] at id v all e = cc e
place_name names columns (x ∷ rest) at id v all e = go (nat_eq x id) refl
    (λ k. place_name names columns rest (at + 1) id v (All-tail (IsName names) x rest all) k) e
  where
    go : (b : Bool) → nat_eq x id ≡ b → (place_from (at + 1) rest id ≡ Some v → id < names)
        → cond b (Some at) (place_from (at + 1) rest id) ≡ Some v → id < names
    go true is more e =
        let same : x ≡ id = eqb-true x id is in
        let here : x < names = All-head (IsName names) x rest all in
        omega arith
    go false is more e = more e

pub slot_name : (names : ℕ) (columns hidden : List ℕ) (name : Name) (v : ℕ) → AreNames names columns → slot_of columns hidden name ≡ Ok v
    → name.id < names
slot_name names columns hidden name v all e = place_name names 0 columns 0 name.id v all (slot_place columns hidden name e)

-- the keys of a groupby
pub record ArePicked (names slots : ℕ) (picked : Picked) : Type 0 where
  pub ids : AreNames names picked.names
  pub slots_in : AreSlots slots picked.slots
  pub same : length picked.slots ≡ length picked.names
  pub most : length picked.names ≤ MAX_KEYS

pub none_picked : (names slots : ℕ) → ArePicked names slots (record { names = []; slots = [] })
none_picked names slots = record { ids = All-nil (IsName names); slots_in = All-nil (IsSlot slots); same = refl; most = omega arith }

pub keys_valid : (columns hidden : List ℕ) (names : ℕ) (found picked : Picked) (keys : List Name) → AreNames names columns
    → ArePicked names (length columns) found → keys_from columns hidden found keys ≡ Ok picked
    → ArePicked names (length columns) picked
keys_valid columns hidden names found picked [] all v e = from_ok (ArePicked names (length columns)) e v
keys_valid columns hidden names found picked (key ∷ rest) all v e =
    let slot = found_first _ _ _ e in
    let new = must_not_ok _ _ _ _ _ slot.2 in
    let room = must_ok _ _ _ _ _ new.1 in
    let below : length found.names < MAX_KEYS = ltb-true _ _ room.0 in
    keys_valid columns hidden names (record { names = found.names ++ key.id ∷ []; slots = found.slots ++ slot.0 ∷ [] }) picked rest all
    (record {
      ids = All-push (IsName names) found.names key.id v.ids (slot_name names columns hidden key slot.0 all slot.1);
      slots_in = All-push (IsSlot (length columns)) found.slots slot.0 v.slots_in (slot_bound columns hidden key slot.0 slot.1);
      same = omega (arith, length-append found.slots (slot.0 ∷ []), length-append found.names (key.id ∷ []), v.same);
      most = omega (arith, length-append found.names (key.id ∷ []));
    }) room.1

-- as many keys are picked as there are names of keys
keys_count : (columns hidden : List ℕ) (found picked : Picked) (keys : List Name) → keys_from columns hidden found keys ≡ Ok picked
    → length picked.names ≡ length found.names + length keys
keys_count columns hidden found picked [] e = let same : length found.names ≡ length picked.names =
    ap (λ (z : Picked). length z.names) (same_ok _ _ e) in omega (arith, same)
keys_count columns hidden found picked (key ∷ rest) e =
    let slot = found_first (slot_of columns hidden key) _ _ e in
    let new = must_not_ok _ _ _ _ _ slot.2 in
    let room = must_ok _ _ _ _ _ new.1 in
    let more = keys_count columns hidden (record { names = found.names ++ key.id ∷ []; slots = found.slots ++ slot.0 ∷ [] }) picked rest
    room.1 in
    omega (arith, more, length-append found.names (key.id ∷ []))

some_names : (five : List ℕ) (keys : List Key) → 0 < length five → 0 < length keys → 0 < length (flat_map (key_names five) keys)
some_names five [] f h = absurd (omega arith)
some_names five (Named name ∷ rest) f h = omega (arith, length-append (key_names five (Named name)) (flat_map (key_names five) rest))
some_names five (FiveTuple span ∷ rest) f h =
    let one : StreamName = λ id. record { id = id; span = span } in
    omega (arith, f, length-append (map one five) (flat_map (key_names five) rest), length-map five one)

-- a groupby with keys has a key
pub picked_some : (five columns hidden : List ℕ) (picked : Picked) (keys : List Key) → 0 < length five → 0 < length keys
    → keys_checked five columns hidden keys ≡ Ok picked → 0 < length picked.names
picked_some five columns hidden picked keys f h e =
    omega (
      arith,
      some_names five keys f h,
      keys_count columns hidden (record { names = []; slots = [] }) picked
          (flat_map (key_names five) keys) e,
    )

-- the slots of a fold's arguments
slots_valid : (columns hidden : List ℕ) (span : Span) (before slots args : List ℕ) → AreSlots (length columns) before
    → collected before (map (λ id. slot_of columns hidden (record { id = id; span = span })) args) ≡ Ok slots
    → AreSlots (length columns) slots × (length slots ≡ length before + length args)
slots_valid columns hidden span before slots [] v e =
    from_ok (λ (z : List ℕ). AreSlots (length columns) z × (length z ≡ length before + 0)) e (v, omega arith)
slots_valid columns hidden span before slots (id ∷ args) v e = go (slot_of columns hidden (record { id = id; span = span })) refl
    (λ x all k. slots_valid columns hidden span (before ++ x ∷ []) slots args all k) e
  where
    go : (c : Checked ℕ) → slot_of columns hidden (record { id = id; span = span }) ≡ c
        → ((x : ℕ) → AreSlots (length columns) (before ++ x ∷ []) → collected (before ++ x ∷ [])
        (map (λ id. slot_of columns hidden (record { id = id; span = span })) args) ≡ Ok slots
        → AreSlots (length columns) slots × (length slots ≡ length (before ++ x ∷ []) + length args))
        → collected before (c ∷ map (λ id. slot_of columns hidden (record { id = id; span = span })) args) ≡ Ok slots
        → AreSlots (length columns) slots × (length slots ≡ length before + length (id ∷ args))
    go (Ok x) is next e =
        let all = All-push (IsSlot (length columns)) before x v (slot_bound columns hidden (record { id = id; span = span }) x is) in
        let more = next x all e in
        (more.0, omega (arith, more.1, length-append before (x ∷ [])))
    go (Err fault) is next e = cc e

pub arguments_valid : (columns hidden keys : List ℕ) (f : FoldView) (span : Span) (slots : List ℕ)
    → arguments_of columns hidden keys f span ≡ Ok slots
    → AreSlots (length columns) slots × (length slots ≡ length f.args)
arguments_valid columns hidden keys f span slots e =
    let first = found_first _ _ _ e in
    let free = must_not_ok _ _ _ _ _ first.2 in
    let v = slots_valid columns hidden span [] first.0 f.args (All-nil (IsSlot (length columns))) first.1 in
    from_ok (λ (z : List ℕ). AreSlots (length columns) z × (length z ≡ length f.args)) free.1 (v.0, omega (arith, v.1))

pub group_valid : (w : Whole) (columns args : List ℕ) (picked : Picked) (f : FoldView) → IsFold w f
    → ArePicked w.names (length columns) picked → 0 < length picked.names → AreSlots (length columns) args
    → length args ≡ length f.args → IsValidGroup w.folds (length columns) picked.slots f.number args
group_valid w columns args picked f vf vp some va same = record {
  keys_are_slots = vp.slots_in;
  some_keys = omega (arith, vp.same, some);
  most_keys = omega (arith, vp.same, vp.most);
  is_fold = slice_get_within w.folds f.number vf.one vf.is;
  args_are_slots = va;
  all_args = ap (option_map fold_args) vf.is ∙ ap (λ (n : ℕ). Some n) (vf.args ∙ sym same);
}

-- the table of a groupby
pub group_is : (w : Whole) (columns args : List ℕ) (input : ℕ) (picked : Picked) (f : FoldView) → IsFold w f
    → ArePicked w.names (length columns) picked
    → group_shape w.folds (record { input = input; keys = picked.slots; fold_number = f.number; args = args }) ≡ record
    { width = length (picked.names ++ f.states); keys = length picked.names }
group_is w columns args input picked f vf vp =
    let P : ℕ → ℕ → Shape = λ width keys. record { width = width; keys = keys } in
    let width : length picked.slots + unwrap_or (option_map fold_states (slice_get w.folds f.number)) 0 ≡ length
    (picked.names ++ f.states) =
    ap (λ o. length picked.slots + unwrap_or (option_map fold_states o) 0) vf.is
    ∙ omega (arith, vp.same, vf.states, length-append picked.names f.states) in
    ap (λ n. P n (length picked.slots)) width ∙ ap (λ n. P (length (picked.names ++ f.states)) n) vp.same

-- the slots that a `zip` takes from the right
pub others_valid : (slot : ℕ) (names : List ℕ) (columns : List StreamColumn)
    → AreSlots (slot + length columns) (others_from slot names columns)
others_valid slot names [] = All-nil (IsSlot (slot + 0))
others_valid slot names (column ∷ rest) = go (is_among column.name names) (others_valid (slot + 1) names rest)
  where
    more : AreSlots ((slot + 1) + length rest) (others_from (slot + 1) names rest)
        → AreSlots (slot + length (column ∷ rest)) (others_from (slot + 1) names rest)
    more v = let A : ℕ → Type 0 = λ n. AreSlots n (others_from (slot + 1) names rest) in subst A (omega arith) v

    go : (b : Bool) → AreSlots ((slot + 1) + length rest) (others_from (slot + 1) names rest)
        → AreSlots (slot + length (column ∷ rest)) (cond b (others_from (slot + 1) names rest) (slot ∷ others_from (slot + 1) names rest))
    go true v = more v
    go false v = All-cons (IsSlot (slot + length (column ∷ rest))) slot (others_from (slot + 1) names rest) (omega arith) (more v)

some_none : (column : StreamColumn) → (let o : Option StreamColumn = Some column in o) ≡ None → ⊥
some_none column e = cc e

none_within : (columns : List StreamColumn) (slot : ℕ) → slot < length columns → slice_get columns slot ≡ None → ⊥
none_within [] slot h e = omega arith
none_within (column ∷ rest) zero h e = some_none column e
none_within (column ∷ rest) (suc slot) h e = none_within rest slot (omega arith) e

name_at : (names : ℕ) (columns : List StreamColumn) (slot : ℕ) (column : StreamColumn) → AreNames names (column_names columns)
    → slice_get columns slot ≡ Some column → column.name < names
name_at names [] slot column all e = cc e
name_at names (x ∷ rest) zero column all e =
    let same : x ≡ column = cc in
    rw (← same) (All-head (IsName names) x.name (column_names rest) all)
name_at names (x ∷ rest) (suc slot) column all e = name_at names rest slot column (All-tail (IsName names) x.name (column_names rest) all) e

-- the columns at slots are as many as the slots, and their names are among those of the columns
pub picked_valid : (names : ℕ) (columns : List StreamColumn) (slots : List ℕ) → AreNames names (column_names columns)
    → AreSlots (length columns) slots
    → (length (column_names (columns_at columns slots)) ≡ length slots) × AreNames names (column_names (columns_at columns slots))
picked_valid names columns [] all v = (refl, All-nil (IsName names))
picked_valid names columns (slot ∷ rest) all v =
    go (slice_get columns slot) refl (picked_valid names columns rest all (All-tail (IsSlot (length columns)) slot rest v))
  where
    go : (o : Option StreamColumn) → slice_get columns slot ≡ o → (length (column_names (columns_at columns rest)) ≡ length rest)
        × AreNames names (column_names (columns_at columns rest))
        → (length (column_names (columns_at columns (slot ∷ rest))) ≡ length (slot ∷ rest))
        × AreNames names (column_names (columns_at columns (slot ∷ rest)))
    go None is more = absurd (none_within columns slot (All-head (IsSlot (length columns)) slot rest v) is)
    go (Some column) is more =
        rw is (
          omega (arith, more.0),
          All-cons (IsName names) column.name (column_names (columns_at columns rest))
              (name_at names columns slot column all is) more.1,
        )
