-- The columns of folds and groupbys that were checked differ.
use Rattle.marple_laws.proofs.Words
use Words.{◌≡◌, ℕ, zero, suc, ◌+◌, Bool, true, false, ◌||◌, List, [], ◌∷◌, ◌++◌, length, Some, None, Option, Ok, refl, sym, ap, subst, ◌∙◌}
use Words.{inl, inr, arith, nat_eq, nat_lt, if◌then◌else◌, list_any, cons_option, NameTaken, OverLimit, States, Keys, Span, TypedFold}
use Words.{FoldDef, Name, FoldView, must, is_among, place_from, place_of, collected, slot_at, slot_of, MAX_KEYS, MAX_STATES, AreNew}
use Rattle.marple_laws.proofs.Items.{must_ok, must_not_ok, found_first, same_ok, IsIn, mapped_at, not_in, new_push, apart_from}
use Rattle.marple_laws.proofs.Differ.{AreApart}
use Rattle.std.specs.Prelude.{map, slice_get}
use Rattle.query_lang.specs.declared.{query.StateVar.StateVar, typing.{Picked.Picked, StreamColumn.StreamColumn}}
use Rattle.query_lang.specs.TypedFolds.{states_from, args_from, body_checked, fold_checked}
use Rattle.query_lang.specs.TypedStreams.{column_names, columns_at, keys_from, arguments_of}

-- the state variables of a fold

states_new : (found : List ℕ) (states : List StateVar) {all : List ℕ} → AreNew [] found → states_from found states ≡ Ok all → AreNew [] all
states_new found [] new e = subst (AreNew []) (same_ok e) new
states_new found (s ∷ states) {all} new e =
    let a = must_not_ok (is_among s.name.id found) NameTaken s.name.span
    (must (nat_lt (length found) MAX_STATES) (OverLimit States) s.name.span (states_from (found ++ s.name.id ∷ []) states)) e in
    let b = must_ok (nat_lt (length found) MAX_STATES) (OverLimit States) s.name.span all
    a.1 in
    states_new (found ++ s.name.id ∷ []) states (new_push [] found s.name.id new (not_in found s.name.id a.0)) b.1

pub fold_new : (d : FoldDef) {f : TypedFold} → fold_checked d ≡ Ok f → AreNew [] f.state_names
fold_new d {f} e =
    let s = found_first (states_from [] d.states) e in
    let a = found_first (args_from s.0 [] d.args) s.2 in
    let b = found_first (body_checked s.0 a.0 d.body) a.2 in
    subst (AreNew []) (ap (λ (f : TypedFold). f.state_names) (same_ok b.2)) (states_new [] d.states tt s.1)

-- the keys of a groupby

place_found : (at : ℕ) (names : List ℕ) (id slot : ℕ) → place_from at names id ≡ Some slot → (k : ℕ) × (slot ≡ at + k)
    × (slice_get names k ≡ Some id)
place_found at [] id slot e = cc
place_found at (name ∷ names) id slot e = by _ refl e (place_found (at + 1) names id slot)
  where
    by : (b : Bool) → nat_eq name id ≡ b → (if b then Some at else place_from (at + 1) names id) ≡ Some slot →
        (place_from (at + 1) names id ≡ Some slot → (k : ℕ) × (slot ≡ at + 1 + k) × (slice_get names k ≡ Some id)) → (k : ℕ)
        × (slot ≡ at + k) × (slice_get (name ∷ names) k ≡ Some id)
    by true t e rest = let s : at ≡ slot = cc in let n : name ≡ id = grind arith in (0, omega arith, ap Some n)
    by false t e rest = let r = rest e in (suc r.0, omega arith, r.2)

slot_found : (columns hidden : List ℕ) (key : Name) (slot : ℕ) → slot_of columns hidden key ≡ Ok slot → slice_get columns slot ≡ Some key.id
slot_found columns hidden key slot e = by _ refl _ e
  where
    by : (o : Option ℕ) → place_of columns key.id ≡ o → (h : Bool) → slot_at o h key.span ≡ Ok slot → slice_get columns slot ≡ Some key.id
    by None p true e = cc
    by None p false e = cc
    by (Some s) p h e =
        let same : s ≡ slot = same_ok e in
        let f = place_found 0 _ _ s p in
        let at : slot ≡ f.0 = omega arith in
        ap (slice_get _) at ∙ f.2

-- each slot has its name
abbrev ArePicked : List ℕ → List ℕ → List ℕ → Type 0
ArePicked columns [] [] = Unit {0}
ArePicked columns (slot ∷ slots) (name ∷ names) = (slice_get columns slot ≡ Some name) × ArePicked columns slots names
ArePicked columns _ _ = ⊥

picked_push : (columns slots names : List ℕ) (slot : ℕ) {name : ℕ} → ArePicked columns slots names → slice_get columns slot ≡ Some name
    → ArePicked columns (slots ++ slot ∷ []) (names ++ name ∷ [])
picked_push columns [] [] slot p e = (e, tt)
picked_push columns (s ∷ slots) (n ∷ names) slot p e = (p.0, picked_push columns slots names slot p.1 e)
picked_push columns _ _ slot p e = absurd p

record AreKeys (columns : List ℕ) (picked : Picked) : Type 0 where
  new : AreNew [] picked.names
  are : ArePicked columns picked.slots picked.names

keys_new : (columns hidden : List ℕ) (found : Picked) (keys : List Name) (all : Picked) → AreKeys columns found
    → keys_from columns hidden found keys ≡ Ok all → AreKeys columns all
keys_new columns hidden found [] all k e = subst (AreKeys columns) (same_ok e) k
keys_new columns hidden found (key ∷ keys) all k e =
    let s = found_first (slot_of columns hidden key) e in
    let a = must_not_ok (is_among key.id found.names) NameTaken key.span _ s.2 in
    let b = must_ok (nat_lt (length found.names) MAX_KEYS) (OverLimit Keys) key.span all a.1 in
    keys_new columns hidden (record { names = found.names ++ key.id ∷ []; slots = found.slots ++ s.0 ∷ [] }) keys all
    (record {
      new = new_push [] found.names key.id k.new (not_in found.names key.id a.0);
      are = picked_push columns found.slots found.names s.0 k.are (slot_found columns hidden key s.0 s.1);
    }) b.1

-- the columns at the slots have the names of the keys
picked_names : (columns : List StreamColumn) (slots names : List ℕ) → ArePicked (column_names columns) slots names
    → column_names (columns_at columns slots) ≡ names
picked_names columns [] [] p = refl
picked_names columns (slot ∷ slots) (name ∷ names) p =
    let c = mapped_at (λ (c : StreamColumn). c.name) columns slot name p.0 in
    ap (λ o. column_names (cons_option o (columns_at columns slots))) c.1
    ∙ (λ k. c.2 k ∷ picked_names columns slots names p.1 k)
picked_names columns [] (name ∷ names) p = absurd p
picked_names columns (slot ∷ slots) [] p = absurd p

none_among : (keys states : List ℕ) → list_any (λ state. is_among state keys) states ≡ false → (s : ℕ) → IsIn s states
    → is_among s keys ≡ false
none_among keys (t ∷ states) e s h = by _ refl e h (none_among keys states)
  where
    by : (b : Bool) → is_among t keys ≡ b → (b || list_any (λ state. is_among state keys) states) ≡ false → IsIn s (t ∷ states) →
        (list_any (λ state. is_among state keys) states ≡ false → (s : ℕ) → IsIn s states → is_among s keys ≡ false)
        → is_among s keys ≡ false
    by true p e h rest = cc
    by false p e (inl same) rest = ap (λ n. is_among n keys) same ∙ p
    by false p e (inr i) rest = rest e s i
none_among keys [] e s h = absurd h

pub states_apart : (columns hidden keys : List ℕ) (f : FoldView) (span : Span) (slots : List ℕ)
    → arguments_of columns hidden keys f span ≡ Ok slots → AreApart keys f.states
states_apart columns hidden keys f span slots e =
    let s = found_first (collected [] (map (λ id. slot_of columns hidden (record { id = id; span = span })) f.args)) e in
    let a = must_not_ok (list_any (λ state. is_among state keys) f.states) _ _ _ s.2 in
    apart_from _ _ (none_among _ _ a.0)

-- the key columns that a groupby has
pub record AreKeyColumns (columns : List StreamColumn) (picked : Picked) : Type 0 where
  pub new : AreNew [] (column_names (columns_at columns picked.slots))
  pub names : column_names (columns_at columns picked.slots) ≡ picked.names

pub key_columns_are : {columns : List StreamColumn} (hidden : List ℕ) (keys : List Name) {picked : Picked}
    → keys_from (column_names columns) hidden (record { names = []; slots = [] }) keys ≡ Ok picked → AreKeyColumns columns picked
key_columns_are hidden keys e =
    let k = keys_new _ _ _ _ _ (record { new = tt; are = tt }) e in
    let n = picked_names _ _ _ k.are in
    record { new = subst (AreNew []) (sym n) k.new; names = n }
