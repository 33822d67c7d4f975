-- The last row of each key gives its bounds.
use Rattle.std.proofs.Common.{◌≡◌, ℕ, suc, ◌*◌, ◌<◌, ◌==◌, Bool, true, false, ◌||◌, List, [], ◌∷◌, ◌++◌, length, map, drop, refl, sym, ap}
use Rattle.std.proofs.{Common.{◌∙◌, subst, arith, length-append, if◌then◌else◌}, lemmas.Bool.Decides.nat_tests}
use Rattle.std.proofs.lemmas.List.{length-map, length-take-le, length-drop, places, Elements.{All-nil, All-cons, All-head, All-tail}}
use Rattle.std.{proofs.Math.Seq.{take-append_seam, drop-append_seam}, specs.declared.cmp.Ordering.TheVariants.Less}
use Rattle.std.specs.List.{All, filter, flat_map}
use Rattle.query_lang.specs.{declared.fold.TypedFold.TypedFold, Words.AreWords}
use Rattle.query_lang.specs.Folds as Folds
use Rattle.query_lang.specs.Folds.{fold_states, initial_state}
use Rattle.epoch_model.specs.declared.tables.{Mark.{Mark, TheVariants.{Exact, Valid, Invalid, Plain}}, Row.Row}
use Rattle.epoch_model.specs.{Keys.{Key, ArgRow, key_eq, key_cmp, has, AreAbove, IsAscending}, Epochs.{Use, Geometry, is_use_of, epochs}}
use Rattle.epoch_model.specs.Tables.{Folding, folded, mark_of, epochs_shown, epoch_rows, exact_row, key_rows, keys_used, group_rows}
use Rattle.epoch_model.{specs.Tables.group_epochs, proofs.{Cuts.epochs_cut_the_rows_lem, KeyLists.{by_test, key_eq-true, key_eq-refl}}}
use Rattle.epoch_model.proofs.KeyOrder.{ascending-ascends, has-ascending, same_ascending}
use Rattle.epoch_entry.specs.{Bounds.{bounds_after, IsBoundsKindOf}, Kinds.Sizes}
use Rattle.final_queries.specs.{Finals.HasColumns, declared.table.{Table.Table, TableKind.TheVariants.Group}, GroupTable.Heading}
use Rattle.enclosure_folds.specs.{declared.table.{BoundsRow.BoundsRow, BoundsTable.BoundsTable}, Bounds.{last_or, all_rows, Encloses}}
use Rattle.enclosure_folds.specs.{BoundsTables.HasBounds, KeyBounds.{key_bounds, listed_bounds, table_bounds, goes_on, row_bounds}}
use Rattle.enclosure_folds.specs.KeyBounds.{bounds_in, low_in, high_in, states_in, use_rows, EpochRowsGiveBounds, KeyBoundsEnclose}
use Rattle.enclosure_folds.{specs.KeyBounds.TriplesGiveWholeTables, proofs.BoundLemmas.{last_map, some_pieces, enclosed}}

-- each key that is used has an epoch

or_true : (a b : Bool) → b ≡ true → (a || b) ≡ true
or_true true b e = refl
or_true false b e = e

pub all_of : (P : Key → Type 0) (keys : List Key) → ((k : Key) → has k keys ≡ true → P k) → All P keys
all_of P [] h = All-nil P
all_of P (x ∷ xs) h = All-cons P x _ (h x (ap (λ t. t || has x xs) (key_eq-refl x)))
    (all_of P xs (λ k e. h k (or_true _ _ e)))

pub has_use : (key : Key) (uses : List Use) → has key (map (λ u. u.key) uses) ≡ true → 0 < length (filter (is_use_of key) uses)
has_use key [] e = absurd cc
has_use key (u ∷ uses) e = by_test (key_eq u.key key)
    (λ t. rw t (omega arith))
    (λ t. rw t (has_use key uses (sym (ap (λ b. b || has key (map (λ u. u.key) uses)) t) ∙ e)))

has_epoch : (g : Geometry) (uses : List Use) (key : Key) → 0 < length (filter (is_use_of key) uses) → 0 < length (epochs g uses key)
has_epoch g uses key some =
    let mine = filter (is_use_of key) uses in
    some_pieces (epochs g uses key) (map (λ u. u.row) mine) (epochs_cut_the_rows_lem g uses key).0
    (omega (arith, some, length-map {A = Use} {B = ArgRow} mine (λ u. u.row)))

all_have_epochs : (g : Geometry) (uses : List Use) → All (λ key. 0 < length (epochs g uses key)) (keys_used uses)
all_have_epochs g uses =
    all_of (λ key. 0 < length (epochs g uses key)) _
    (λ key e. has_epoch g uses key (has_use key uses (sym (has-ascending key (map (λ u. u.key) uses)) ∙ e)))

-- a key differs from a greater one

or_same : (t : Bool) → (t || (t || false)) ≡ (t || false)
or_same true = refl
or_same false = refl

not_above_itself : (a : Key) → key_cmp a a ≡ Less → ⊥
not_above_itself a e =
    let same : a ∷ a ∷ [] ≡ a ∷ [] = same_ascending _ _ ((e, tt), (tt, tt)) (tt, tt) (λ k. or_same _) in
    absurd (omega (arith, ap length same))

less_apart : (a b : Key) → key_cmp a b ≡ Less → key_eq a b ≡ false
less_apart a b e = by_test _
    (λ t. absurd (not_above_itself a (rw (← (key_eq-true a b t)) at e)))
    (λ t. t)

-- the rows of one key

module _ (n : ℕ) (folding : Folding) (key : Key) (count : ℕ) where
  abbrev bounds_by : List ArgRow → BoundsRow
  bounds_by rows = row_bounds n (record {
    key = key;
    mark = mark_of count;
    epoch = 0;
    epochs = epochs_shown count;
    values =
        folded folding rows;
  })

  last_counts : (number : ℕ) (x : List ArgRow) (xs : List (List ArgRow)) (rest : List Row) → goes_on key rest ≡ false →
      bounds_in n (epoch_rows folding key count number (x ∷ xs) ++ rest) ≡ bounds_by (last_or x xs) ∷ bounds_in n rest
  last_counts number x [] rest other = rw other
  last_counts number x (y ∷ ys) rest other = rw (key_eq-refl _) (last_counts (suc number) y ys rest other)

-- the rows of keys, by the row lists of each

module _ (f : TypedFold) (sizes : Sizes) (folding : Folding) (opening absorbing : ℕ) (h : IsBoundsKindOf f sizes folding opening absorbing)
    (lists : Key → List (List ArgRow)) (rows : Key → List Row)
    (rows_are : (key : Key) → rows key ≡ epoch_rows folding key (length (lists key)) 1 (lists key)) where
  abbrev n : ℕ
  n = fold_states f

  by_pieces : (key : Key) (x : List ArgRow) (xs : List (List ArgRow)) → bounds_by n folding key (length (x ∷ xs)) (last_or x xs)
      ≡ listed_bounds f key (x ∷ xs)
  by_pieces key x [] = ap (λ state. row_bounds n (record { key = key; mark = Valid; epoch = 0; epochs = epochs_shown 1; values = state }))
      (h.folded x)
  by_pieces key x (y ∷ ys) =
      let many : (suc (suc (length ys)) == 1) ≡ false = grind (arith, nat_tests) in
      let count = suc (suc (length ys)) in
      ap (λ b. row_bounds n (record {
        key = key;
        mark = if b then Valid else Invalid;
        epoch = 0;
        epochs = epochs_shown count;
        values =
            folded folding (last_or y ys);
      })) many
      ∙ ap (λ state. row_bounds n (record { key = key; mark = Invalid; epoch = 0; epochs = epochs_shown count; values = state }))
      (h.folded (last_or y ys) ∙ sym (last_map (bounds_after f) y ys))

  -- rows of a greater key come next
  other_next : (key : Key) (keys : List Key) → AreAbove key keys → All (λ k. 0 < length (lists k)) keys
      → goes_on key (flat_map rows keys) ≡ false
  other_next key [] above all = refl
  other_next key (next ∷ keys) above all =
      ap (λ made. goes_on key (made ++ flat_map rows keys)) (rows_are next)
      ∙ go (lists next) (All-head (λ k. 0 < length (lists k)) next _ all)
    where
      go : (pieces : List (List ArgRow)) → 0 < length pieces → goes_on key
          (epoch_rows folding next (length pieces) 1 pieces ++ flat_map rows keys) ≡ false
      go [] some = absurd (omega (arith, some))
      go (x ∷ xs) some = less_apart _ _ above.0

  one_key : (key : Key) (rest : List Row) → goes_on key rest ≡ false → 0 < length (lists key)
      → bounds_in n (rows key ++ rest) ≡ listed_bounds f key (lists key) ∷ bounds_in n rest
  one_key key rest other some = ap (λ made. bounds_in n (made ++ rest)) (rows_are _) ∙ go _ some
    where
      go : (pieces : List (List ArgRow)) → 0 < length pieces → bounds_in n (epoch_rows folding key (length pieces) 1 pieces ++ rest)
          ≡ listed_bounds f key pieces ∷ bounds_in n rest
      go [] some = absurd (omega (arith, some))
      go (x ∷ xs) some = last_counts n folding key (length (x ∷ xs)) 1 x xs rest other
          ∙ ap (λ row. row ∷ bounds_in n rest) (by_pieces key x xs)

  pub rows_give : (keys : List Key) → IsAscending keys → All (λ key. 0 < length (lists key)) keys
      → bounds_in n (flat_map rows keys) ≡ map (λ key. listed_bounds f key (lists key)) keys
  rows_give [] order all = refl
  rows_give (key ∷ keys) order all =
      let later = All-tail (λ k. 0 < length (lists k)) key keys all in
      one_key key (flat_map rows keys) (other_next key keys order.0 later) (All-head (λ k. 0 < length (lists k)) key keys all)
      ∙ ap (λ made. listed_bounds f key (lists key) ∷ made) (rows_give keys order.1 later)

-- the table of bounds of a table with these rows, which give these bounds
module _ (heading : Heading) (epochs_all : ℕ) (rows : List Row) (made : List BoundsRow) where
  abbrev with_rows : Table
  with_rows = record {
    name = heading.name;
    columns = heading.key_names ++ heading.state_names;
    keys = length heading.key_names;
    kind = Group heading.class heading.depth epochs_all;
    rows = rows;
  }

  abbrev with_bounds : BoundsTable
  with_bounds = record {
    name = heading.name;
    key_names = heading.key_names;
    state_names = heading.state_names;
    depth = heading.depth;
    epochs = epochs_all;
    rows = made;
  }

  pub gives : (n : ℕ) → length heading.state_names ≡ n → bounds_in n rows ≡ made → table_bounds with_rows ≡ with_bounds
  gives n states e =
      let names = heading.key_names in
      let others : states_in with_rows ≡ n = omega (arith, length-append names heading.state_names, states) in
      let front = take-append_seam names heading.state_names in
      let back = drop-append_seam names heading.state_names in
      let is = ap (λ k. bounds_in k rows) others ∙ e in
      ap (λ z. record with_bounds {
        key_names = z;
        state_names = drop with_rows.keys with_rows.columns;
        rows =
            bounds_in (states_in with_rows) rows;
      }) front
      ∙ ap (λ z. record with_bounds { state_names = z; rows = bounds_in (states_in with_rows) rows }) back
      ∙ ap (λ z. record with_bounds { rows = z }) is

pub give_bounds : EpochRowsGiveBounds
give_bounds heading f sizes folding opening absorbing g uses h states =
    gives heading (group_epochs g uses) (group_rows folding g uses) (map (key_bounds f g uses) (keys_used uses)) (fold_states f) states
    (rows_give f sizes folding opening absorbing h (epochs g uses) (key_rows folding g uses)
    (λ key. ap (λ b. if b then epoch_rows folding key (length (epochs g uses key)) 1 (epochs g uses key) else
    (exact_row folding key (length (epochs g uses key)) (map (λ u. u.row) (filter (is_use_of key) uses)) ∷ [])) h.row_per_epoch)
    (keys_used uses) (ascending-ascends (map (λ u. u.key) uses)) (all_have_epochs g uses))

pub keys_enclose : KeyBoundsEnclose
keys_enclose f g uses key valid mono words rows some =
    let pieces = epochs g uses key in
    let cut : all_rows pieces ≡ use_rows uses key = (epochs_cut_the_rows_lem g uses key).0 in
    subst (λ z. Encloses (key_bounds f g uses key).low (key_bounds f g uses key).high (Folds.folded f (initial_state f) z)) cut
    (enclosed f valid mono words pieces (subst (All AreWords) (sym cut) rows) (some_pieces pieces (use_rows uses key) cut some))

-- the bounds have as many words as there are states

module _ (n : ℕ) (triple : List ℕ) (long : length triple ≡ 3 * n) where
  long_low : (mark : Mark) → length (low_in n mark triple) ≡ n
  long_low Exact = grind (arith, places)
  long_low Valid = grind (arith, places)
  long_low Invalid = grind (arith, places)
  long_low Plain = grind (arith, places)

  long_high : (mark : Mark) → length (high_in n mark triple) ≡ n
  long_high Exact = grind (arith, places)
  long_high Valid = grind (arith, places)
  long_high Invalid = grind (arith, places)
  long_high Plain = grind (arith, places)

have_bounds : (keys n : ℕ) (rows : List Row) → All (HasColumns keys (3 * n)) rows → All (HasBounds keys n) (bounds_in n rows)
have_bounds keys n [] all = All-nil (HasBounds keys n)
have_bounds keys n (row ∷ rows) all =
    let here = All-head (HasColumns keys (3 * n)) row rows all in
    let later = have_bounds keys n rows (All-tail (HasColumns keys (3 * n)) row rows all) in
    by_test (goes_on row.key rows)
    (λ t. rw t later)
    (λ t. rw t (All-cons (HasBounds keys n) (row_bounds n row) (bounds_in n rows)
    (record { key = here.key; low = long_low n row.values here.values row.mark; high = long_high n row.values here.values row.mark })
    later))

pub whole_table : TriplesGiveWholeTables
whole_table t h some most =
    let keys = length-take-le t.keys t.columns h.keys in
    let states = length-drop t.keys t.columns in record {
      some_keys = omega (arith, keys, some);
      most_keys = omega (arith, keys, most);
      rows = rw keys (rw states (have_bounds t.keys (states_in t) t.rows h.rows));
    }
