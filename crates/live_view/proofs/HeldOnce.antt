-- The rows of a store in which all epochs of a key have one.
use Rattle.std.proofs.Common.{◌≡◌, ◌≤◌, ◌<◌, ◌+◌, ℕ, zero, suc, true, false, List, [], ◌∷◌, ◌++◌, length, drop, map, get_or, refl, sym, ap}
use Rattle.std.proofs.{Common.{◌∙◌, arith}, lemmas.{Bool.true≢false, List.length-map}}
use Rattle.std.specs.Prelude.{◌||◌, flat_map}
use Rattle.epoch_model.specs.{declared.tables.{Mark.TheVariants.Plain, Row.Row}, Keys.{ArgRow, Key, ascending, has, key_eq}}
use Rattle.epoch_model.specs.{Machine.{Epoch, lists_of}, Tables.{Folding, epochs_shown, folded}}
use Rattle.epoch_model.proofs.{KeyLists.{by_test, key_eq-refl, key_eq-sym_false}, KeyOrder.has-ascending}
use Rattle.backing_store.specs.{Merged.{StoreHolds, stored}, Ordered.{HasOneRowEach, row_placed}, SortedRows.{sorted_rows, stored_rows}}
use Rattle.backing_store.specs.{Places.row_at, Store.{AreKeysOf, AreRowsOf, IsStore, Store, StoredKey, StoredRow, epochs_of}}
use Rattle.backing_store.specs.{StoreLaws.keys_of, declared.order.Place.Place}
use Rattle.live_view.proofs.NextRow.{has_rest}

-- a key that is there has epochs, and one that isn't has none
pub some_epochs : (words : ℕ) (keys : List StoredKey) (key : Key) → AreKeysOf words keys → has key (keys_of keys) ≡ true
    → 0 < epochs_of keys key
some_epochs words [] key are there = absurd (true≢false (sym there))
some_epochs words (s ∷ keys) key are there = by_test (key_eq key s.key)
    (λ same. rw same are.0.positive)
    (λ apart. rw apart (some_epochs words keys key are.1 (rw (key_eq-sym_false key s.key apart) at there)))

pub no_epochs : (keys : List StoredKey) (key : Key) → has key (keys_of keys) ≡ false → epochs_of keys key ≡ 0
no_epochs [] key absent = refl
no_epochs (s ∷ keys) key absent = by_test (key_eq s.key key)
    (λ same. absurd (true≢false (rw same at absent)))
    (λ apart. rw (key_eq-sym_false s.key key apart) (no_epochs keys key (rw apart at absent)))

pub no_lists : (lists : List (List ArgRow)) → epochs_shown (length lists) ≡ 0 → lists ≡ []
no_lists [] none = refl
no_lists (rows ∷ lists) none = absurd (omega (arith, none))

-- a key that the store lacks has none of the epochs
pub absent_lists : (f : Folding) (store : Store) (closed : List Epoch) (key : Key) → StoreHolds f store closed
    → has key (ascending (keys_of store.keys)) ≡ false → lists_of key closed ≡ []
absent_lists f store closed key holds absent = no_lists (lists_of key closed)
    (sym (holds.count key) ∙ no_epochs store.keys key (sym (has-ascending key (keys_of store.keys)) ∙ absent))

-- the only state of a key, and the only row
only_state : (f : Folding) (lists : List (List ArgRow)) → f.row_per_epoch ≡ false → 0 < length lists
    → stored f lists ≡ folded f (flat_map (λ rows. rows) lists) ∷ []
only_state f [] per_key some = absurd (omega (arith, some))
only_state f (rows ∷ lists) per_key some = rw per_key refl

pub some_lists : (lists : List (List ArgRow)) (epochs : ℕ) → epochs ≡ epochs_shown (length lists) → 0 < epochs → 0 < length lists
some_lists [] epochs is some = absurd (omega (arith, is, some))
some_lists (rows ∷ lists) epochs is some = omega arith

abbrev row_held : Folding → List Epoch → Key → Row
row_held f closed key = record {
  key = key;
  mark = Plain;
  epoch = 1;
  epochs = epochs_shown (length (lists_of key closed));
  values = folded f (flat_map (λ rows. rows) (lists_of key closed));
}

rows_singly : (G : Key → List Row) (F : Key → Row) (keys : List Key) → ((key : Key) → has key keys ≡ true → G key ≡ F key ∷ [])
    → flat_map G keys ≡ map F keys
rows_singly G F [] each = refl
rows_singly G F (key ∷ keys) each =
    ap (λ rows. rows ++ flat_map G keys) (each key (ap (λ t. t || has key keys) (key_eq-refl key)))
    ∙ ap (λ rows. F key ∷ rows) (rows_singly G F keys (λ other there. each other (has_rest key other keys there)))

pub once_each : (f : Folding) (store : Store) (closed : List Epoch) → f.row_per_epoch ≡ false → StoreHolds f store closed
    → HasOneRowEach store
once_each f store closed per_key holds key = rw (holds.rows key) (few (lists_of key closed))
  where
    few : (lists : List (List ArgRow)) → length (stored f lists) ≤ 1
    few [] = rw per_key (omega arith)
    few (rows ∷ lists) = rw per_key (omega arith)

map_at : (g : Place → Row) (F : Key → Row) (places : List Place) (keys : List Key) (at : ℕ) (d : Place) → map g places ≡ map F keys
    → at < length places → (key : Key) × (drop at keys ≡ key ∷ drop (suc at) keys) × (g (get_or places at d) ≡ F key)
map_at g F [] keys at d same within = absurd (omega (arith, within))
map_at g F (place ∷ places) [] at d same within = cc same
map_at g F (place ∷ places) (key ∷ keys) zero d same within = let head : g place ≡ F key = cc same in (key, refl, head)
map_at g F (place ∷ places) (key ∷ keys) (suc at) d same within =
    let tail : map g places ≡ map F keys = cc same in
    map_at g F places keys at d tail (omega (arith, within))

module _ (f : Folding) (store : Store) (closed : List Epoch) (per_key : f.row_per_epoch ≡ false) (is : IsStore store)
    (holds : StoreHolds f store closed) where
  row_of_key : (key : Key) → has key (ascending (keys_of store.keys)) ≡ true → stored_rows store key ≡ row_held f closed key ∷ []
  row_of_key key there =
      let some = some_lists (lists_of key closed) (epochs_of store.keys key) (holds.count key)
      (some_epochs store.key_words store.keys key is.keys (sym (has-ascending key (keys_of store.keys)) ∙ there)) in
      rw (holds.count key, holds.rows key ∙ only_state f (lists_of key closed) per_key some) refl

  rows_held : sorted_rows store ≡ map (row_held f closed) (ascending (keys_of store.keys))
  rows_held = rows_singly (stored_rows store) (row_held f closed) (ascending (keys_of store.keys)) row_of_key

  -- what a place lends is the row of the next key
  pub record IsHeld (at : ℕ) (key : Key) (epochs : ℕ) (values : List ℕ) : Type 0 where
    pub next : drop at (ascending (keys_of store.keys)) ≡ key ∷ drop (at + 1) (ascending (keys_of store.keys))
    pub many : epochs ≡ epochs_shown (length (lists_of key closed))
    pub state : values ≡ folded f (flat_map (λ rows. rows) (lists_of key closed))

  pub place_held : (places : List Place) (at : ℕ) (d : Place) (key : Key) (epochs : ℕ) (values : List ℕ)
      → map (row_placed store) places ≡ sorted_rows store → at < length places → key ≡ (row_placed store (get_or places at d)).key
      → epochs ≡ (row_placed store (get_or places at d)).epochs → values ≡ (row_placed store (get_or places at d)).values
      → IsHeld at key epochs values
  place_held places at d key epochs values same within its_key its_epochs its_values =
      let found = map_at (row_placed store) (row_held f closed) places (ascending (keys_of store.keys)) at d (same ∙ rows_held) within in
      let more : suc at ≡ at + 1 = omega arith in
      let is : found.0 ≡ key = sym (its_key ∙ ap (λ (row : Row). row.key) found.2) in
      record {
        next = found.1 ∙ ap (λ n. found.0 ∷ drop n (ascending (keys_of store.keys))) more
            ∙ ap (λ k. k ∷ drop (at + 1) (ascending (keys_of store.keys))) is;
        many = its_epochs ∙ ap (λ (row : Row). row.epochs) found.2 ∙ ap (λ k. epochs_shown (length (lists_of k closed))) is;
        state = its_values ∙ ap (λ (row : Row). row.values) found.2
            ∙ ap (λ k. folded f (flat_map (λ rows. rows) (lists_of k closed))) is;
      }

  pub as_many : (places : List Place) → map (row_placed store) places ≡ sorted_rows store
      → length places ≡ length (ascending (keys_of store.keys))
  as_many places same = sym (length-map places (row_placed store)) ∙ ap length (same ∙ rows_held)
      ∙ length-map (ascending (keys_of store.keys)) (row_held f closed)

-- a row of the store has as many words as its states
pub row_words : (keys words : ℕ) (rows : List StoredRow) (at : ℕ) → AreRowsOf keys words rows → at < length rows
    → length (row_at rows at).words ≡ words
row_words keys words [] at are within = absurd (omega (arith, within))
row_words keys words (row ∷ rows) zero are within = are.1
row_words keys words (row ∷ rows) (suc at) are within = row_words keys words rows at are.2 (omega (arith, within))
