-- A store of entries after one entry more, and the rows that stand for epochs one after another.
use Rattle.std.proofs.Common.{◌≡◌, ℕ, zero, suc, ◌+◌, true, List, [], ◌∷◌, ◌++◌, Some, length, take, refl, sym, ap, ◌∙◌, subst, arith}
use Rattle.std.proofs.Common.{length-append}
use Rattle.std.specs.Prelude.{slice_get}
use Rattle.epoch_model.specs.{declared.tables.Row.Row, Keys.{ArgRow, Key, key_eq}, Machine.{Epoch, lists_of}, Tables.epochs_shown}
use Rattle.epoch_model.proofs.EpochLists.{lists_of-append}
use Rattle.backing_store.specs.{Store.{IsStore, Store, counted, one_more, states_of}, StoreLaws.{EpochsAreCounted, RowsAreAdded}}
use Rattle.switch_core.specs.Lanes.{Standing}
use Rattle.live_view.specs.Waiting.{EachStands, EntriesStand, RowsStand}
use Rattle.live_view.proofs.Lists.{by_test}

each_more : (stands : Standing) (entries : List (List ℕ)) (lists : List (List ArgRow)) (entry : List ℕ) (rows : List ArgRow)
    → EachStands stands entries lists → stands entry rows → EachStands stands (entries ++ entry ∷ []) (lists ++ rows ∷ [])
each_more stands [] [] entry rows s here = (here, tt)
each_more stands [] (list ∷ lists) entry rows s here = absurd s
each_more stands (first ∷ entries) [] entry rows s here = absurd s
each_more stands (first ∷ entries) (list ∷ lists) entry rows s here = (s.0, each_more stands entries lists entry rows s.1 here)

shown_more : (n : ℕ) → one_more (epochs_shown n) ≡ epochs_shown (n + 1)
shown_more n = omega arith

-- An entry that represents an epoch's rows is counted with a row of its own: the store has the entry of that epoch after the others.
pub one_entry_more : EpochsAreCounted → RowsAreAdded → (stands : Standing) (store : Store) (key : Key) (entry : List ℕ) (rows : List ArgRow)
    (epochs : List Epoch)
    → IsStore store → length key ≡ store.key_words → length entry ≡ store.state_words → stands entry rows → EntriesStand stands store epochs
    → EntriesStand stands (counted store key entry true) (epochs ++ record { key = key; rows = rows } ∷ [])
one_entry_more counts adds stands store key entry rows epochs s long words here held =
    let new : Epoch = record { key = key; rows = rows } in
    record {
      count = λ other. counts store.keys key other ∙ by_test (key_eq key other)
          (λ t. let more : lists_of other (epochs ++ new ∷ []) ≡ lists_of other epochs ++ rows ∷ [] =
          lists_of-append other epochs (new ∷ []) ∙ rw t refl in
          let number : length (lists_of other (epochs ++ new ∷ [])) ≡ length (lists_of other epochs) + 1 =
          ap length more ∙ length-append (lists_of other epochs) (rows ∷ []) in
          let before = held.count other in
          rw (t, before, number) (shown_more (length (lists_of other epochs))))
          (λ t. let same : lists_of other (epochs ++ new ∷ []) ≡ lists_of other epochs ++ [] =
          lists_of-append other epochs (new ∷ []) ∙ rw t refl in
          rw t (held.count other ∙ ap (λ lists. epochs_shown (length lists)) (sym (same ∙ append-nil (lists_of other epochs)))));
      rows = λ other. by_test (key_eq key other)
          (λ t. let more : lists_of other (epochs ++ new ∷ []) ≡ lists_of other epochs ++ rows ∷ [] =
          lists_of-append other epochs (new ∷ []) ∙ rw t refl in
          let states : states_of (counted store key entry true) other ≡ states_of store other ++ entry ∷ [] =
          adds store key other entry true s long words ∙ rw t refl in
          subst (EachStands stands (states_of (counted store key entry true) other)) (sym more)
          (subst (λ entries. EachStands stands entries (lists_of other epochs ++ rows ∷ [])) (sym states)
          (each_more stands (states_of store other) (lists_of other epochs) entry rows (held.rows other) here)))
          (λ t. let same : lists_of other (epochs ++ new ∷ []) ≡ lists_of other epochs ++ [] =
          lists_of-append other epochs (new ∷ []) ∙ rw t refl in
          let states : states_of (counted store key entry true) other ≡ states_of store other =
          adds store key other entry true s long words ∙ rw t refl in
          subst (EachStands stands (states_of (counted store key entry true) other)) (sym (same ∙ append-nil (lists_of other epochs)))
          (subst (λ entries. EachStands stands entries (lists_of other epochs)) (sym states) (held.rows other)));
    }
  where
    append-nil : (lists : List (List ArgRow)) → lists ++ [] ≡ lists
    append-nil [] = refl
    append-nil (list ∷ lists) = ap (λ more. list ∷ more) (append-nil lists)

pub rows_long : (stands : Standing) (rows : List Row) (epochs : List Epoch) → RowsStand stands rows epochs → length rows ≡ length epochs
rows_long stands [] [] s = refl
rows_long stands [] (epoch ∷ epochs) s = absurd s
rows_long stands (row ∷ rows) [] s = absurd s
rows_long stands (row ∷ rows) (epoch ∷ epochs) s = ap (λ n. suc n) (rows_long stands rows epochs s.2)

-- the row at a place stands for the epoch that comes next
pub row_next : (stands : Standing) (rows : List Row) (epochs : List Epoch) (at : ℕ) (row : Row) → RowsStand stands rows epochs
    → slice_get rows at ≡ Some row
    → (epoch : Epoch) × (take (at + 1) epochs ≡ take at epochs ++ epoch ∷ []) × (row.key ≡ epoch.key) × stands row.values epoch.rows
row_next stands rows epochs at row s found =
    let here = next rows epochs at s found in
    (here.0, ap (λ n. take n epochs) (let q : at + 1 ≡ suc at = omega arith in q) ∙ here.1, here.2, here.3)
  where
    next : (rows : List Row) (epochs : List Epoch) (at : ℕ) → RowsStand stands rows epochs → slice_get rows at ≡ Some row
        → (epoch : Epoch) × (take (suc at) epochs ≡ take at epochs ++ epoch ∷ []) × (row.key ≡ epoch.key) × stands row.values epoch.rows
    next [] epochs at s found = cc
    next (first ∷ rows) [] at s found = absurd s
    next (first ∷ rows) (epoch ∷ epochs) zero s found =
        let same : first ≡ row = cc in
        (epoch, refl, ap (λ r. r.key) (sym same) ∙ s.0, subst (λ r. stands r.values epoch.rows) same s.1)
    next (first ∷ rows) (epoch ∷ epochs) (suc at) s found =
        let rest = next rows epochs at s.2 found in
        (rest.0, ap (λ es. epoch ∷ es) rest.1, rest.2, rest.3)
