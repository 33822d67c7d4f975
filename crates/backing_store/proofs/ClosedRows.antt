-- The rows of a store that holds all closed epochs are those of their table.
use Rattle.std.proofs.Common.{◌≡◌, ℕ, zero, suc, ◌+◌, ◌<◌, ◌==◌, ◌||◌, Bool, true, List, [], ◌∷◌, ◌++◌, length, map, refl, sym, ap}
use Rattle.std.proofs.{Common.{◌∙◌, subst, arith}, lemmas.List.{map-append, length-map, Sums.{sum_by-append, sum_by-cons}}}
use Rattle.std.{proofs.lemmas.Bool.{true≢false, lt-ltb, Decides.nat_tests}, specs.List.{flat_map, sum_by}}
use Rattle.std.specs.Prelude.{nat_lt, if◌then◌else◌}
use Rattle.epoch_model.specs.declared.tables.{Row.Row, Mark.{Mark, TheVariants.{Plain, Valid, Invalid}}}
use Rattle.epoch_model.specs.{Keys.{Key, ArgRow, key_eq, has, ascending}, Machine.{Epoch, lists_of}, Tables.{Folding, folded, epochs_shown}}
use Rattle.epoch_model.specs.Tables.{mark_of, exact_row, epoch_rows, closed_key_rows, closed_keys, closed_rows, closed_epochs}
use Rattle.epoch_model.proofs.KeyLists.{by_test, key_eq-true, key_eq-refl, key_eq-sym_false}
use Rattle.epoch_model.proofs.KeyOrder.{ascending-ascends, has-ascending, same_ascending}
use Rattle.backing_store.specs.{Store.{Store, StoredKey, IsStore, AreKeysOf, epochs_of, states_of}, StoreLaws.keys_of}
use Rattle.backing_store.specs.{SortedRows.{numbered, stored_rows, sorted_rows}, Merged.{StoreHolds, stored, shown_row, epochs_in}}
use Rattle.backing_store.{specs.HeldRows.HeldRowsAreTheTables, proofs.StoreFacts.or_true}

-- the keys of the store and of the closed epochs are the same

has_some : (words : ℕ) (keys : List StoredKey) (key : Key) → AreKeysOf words keys → has key (keys_of keys) ≡ nat_lt 0 (epochs_of keys key)
has_some words [] key k = refl
has_some words (s ∷ keys) key k = by_test (key_eq key s.key)
    (λ t. let here : key_eq s.key key ≡ true = subst (λ x. key_eq x key ≡ true) (key_eq-true key s.key t) (key_eq-refl key) in
    let some : nat_lt 0 s.epochs ≡ true = lt-ltb 0 s.epochs k.0.positive in
    rw (here, t, some) refl)
    (λ t. let there = key_eq-sym_false key s.key t in rw (there, t) (has_some words keys key k.1))

has_lists : (key : Key) (closed : List Epoch) → has key (map (λ epoch. epoch.key) closed) ≡ nat_lt 0 (length (lists_of key closed))
has_lists key [] = refl
has_lists key (e ∷ closed) = by_test (key_eq e.key key)
    (λ t. rw t (sym (lt-ltb 0 (suc (length (lists_of key closed))) (omega arith))))
    (λ t. rw t (has_lists key closed))

shown_some : (n : ℕ) → nat_lt 0 (epochs_shown n) ≡ nat_lt 0 n
shown_some zero = refl
shown_some (suc n) = lt-ltb 0 (epochs_shown (suc n)) (omega arith) ∙ sym (lt-ltb 0 (suc n) (omega arith))

same_keys : (f : Folding) (store : Store) (closed : List Epoch) → IsStore store → StoreHolds f store closed
    → ascending (map (λ stored. stored.key) store.keys) ≡ closed_keys closed
same_keys f store closed s h = same_ascending (ascending (keys_of store.keys)) (closed_keys closed) (ascending-ascends (keys_of store.keys))
    (ascending-ascends (map (λ epoch. epoch.key) closed))
    (λ k. has-ascending k (keys_of store.keys) ∙ (has_some store.key_words store.keys k s.keys
    ∙ (ap (nat_lt 0) (h.count k) ∙ (shown_some (length (lists_of k closed))
    ∙ (sym (has_lists k closed) ∙ sym (has-ascending k (map (λ epoch. epoch.key) closed)))))))

-- a key that is there has a row list
some_lists : (key : Key) (closed : List Epoch) → has key (closed_keys closed) ≡ true → 0 < length (lists_of key closed)
some_lists key closed h = positive (length (lists_of key closed)) (sym (has_lists key closed)
    ∙ (sym (has-ascending key (map (λ epoch. epoch.key) closed)) ∙ h))
  where
    positive : (n : ℕ) → nat_lt 0 n ≡ true → 0 < n
    positive zero h = absurd (true≢false (sym h))
    positive (suc n) h = omega arith

-- the rows of one key

mark_shown : (n : ℕ) → mark_of (epochs_shown n) ≡ mark_of n
mark_shown n = ap (λ (t : Bool). if t then Valid else Invalid) (same_test n)
  where
    same_test : (n : ℕ) → (epochs_shown n == 1) ≡ (n == 1)
    same_test n = grind (arith, nat_tests)

each_shown : (f : Folding) (key : Key) (count number : ℕ) (lists : List (List ArgRow))
    → map (shown_row true) (numbered key (epochs_shown count) number (map (folded f) lists)) ≡ epoch_rows f key count number lists
each_shown f key count number [] = refl
each_shown f key count number (rows ∷ lists) =
    let first : shown_row true (record { key = key; mark = Plain; epoch = number; epochs = epochs_shown count; values = folded f rows })
    ≡ record { key = key; mark = mark_of count; epoch = number; epochs = epochs_shown count; values = folded f rows } =
    ap (λ (mark : Mark). record { key = key; mark = mark; epoch = number; epochs = epochs_shown count; values = folded f rows })
    (mark_shown count) in
    ap (λ (row : Row). row ∷ map (shown_row true) (numbered key (epochs_shown count) (suc number) (map (folded f) lists))) first
    ∙ ap (λ rs. record { key = key; mark = mark_of count; epoch = number; epochs = epochs_shown count; values = folded f rows } ∷ rs)
    (each_shown f key count (suc number) lists)

key_shown : (f : Folding) (key : Key) (lists : List (List ArgRow)) → 0 < length lists
    → map (shown_row f.row_per_epoch) (numbered key (epochs_shown (length lists)) 1 (stored f lists))
    ≡ (if f.row_per_epoch then epoch_rows f key (length lists) 1 lists else
    (exact_row f key (length lists) (flat_map (λ rows. rows) lists) ∷ []))
key_shown f key [] h = absurd (omega arith)
key_shown f key (rows ∷ lists) h = by_test f.row_per_epoch
    (λ t. rw t (each_shown f key (length (rows ∷ lists)) 1 (rows ∷ lists)))
    (λ t. rw t refl)

key_rows_shown : (f : Folding) (store : Store) (closed : List Epoch) (key : Key) → StoreHolds f store closed
    → has key (closed_keys closed) ≡ true
    → map (shown_row f.row_per_epoch) (stored_rows store key) ≡ closed_key_rows f closed key
key_rows_shown f store closed key h there =
    ap (λ n. map (shown_row f.row_per_epoch) (numbered key n 1 (states_of store key))) (h.count key)
    ∙ (ap (λ states. map (shown_row f.row_per_epoch) (numbered key (epochs_shown (length (lists_of key closed))) 1 states)) (h.rows key)
    ∙ key_shown f key (lists_of key closed) (some_lists key closed there))

-- the rows of all keys

flat_map_alike : (F G : Key → List Row) (keys : List Key) → ((k : Key) → has k keys ≡ true → F k ≡ G k) → flat_map F keys ≡ flat_map G keys
flat_map_alike F G [] h = refl
flat_map_alike F G (k ∷ keys) h =
    ap (λ rs. rs ++ flat_map F keys) (h k (ap (λ t. t || has k keys) (key_eq-refl k)))
    ∙ ap (λ rs. G k ++ rs) (flat_map_alike F G keys (λ x t. h x (ap (λ u. key_eq k x || u) t ∙ or_true (key_eq k x))))

map_flat_map : (F : Row → Row) (G : Key → List Row) (keys : List Key) → map F (flat_map G keys) ≡ flat_map (λ k. map F (G k)) keys
map_flat_map F G [] = refl
map_flat_map F G (k ∷ keys) = map-append F (G k) (flat_map G keys) ∙ ap (λ rs. map F (G k) ++ rs) (map_flat_map F G keys)

pub rows_shown : (f : Folding) (store : Store) (closed : List Epoch) → IsStore store → StoreHolds f store closed
    → map (shown_row f.row_per_epoch) (sorted_rows store) ≡ closed_rows f closed
rows_shown f store closed s h =
    map_flat_map (shown_row f.row_per_epoch) (stored_rows store) (ascending (map (λ stored. stored.key) store.keys))
    ∙ (ap (flat_map (λ k. map (shown_row f.row_per_epoch) (stored_rows store k))) (same_keys f store closed s h)
    ∙ flat_map_alike (λ k. map (shown_row f.row_per_epoch) (stored_rows store k)) (closed_key_rows f closed) (closed_keys closed)
    (λ k there. key_rows_shown f store closed k h there))

-- the number of epochs

shown_added : (a b c d : ℕ) → epochs_shown a ≡ epochs_shown b → epochs_shown c ≡ epochs_shown d
    → epochs_shown (a + c) ≡ epochs_shown (b + d)
shown_added a b c d e h = omega arith

sums_shown : (F G : Key → ℕ) (keys : List Key) → ((k : Key) → has k keys ≡ true → epochs_shown (F k) ≡ epochs_shown (G k))
    → epochs_shown (sum_by F keys) ≡ epochs_shown (sum_by G keys)
sums_shown F G [] h = refl
sums_shown F G (k ∷ keys) h =
    ap epochs_shown (sum_by-cons F k keys)
    ∙ (shown_added (F k) (G k) (sum_by F keys) (sum_by G keys) (h k (ap (λ t. t || has k keys) (key_eq-refl k)))
    (sums_shown F G keys (λ x t. h x (ap (λ u. key_eq k x || u) t ∙ or_true (key_eq k x))))
    ∙ sym (ap epochs_shown (sum_by-cons G k keys)))

sum_flat_map : (F : Row → ℕ) (G : Key → List Row) (keys : List Key) → sum_by F (flat_map G keys) ≡ sum_by (λ k. sum_by F (G k)) keys
sum_flat_map F G [] = refl
sum_flat_map F G (k ∷ keys) = sum_by-append F (G k) (flat_map G keys) ∙ (ap (λ n. sum_by F (G k) + n) (sum_flat_map F G keys)
    ∙ sym (sum_by-cons (λ x. sum_by F (G x)) k keys))

ones : (key : Key) (epochs number : ℕ) (states : List (List ℕ)) → sum_by (epochs_in true) (numbered key epochs number states) ≡ length
    states
ones key epochs number [] = refl
ones key epochs number (state ∷ states) = sum_by-cons (epochs_in true)
    (record { key = key; mark = Plain; epoch = number; epochs = epochs; values = state }) (numbered key epochs (suc number) states)
    ∙ (let e = ones key epochs (suc number) states in omega arith)

key_epochs : (f : Folding) (key : Key) (lists : List (List ArgRow)) → 0 < length lists
    → epochs_shown (sum_by (epochs_in f.row_per_epoch) (numbered key (epochs_shown (length lists)) 1 (stored f lists))) ≡ epochs_shown
    (length lists)
key_epochs f key [] h = absurd (omega arith)
key_epochs f key (rows ∷ lists) h = by_test f.row_per_epoch
    (λ t. rw t (ap epochs_shown (ones key (epochs_shown (length (rows ∷ lists))) 1 (map (folded f) (rows ∷ lists))
    ∙ length-map (rows ∷ lists) (folded f))))
    (λ t. rw t (omega arith))

pub epochs_are_shown : (f : Folding) (store : Store) (closed : List Epoch) → IsStore store → StoreHolds f store closed
    → epochs_shown (sum_by (epochs_in f.row_per_epoch) (sorted_rows store)) ≡ closed_epochs closed
epochs_are_shown f store closed s h =
    ap epochs_shown (sum_flat_map (epochs_in f.row_per_epoch) (stored_rows store) (ascending (map (λ stored. stored.key) store.keys)))
    ∙ (ap (λ keys. epochs_shown (sum_by (λ k. sum_by (epochs_in f.row_per_epoch) (stored_rows store k)) keys))
    (same_keys f store closed s h)
    ∙ sums_shown (λ k. sum_by (epochs_in f.row_per_epoch) (stored_rows store k)) (λ k. length (lists_of k closed)) (closed_keys closed)
    (λ k there.
    ap (λ n. epochs_shown (sum_by (epochs_in f.row_per_epoch) (numbered k n 1 (states_of store k)))) (h.count k)
    ∙ (ap (λ states. epochs_shown (sum_by (epochs_in f.row_per_epoch) (numbered k (epochs_shown (length (lists_of k closed))) 1 states)))
    (h.rows k)
    ∙ key_epochs f k (lists_of k closed) (some_lists k closed there))))

pub held_shown : HeldRowsAreTheTables
held_shown = record { rows = rows_shown; epochs = epochs_are_shown }
