-- The rows of a store of entries, by ascending key: each stands for an epoch, and these epochs have the same row lists of each key.
use Rattle.std.proofs.Common.{◌≡◌, ℕ, suc, ◌==◌, true, false, List, [], ◌∷◌, ◌++◌, length, map, refl, sym, ap, ap₂, ◌∙◌, subst, arith}
use Rattle.std.proofs.{Common.{append-nil, append_assoc, drop, take, take-append-drop}, lemmas.Bool.false≢true}
use Rattle.std.proofs.lemmas.{Cmp.{nat_list_cmp_total, tied_itself}, List.Elements.{All-append, All-cons, All-head, All-nil, All-tail}}
use Rattle.std.specs.{List.flat_map, Ordering.{is_gt, is_lt}, Prelude.{All, ◌||◌}, declared.cmp.Ordering.TheVariants.Less}
use Rattle.epoch_model.specs.{declared.tables.Row.Row, Keys.{AreAbove, ArgRow, IsAscending, Key, ascending, has, key_cmp, key_eq, with_key}}
use Rattle.epoch_model.specs.{Machine.{Epoch, Machine, lists_of}, Tables.{Folding, epochs_shown}}
use Rattle.epoch_model.proofs.{EpochLists.lists_of-append, KeyLists.{absent_head, key_eq-refl, key_eq-sym_false, key_eq-true}}
use Rattle.epoch_model.proofs.KeyOrder.{ascending-ascends, has-ascending}
use Rattle.backing_store.specs.{Merged.{StoreHolds, stored}, SortedRows.{numbered, sorted_rows, stored_rows}, StoreLaws.keys_of}
use Rattle.backing_store.specs.Store.{AreKeysOf, AreRowsOf, IsStore, Store, StoredKey, StoredRow, epochs_of, number_of, states_at}
use Rattle.backing_store.specs.Store.{states_of}
use Rattle.switch_core.specs.Lanes.{Standing}
use Rattle.live_view.specs.{Merging.IsEntryOf, Views.{all_epochs, open_epochs}, Waiting.{EachStands, EntriesStand, RowsStand, unmerged}}
use Rattle.live_view.proofs.Lists.{by_test}

-- the epochs of a key with these row lists
abbrev epochs_with : Key → List (List ArgRow) → List Epoch
epochs_with key lists = map (λ rows. record { key = key; rows = rows }) lists

-- the epochs of these keys, key by key
abbrev by_key : List Epoch → List Key → List Epoch
by_key epochs keys = flat_map (λ key. epochs_with key (lists_of key epochs)) keys

-- the epochs by the ascending keys of a store
abbrev pub sorted : Store → List Epoch → List Epoch
sorted store epochs = by_key epochs (ascending (keys_of store.keys))

-- the rows stand for the epochs

both_stand : (stands : Standing) (rows more : List Row) (epochs others : List Epoch) → RowsStand stands rows epochs
    → RowsStand stands more others → RowsStand stands (rows ++ more) (epochs ++ others)
both_stand stands [] more [] others s t = t
both_stand stands [] more (epoch ∷ epochs) others s t = absurd s
both_stand stands (row ∷ rows) more [] others s t = absurd s
both_stand stands (row ∷ rows) more (epoch ∷ epochs) others s t = (s.0, s.1, both_stand stands rows more epochs others s.2 t)

key_stands : (stands : Standing) (key : Key) (count first : ℕ) (entries : List (List ℕ)) (lists : List (List ArgRow))
    → EachStands stands entries lists → RowsStand stands (numbered key count first entries) (epochs_with key lists)
key_stands stands key count first [] [] s = tt
key_stands stands key count first [] (rows ∷ lists) s = absurd s
key_stands stands key count first (entry ∷ entries) [] s = absurd s
key_stands stands key count first (entry ∷ entries) (rows ∷ lists) s = (
  refl,
  s.0,
  key_stands stands key count (suc first) entries lists s.1,
)

keys_stand : (stands : Standing) (store : Store) (epochs : List Epoch) (keys : List Key) → EntriesStand stands store epochs
    → RowsStand stands (flat_map (stored_rows store) keys) (by_key epochs keys)
keys_stand stands store epochs [] held = tt
keys_stand stands store epochs (key ∷ keys) held =
    both_stand stands (stored_rows store key) (flat_map (stored_rows store) keys)
    (epochs_with key (lists_of key epochs)) (by_key epochs keys)
    (key_stands stands key (epochs_of store.keys key) 1 (states_of store key) (lists_of key epochs) (held.rows key))
    (keys_stand stands store epochs keys held)

pub sorted_stand : (stands : Standing) (store : Store) (epochs : List Epoch) → EntriesStand stands store epochs
    → RowsStand stands (sorted_rows store) (sorted store epochs)
sorted_stand stands store epochs held = keys_stand stands store epochs (ascending (keys_of store.keys)) held

-- the row lists of a key

lists_own : (key : Key) (lists : List (List ArgRow)) → lists_of key (epochs_with key lists) ≡ lists
lists_own key [] = refl
lists_own key (rows ∷ lists) = rw (key_eq-refl key) (ap (λ more. rows ∷ more) (lists_own key lists))

lists_other : (key other : Key) (lists : List (List ArgRow)) → key_eq other key ≡ false → lists_of key (epochs_with other lists) ≡ []
lists_other key other [] apart = refl
lists_other key other (rows ∷ lists) apart = rw apart (lists_other key other lists apart)

absent : (key : Key) (epochs : List Epoch) (keys : List Key) → has key keys ≡ false → lists_of key (by_key epochs keys) ≡ []
absent key epochs [] none = refl
absent key epochs (first ∷ keys) none =
    let apart = absent_head key first keys none in
    lists_of-append key (epochs_with first (lists_of first epochs)) (by_key epochs keys)
    ∙ ap₂ (λ lists more. lists ++ more) (lists_other key first (lists_of first epochs) apart.0) (absent key epochs keys apart.1)

above_absent : (key : Key) (keys : List Key) → AreAbove key keys → has key keys ≡ false
unfolding key_cmp
above_absent key [] above = refl
above_absent key (first ∷ keys) above = by_test (key_eq first key)
    (λ e. let less : key_cmp key key ≡ Less = subst (λ k. key_cmp key k ≡ Less) (key_eq-true first key e) above.0 in
    let itself = tied_itself nat_list_cmp_total key in absurd (cc))
    (λ e. rw e (above_absent key keys above.1))

present : (key : Key) (epochs : List Epoch) (keys : List Key) → IsAscending keys → has key keys ≡ true
    → lists_of key (by_key epochs keys) ≡ lists_of key epochs
present key epochs [] up there = absurd (false≢true there)
present key epochs (first ∷ keys) up there =
    lists_of-append key (epochs_with first (lists_of first epochs)) (by_key epochs keys) ∙ by_test (key_eq first key)
    (λ t. let same = key_eq-true first key t in
    let none = subst (λ k. has k keys ≡ false) same (above_absent first keys up.0) in
    let own : lists_of key (epochs_with first (lists_of first epochs)) ≡ lists_of key epochs =
    subst (λ k. lists_of key (epochs_with k (lists_of k epochs)) ≡ lists_of key epochs) (sym same) (lists_own key (lists_of key epochs)) in
    ap₂ (λ lists more. lists ++ more) own (absent key epochs keys none) ∙ append-nil (lists_of key epochs))
    (λ t. ap₂ (λ lists more. lists ++ more) (lists_other key first (lists_of first epochs) t)
    (present key epochs keys up.1 (sym (ap (λ b. b || has key keys) t) ∙ there)))

not_counted : (key : Key) (keys : List StoredKey) → has key (keys_of keys) ≡ false → epochs_of keys key ≡ 0
not_counted key [] none = refl
not_counted key (first ∷ keys) none =
    let apart = absent_head key first.key (keys_of keys) none in
    let other = key_eq-sym_false first.key key apart.0 in
    rw other (not_counted key keys apart.1)

no_lists : (lists : List (List ArgRow)) → 0 ≡ epochs_shown (length lists) → lists ≡ []
no_lists [] none = refl
no_lists (rows ∷ lists) none = absurd (omega arith)

pub same_lists : (stands : Standing) (store : Store) (epochs : List Epoch) (key : Key) → EntriesStand stands store epochs
    → lists_of key (sorted store epochs) ≡ lists_of key epochs
same_lists stands store epochs key held =
    let keys = ascending (keys_of store.keys) in
    by_test (has key (keys_of store.keys))
    (λ t. present key epochs keys (ascending-ascends (keys_of store.keys)) (has-ascending key (keys_of store.keys) ∙ t))
    (λ t. absent key epochs keys (has-ascending key (keys_of store.keys) ∙ t)
    ∙ sym (no_lists (lists_of key epochs) (sym (not_counted key store.keys t) ∙ held.count key)))

-- Epochs that have the same row lists of each key are held alike, after others.
pub held_alike : (f : Folding) (store : Store) (closed epochs others : List Epoch)
    → ((key : Key) → lists_of key epochs ≡ lists_of key others)
    → StoreHolds f store (closed ++ epochs) → StoreHolds f store (closed ++ others)
held_alike f store closed epochs others same held = record {
  count = λ key. held.count key ∙ ap (λ lists. epochs_shown (length lists)) (alike key);
  rows = λ key. held.rows key ∙ ap (stored f) (alike key);
}
  where
    alike : (key : Key) → lists_of key (closed ++ epochs) ≡ lists_of key (closed ++ others)
    alike key = lists_of-append key closed epochs
        ∙ (ap (λ lists. lists_of key closed ++ lists) (same key) ∙ sym (lists_of-append key closed others))

-- the merged epochs, and then the others, are all epochs
pub all_there : (m : Machine) → take m.merged m.closed ++ unmerged m ≡ all_epochs m
all_there m = sym (append_assoc (take m.merged m.closed) (drop m.merged m.closed) (open_epochs m))
    ∙ ap (λ closed. closed ++ open_epochs m) (take-append-drop m.merged m.closed)

-- the rows have as many words as keys and states

all_keys : (words : ℕ) (keys : List StoredKey) → AreKeysOf words keys → All (λ key. length key ≡ words) (keys_of keys)
all_keys words [] are = All-nil (λ (key : Key). length key ≡ words)
all_keys words (first ∷ keys) are =
    All-cons (λ (key : Key). length key ≡ words) first.key (keys_of keys) are.0.size (all_keys words keys are.1)

all_with : (P : Key → Type 0) (key : Key) (keys : List Key) → P key → All P keys → All P (with_key key keys)
all_with P key [] p all = All-cons P key [] p all
all_with P key (first ∷ keys) p all = by_test (is_lt (key_cmp key first))
    (λ t. rw t (All-cons P key (first ∷ keys) p all))
    (λ t. by_test (is_gt (key_cmp key first))
    (λ u. rw (t, u) (All-cons P first (with_key key keys) (All-head P first keys all) (all_with P key keys p (All-tail P first keys all))))
    (λ u. rw (t, u) all))

all_ascending : (P : Key → Type 0) (keys : List Key) → All P keys → All P (ascending keys)
all_ascending P [] all = all
all_ascending P (key ∷ keys) all =
    all_with P key (ascending keys) (All-head P key keys all) (all_ascending P keys (All-tail P key keys all))

all_states : (keys words number : ℕ) (rows : List StoredRow) → AreRowsOf keys words rows
    → All (λ state. length state ≡ words) (states_at rows number)
all_states keys words number [] are = All-nil (λ (state : List ℕ). length state ≡ words)
all_states keys words number (row ∷ rows) are =
    let rest = all_states keys words number rows are.2 in
    by_test (row.key == number)
    (λ t. rw t (All-cons (λ (state : List ℕ). length state ≡ words) row.words (states_at rows number) are.1 rest))
    (λ t. rw t rest)

all_numbered : (words size count first : ℕ) (key : Key) (states : List (List ℕ)) → length key ≡ words
    → All (λ state. length state ≡ size) states → All (IsEntryOf words size) (numbered key count first states)
all_numbered words size count first key [] long all = All-nil (IsEntryOf words size)
all_numbered words size count first key (state ∷ states) long all =
    let P = λ (s : List ℕ). length s ≡ size in
    All-cons (IsEntryOf words size) _ (numbered key count (suc first) states) (record { key = long; entry = All-head P state states all })
    (all_numbered words size count (suc first) key states long (All-tail P state states all))

pub are_entries : (store : Store) → IsStore store → All (IsEntryOf store.key_words store.state_words) (sorted_rows store)
are_entries store is = each (ascending (keys_of store.keys))
    (all_ascending (λ key. length key ≡ store.key_words) (keys_of store.keys) (all_keys store.key_words store.keys is.keys))
  where
    each : (keys : List Key) → All (λ key. length key ≡ store.key_words) keys
        → All (IsEntryOf store.key_words store.state_words) (flat_map (stored_rows store) keys)
    each [] all = All-nil (IsEntryOf store.key_words store.state_words)
    each (key ∷ keys) all =
        let P = λ (k : Key). length k ≡ store.key_words in
        All-append (IsEntryOf store.key_words store.state_words) (stored_rows store key) (flat_map (stored_rows store) keys)
        (all_numbered store.key_words store.state_words (epochs_of store.keys key) 1 key (states_of store key) (All-head P key keys all)
        (all_states (length store.keys) store.state_words (number_of store.keys key) store.rows is.rows))
        (each keys (All-tail P key keys all))
