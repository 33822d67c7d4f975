-- A walk begins with all keys left and nothing seen, and where no key is left the table is whole.
use Rattle.std.proofs.Common.{◌≡◌, ◌<◌, ◌+◌, ℕ, true, false, List, [], ◌∷◌, ◌++◌, length, map, refl, sym, ap, ap₂, ◌∙◌, arith, append-nil}
use Rattle.std.proofs.lemmas.{Bool.true≢false, List.{map-append, Sums.{sum_by-append, sum_by-cons}}}
use Rattle.std.specs.Prelude.{◌||◌, flat_map, sum_by}
use Rattle.epoch_model.specs.{declared.tables.Row.Row, Keys.{Key, ascending, has, key_eq}, Machine.{Epoch, lists_of}}
use Rattle.epoch_model.specs.Tables.{Folding, closed_epochs, closed_key_rows, closed_keys, closed_rows, epochs_shown}
use Rattle.epoch_model.proofs.{EpochLists.lists_of-absent, KeyLists.by_test, KeyOrder.{ascending-ascends, has-ascending, same_ascending}}
use Rattle.backing_store.specs.{Merged.StoreHolds, SortedRows.sorted_rows, StoreLaws.keys_of}
use Rattle.backing_store.specs.Store.{AreKeysOf, IsStore, Store, StoredKey, epochs_of, states_of}
use Rattle.switch_core.specs.Lanes.{Standing}
use Rattle.live_view.specs.{Seen.{AreSeen, IsWalk}, Waiting.EntriesStand}
use Rattle.live_view.proofs.{HeldOnce.{absent_lists, no_epochs, no_lists, some_epochs, some_lists}, NextRow.each_long, Walking.has-append}

abbrev keys_in : List Epoch → List Key
keys_in epochs = map (λ epoch. epoch.key) epochs

lists_there : (key : Key) (epochs : List Epoch) → has key (keys_in epochs) ≡ true → 0 < length (lists_of key epochs)
lists_there key [] there = absurd (true≢false (sym there))
lists_there key (e ∷ epochs) there = by_test (key_eq e.key key)
    (λ same. rw same (omega arith))
    (λ apart. rw apart (lists_there key epochs (rw apart at there)))

-- keys of which epochs are counted are the keys of the epochs
counted_keys : (words : ℕ) (keys : List StoredKey) (epochs : List Epoch) → AreKeysOf words keys
    → ((key : Key) → epochs_of keys key ≡ epochs_shown (length (lists_of key epochs)))
    → (key : Key) → has key (ascending (keys_of keys)) ≡ has key (keys_in epochs)
counted_keys words keys epochs are count key = has-ascending key (keys_of keys) ∙ by_test (has key (keys_of keys))
    (λ there. by_test (has key (keys_in epochs))
    (λ known. there ∙ sym known)
    (λ absent. absurd (omega (
      arith,
      some_lists (lists_of key epochs) (epochs_of keys key) (count key)
          (some_epochs words keys key are there),
      ap length (lists_of-absent key epochs absent),
    ))))
    (λ none. by_test (has key (keys_in epochs))
    (λ known. absurd (omega (
      arith,
      lists_there key epochs known,
      ap length (no_lists (lists_of key epochs) (sym (count key) ∙ no_epochs keys key none)),
    )))
    (λ absent. none ∙ sym absent))

-- all keys of both sides are left at first
all_left : (store waiting : Store) (closed unmerged : List Epoch) → IsStore store → IsStore waiting
    → ((key : Key) → epochs_of store.keys key ≡ epochs_shown (length (lists_of key closed)))
    → ((key : Key) → epochs_of waiting.keys key ≡ epochs_shown (length (lists_of key unmerged)))
    → ascending (ascending (keys_of store.keys) ++ ascending (keys_of waiting.keys)) ≡ closed_keys (closed ++ unmerged)
all_left store waiting closed unmerged is ws count counts =
    let left = ascending (keys_of store.keys) ++ ascending (keys_of waiting.keys) in
    same_ascending (ascending left) (closed_keys (closed ++ unmerged)) (ascending-ascends left)
    (ascending-ascends (keys_in (closed ++ unmerged)))
    (λ key. has-ascending key left ∙ has-append key (ascending (keys_of store.keys)) (ascending (keys_of waiting.keys))
    ∙ ap₂ (λ a b. a || b) (counted_keys store.key_words store.keys closed is.keys count key)
    (counted_keys waiting.key_words waiting.keys unmerged ws.keys counts key)
    ∙ sym (has-append key (keys_in closed) (keys_in unmerged))
    ∙ ap (has key) (sym (map-append (λ (e : Epoch). e.key) closed unmerged))
    ∙ sym (has-ascending key (keys_in (closed ++ unmerged))))

pub walk_begins : (f : Folding) (stands : Standing) (store waiting : Store) (closed unmerged : List Epoch) (entries : List Row)
    → IsStore store → IsStore waiting → StoreHolds f store closed → EntriesStand stands waiting unmerged → entries ≡ sorted_rows waiting
    → IsWalk f closed unmerged waiting (ascending (keys_of store.keys)) (ascending (keys_of waiting.keys)) entries [] 0
walk_begins f stands store waiting closed unmerged entries is ws holds stand sorted = record {
  left = record {
    are = sorted;
    up = ascending-ascends (keys_of waiting.keys);
    some = λ key there.
        let epochs = some_epochs waiting.key_words waiting.keys key ws.keys (sym (has-ascending key (keys_of waiting.keys)) ∙ there) in
        let lists = some_lists (lists_of key unmerged) (epochs_of waiting.keys key) (stand.count key) epochs in
        omega (arith, lists, each_long stands (states_of waiting key) (lists_of key unmerged) (stand.rows key));
  };
  up = ascending-ascends (keys_of store.keys);
  new = λ key there absent. absent_lists f store closed key holds absent;
  old = λ key there absent. no_lists (lists_of key unmerged) (sym (stand.count key)
      ∙ no_epochs waiting.keys key (sym (has-ascending key (keys_of waiting.keys)) ∙ absent));
  seen = record {
    table = ap (flat_map (closed_key_rows f (closed ++ unmerged)))
        (all_left store waiting closed unmerged is ws holds.count stand.count);
    count = omega arith;
  };
}

-- the epochs of the rows are those of their keys
sums_shown : (f : Folding) (epochs : List Epoch) (keys : List Key) → f.row_per_epoch ≡ false
    → epochs_shown (sum_by (λ (row : Row). row.epochs) (flat_map (closed_key_rows f epochs) keys))
    ≡ epochs_shown (sum_by (λ key. length (lists_of key epochs)) keys)
sums_shown f epochs [] per_key = refl
sums_shown f epochs (key ∷ keys) per_key =
    let rest = sums_shown f epochs keys per_key in
    let more = sum_by-append (λ (row : Row). row.epochs) (closed_key_rows f epochs key) (flat_map (closed_key_rows f epochs) keys) in
    let one : sum_by (λ (row : Row). row.epochs) (closed_key_rows f epochs key) ≡ epochs_shown (length (lists_of key epochs)) =
    rw per_key (omega arith) in
    omega (arith, rest, more, one, sum_by-cons (λ (k : Key). length (lists_of k epochs)) key keys)

pub walk_ends : (f : Folding) (epochs : List Epoch) (rows : List Row) (counted : ℕ) → f.row_per_epoch ≡ false
    → AreSeen f epochs [] rows counted → (rows ≡ closed_rows f epochs) × (counted ≡ closed_epochs epochs)
walk_ends f epochs rows counted per_key seen =
    let all = sym (append-nil rows) ∙ seen.table in (
      all,
      seen.count ∙ ap (λ rs. epochs_shown (sum_by (λ (row : Row). row.epochs) rs)) all
          ∙ sums_shown f epochs (closed_keys epochs) per_key,
    )
