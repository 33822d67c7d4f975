-- The row of the next key among those that are left.
use Rattle.std.proofs.Common.{◌≡◌, ◌<◌, ◌+◌, ℕ, zero, suc, Bool, true, false, List, [], ◌∷◌, ◌++◌, length, drop, refl, sym, ap, ◌∙◌, arith}
use Rattle.std.proofs.{Common.{Some, append_assoc, length-append, fold}, lemmas.Option.same_Some}
use Rattle.std.proofs.lemmas.{List.Sums.{fold-append, sum_by-append, sum_by-cons}, Grind.flat_map-append}
use Rattle.std.specs.{Prelude.{◌||◌, slice_get, option_map, flat_map}, declared.cmp.Ordering.TheVariants.Less}
use Rattle.epoch_model.specs.{declared.tables.{Mark.TheVariants.Exact, Row.Row}, Machine.{Epoch, lists_of}}
use Rattle.epoch_model.specs.Keys.{AreAbove, ArgRow, Key, ascending, has, key_cmp, key_eq}
use Rattle.epoch_model.specs.Tables.{Folding, closed_key_rows, epochs_shown, folded}
use Rattle.epoch_model.proofs.{EpochLists.lists_of-append, KeyLists.{by_test, key_eq-refl, key_eq-true}}
use Rattle.epoch_model.proofs.KeyOrder.{ascending-ascends, has-ascending, same_ascending}
use Rattle.backing_store.specs.{SortedRows.{numbered, stored_rows}, Store.{Store, epochs_of, states_of}}
use Rattle.switch_core.specs.Lanes.{Standing}
use Rattle.live_view.specs.{Seen.{AreLeft, AreSeen}, Waiting.EachStands}

or_true : (t : Bool) → (t || true) ≡ true
or_true true = refl
or_true false = refl

pub has_rest : (key other : Key) (keys : List Key) → has other keys ≡ true → has other (key ∷ keys) ≡ true
has_rest key other keys there = ap (λ t. key_eq key other || t) there ∙ or_true (key_eq key other)

-- a key comes before each of these
above_all : (key : Key) (keys : List Key) → ((other : Key) → has other keys ≡ true → key_cmp key other ≡ Less) → AreAbove key keys
above_all key [] each = tt
above_all key (first ∷ keys) each = (
  each first (ap (λ t. t || has first keys) (key_eq-refl first)),
  above_all key keys (λ other there. each other (has_rest first other keys there)),
)

pub all_above : (key : Key) (keys : List Key) → AreAbove key keys → (other : Key) → has other keys ≡ true → key_cmp key other ≡ Less
all_above key [] above other there = cc there
all_above key (first ∷ keys) above other there = by_test (key_eq first other)
    (λ same. ap (key_cmp key) (sym (key_eq-true first other same)) ∙ above.0)
    (λ apart. all_above key keys above.1 other (rw apart at there))

above_ascending : (key : Key) (keys : List Key) → AreAbove key keys → AreAbove key (ascending keys)
above_ascending key keys above = above_all key (ascending keys) (λ other there. all_above key keys above other
    (sym (has-ascending other keys) ∙ there))

pub above_both : (key : Key) (xs ys : List Key) → AreAbove key xs → AreAbove key ys → AreAbove key (xs ++ ys)
above_both key [] ys first second = second
above_both key (x ∷ xs) ys first second = (first.0, above_both key xs ys first.1 second)

-- the least key that is left is the first of them by order
pub least_first : (key : Key) (left rest : List Key) → ((other : Key) → has other left ≡ has other (key ∷ rest)) → AreAbove key rest
    → ascending left ≡ key ∷ ascending rest
least_first key left rest same above = same_ascending (ascending left) (key ∷ ascending rest) (ascending-ascends left)
    (above_ascending key rest above, ascending-ascends rest)
    (λ other. has-ascending other left ∙ same other ∙ ap (λ t. key_eq key other || t) (sym (has-ascending other rest)))

-- one row more, that of the least key that is left
pub seen_more : (f : Folding) (epochs : List Epoch) (left rest : List Key) (key : Key) (row : Row) (rows : List Row) (counted now : ℕ)
    → AreSeen f epochs left rows counted → ascending left ≡ key ∷ ascending rest → closed_key_rows f epochs key ≡ row ∷ []
    → now ≡ epochs_shown (counted + row.epochs) → AreSeen f epochs rest (rows ++ row ∷ []) now
seen_more f epochs left rest key row rows counted now seen first one more =
    let G = closed_key_rows f epochs in
    let own : row ∷ flat_map G (ascending rest) ≡ flat_map G (ascending left) =
    ap (λ (rs : List Row). rs ++ flat_map G (ascending rest)) (sym one) ∙ ap (flat_map G) (sym first) in
    record {
      table = append_assoc rows (row ∷ []) (flat_map G (ascending rest)) ∙ ap (λ rs. rows ++ rs) own ∙ seen.table;
      count = more ∙ ap (λ n. epochs_shown (n + row.epochs)) seen.count
          ∙ (let a = sum_by-append (λ (r : Row). r.epochs) rows (row ∷ []) in
          let b = sum_by-cons (λ (r : Row). r.epochs) row [] in omega arith);
    }

-- the only row of a key: of its closed epochs and those after them
pub only_row : (f : Folding) (closed unmerged : List Epoch) (key : Key) (epochs : ℕ) (values : List ℕ) → f.row_per_epoch ≡ false
    → epochs ≡ epochs_shown (epochs_shown (length (lists_of key closed)) + length (lists_of key unmerged))
    → values ≡ fold f.step (folded f (flat_map (λ rows. rows) (lists_of key closed))) (flat_map (λ rows. rows) (lists_of key unmerged))
    → closed_key_rows f (closed ++ unmerged) key ≡ record { key = key; mark = Exact; epoch = 0; epochs = epochs; values = values } ∷ []
only_row f closed unmerged key epochs values per_key counted folds =
    let same = lists_of-append key closed unmerged in
    let many : epochs_shown (length (lists_of key (closed ++ unmerged))) ≡ epochs =
    ap (λ lists. epochs_shown (length lists)) same
    ∙ (let long = length-append (lists_of key closed) (lists_of key unmerged) in omega (arith, long, counted)) in
    let state : folded f (flat_map (λ rows. rows) (lists_of key (closed ++ unmerged))) ≡ values =
    ap (λ lists. folded f (flat_map (λ rows. rows) lists)) same
    ∙ ap (folded f) (flat_map-append (λ rows. rows) (lists_of key closed) (lists_of key unmerged))
    ∙ fold-append f.step f.initial (flat_map (λ rows. rows) (lists_of key closed)) (flat_map (λ rows. rows) (lists_of key unmerged))
    ∙ sym folds in
    rw (per_key, many, state) refl

-- the first of the rows that are left is of the first key
got_first : {A : Type 0} (xs : List A) (n : ℕ) (x : A) (rest : List A) → drop n xs ≡ x ∷ rest → slice_get xs n ≡ Some x
got_first [] zero x rest is = cc is
got_first [] (suc n) x rest is = cc is
got_first (first ∷ xs) zero x rest is = let same : first ≡ x = cc is in ap Some same
got_first (first ∷ xs) (suc n) x rest is = got_first xs n x rest is

pub key_first : (store : Store) (key found : Key) (keys : List Key) (rows : List Row) (from : ℕ)
    → AreLeft store (key ∷ keys) (drop from rows)
    → option_map (λ (row : Row). row.key) (slice_get rows from) ≡ Some found → found ≡ key
key_first store key found keys rows from left is =
    at (states_of store key) (left.some key (ap (λ t. t || has key keys) (key_eq-refl key))) refl
  where
    at : (states : List (List ℕ)) → 0 < length states → states_of store key ≡ states → found ≡ key
    at [] some same = absurd (omega (arith, some))
    at (state ∷ states) some same =
        let all = left.are ∙ ap (λ ss. numbered key (epochs_of store.keys key) 1 ss ++ flat_map (stored_rows store) keys) same in
        let there = got_first rows from _ _ all in
        same_Some _ _ (sym is ∙ ap (option_map (λ (row : Row). row.key)) there)

pub each_long : (stands : Standing) (entries : List (List ℕ)) (lists : List (List ArgRow)) → EachStands stands entries lists
    → length entries ≡ length lists
each_long stands [] [] each = refl
each_long stands [] (rows ∷ lists) each = absurd each
each_long stands (entry ∷ entries) [] each = absurd each
each_long stands (entry ∷ entries) (rows ∷ lists) each = ap suc (each_long stands entries lists each.1)
