-- The rows of one key among those of a store by ascending key, and what their entries represent.
use Rattle.std.proofs.Common.{◌≡◌, ◌≤◌, ◌<◌, ◌+◌, ◌-◌, ℕ, zero, suc, true, false, Some, None, List, [], ◌∷◌, ◌++◌, length, take, drop, refl}
use Rattle.std.proofs.{Common.{sym, ap, ◌∙◌, subst, arith, append-nil}, lemmas.{Bool.{le-ltb, ne_eqb, true≢false}, Option.same_Some}}
use Rattle.std.proofs.lemmas.{Cmp.{nat_list_cmp_total, tied_itself}, List.{drop_all, take_all, Concat.flat_map-append, Sums.fold-append}}
use Rattle.std.specs.Prelude.{slice_get, flat_map, fold, not, nat_eq, option_map, Bool, Option}
use Rattle.std.specs.{declared.cmp.Ordering.TheVariants.{Less, Equal, Greater}, Ordering.nat_cmp}
use Rattle.std.specs.Cmp.Lexicographic.{bytes_decides, pointwise, slice_cmp}
use Rattle.epoch_model.specs.{declared.tables.Row.Row, Keys.{AreAbove, ArgRow, Key, key_cmp, key_eq}}
use Rattle.epoch_model.proofs.KeyLists.{by_test, key_eq-refl, key_eq-true}
use Rattle.backing_store.specs.{SortedRows.{numbered, stored_rows}, Store.{Store, epochs_of, states_of}}
use Rattle.switch_core.specs.Lanes.{Standing}
use Rattle.live_view.specs.{Seen.{AreLeft, BeginsAt, first_compared}, Waiting.EachStands}

-- the element at a place is the first of those from there on
drop_there : {A : Type 0} (xs : List A) (n : ℕ) (x : A) → slice_get xs n ≡ Some x → drop n xs ≡ x ∷ drop (suc n) xs
drop_there [] n x here = cc here
drop_there (first ∷ xs) zero x here = ap (λ y. y ∷ xs) (same_Some _ _ here)
drop_there (first ∷ xs) (suc n) x here = drop_there xs n x here

-- where a list begins after its first elements, with an element, is where that element stands
dropped_first : {A : Type 0} (xs : List A) (n : ℕ) (x : A) (rest : List A) → drop n xs ≡ x ∷ rest
    → (slice_get xs n ≡ Some x) × (drop (suc n) xs ≡ rest) × (suc n ≤ length xs)
dropped_first [] zero x rest is = absurd (cc is)
dropped_first [] (suc n) x rest is = absurd (cc is)
dropped_first (first ∷ xs) zero x rest is = (cc is, cc is, omega arith)
dropped_first (first ∷ xs) (suc n) x rest is =
    let later = dropped_first xs n x rest is in (later.0, later.1, let few = later.2 in omega arith)

dropped_none : {A : Type 0} (xs : List A) (n : ℕ) → n ≤ length xs → drop n xs ≡ [] → n ≡ length xs
dropped_none [] n few is = omega arith
dropped_none (first ∷ xs) zero few is = absurd (cc is)
dropped_none (first ∷ xs) (suc n) few is = let later = dropped_none xs n (omega arith) is in omega arith

-- a key is not among those that come after it
above_apart : (key other : Key) → key_cmp key other ≡ Less → key_eq other key ≡ false
unfolding key_cmp
above_apart key other less = by_test (key_eq other key)
    (λ same.
    let wrong : Equal ≡ Less = sym (tied_itself nat_list_cmp_total key)
    ∙ (ap (λ x. slice_cmp nat_cmp key x) (sym (key_eq-true other key same)) ∙ less) in
    cc wrong)
    (λ apart. apart)

-- a row for each of these states of the key, numbered from a number on, and then the rows of the keys after it
abbrev pub rows_from : Store → Key → List Key → ℕ → List (List ℕ) → List Row
rows_from store key keys number states = numbered key (epochs_of store.keys key) number states ++ flat_map (stored_rows store) keys

-- the rows are those of the key from one on, and then those of the keys after it
pub record AreOfKey (store : Store) (key : Key) (keys : List Key) (passed : ℕ) (next : List Row) : Type 0 where
  pub few : passed ≤ length (states_of store key)
  pub rows : next ≡ rows_from store key keys (suc passed) (drop passed (states_of store key))
  pub above : AreAbove key keys

first_later : (store : Store) (key : Key) (keys : List Key) (row : Row) (rest : List Row) → AreAbove key keys
    → row ∷ rest ≡ flat_map (stored_rows store) keys → key_eq row.key key ≡ false
first_later store key [] row rest above same = absurd (cc same)
first_later store key (k ∷ keys) row rest above same = at (states_of store k) same (first_later store key keys row rest above.1)
  where
    at : (states : List (List ℕ)) → row ∷ rest ≡ rows_from store k keys 1 states
        → (row ∷ rest ≡ flat_map (stored_rows store) keys → key_eq row.key key ≡ false)
        → key_eq row.key key ≡ false
    at [] same later = later same
    at (state ∷ states) same later =
        let head : row.key ≡ k = cc same in
        rw head (above_apart key k above.0)

-- a row of the key is the next of its rows
one_further : (store : Store) (key : Key) (keys : List Key) (passed : ℕ) (row : Row) (rest : List Row)
    → AreOfKey store key keys passed (row ∷ rest) → key_eq row.key key ≡ true
    → (slice_get (states_of store key) passed ≡ Some row.values) × AreOfKey store key keys (suc passed) rest
one_further store key keys passed row rest are same = at (drop passed (states_of store key)) refl are.rows
  where
    at : (states : List (List ℕ)) → drop passed (states_of store key) ≡ states
        → row ∷ rest ≡ rows_from store key keys (suc passed) states
        → (slice_get (states_of store key) passed ≡ Some row.values) × AreOfKey store key keys (suc passed) rest
    at [] is rows = absurd (true≢false (sym same ∙ first_later store key keys row rest are.above rows))
    at (state ∷ states) is rows =
        let there = dropped_first (states_of store key) passed state states is in
        let values : row.values ≡ state = cc rows in
        let after : rest ≡ rows_from store key keys (suc (suc passed)) states = cc rows in (
          there.0 ∙ ap (λ x. Some x) (sym values),
          record {
            few = there.2;
            rows = after ∙ ap (rows_from store key keys (suc (suc passed))) (sym there.1);
            above = are.above;
          },
        )

-- a row of another key comes after all rows of the key
all_passed : (store : Store) (key : Key) (keys : List Key) (passed : ℕ) (row : Row) (rest : List Row)
    → AreOfKey store key keys passed (row ∷ rest) → key_eq row.key key ≡ false → passed ≡ length (states_of store key)
all_passed store key keys passed row rest are other = at (drop passed (states_of store key)) refl are.rows
  where
    at : (states : List (List ℕ)) → drop passed (states_of store key) ≡ states
        → row ∷ rest ≡ rows_from store key keys (suc passed) states
        → passed ≡ length (states_of store key)
    at [] is rows = dropped_none (states_of store key) passed are.few is
    at (state ∷ states) is rows =
        let own : row.key ≡ key = cc rows in
        absurd (true≢false (sym (ap (λ k. key_eq k key) own ∙ key_eq-refl key) ∙ other))

-- where there are no more rows all of the key's were passed
none_left : (store : Store) (key : Key) (keys : List Key) (passed : ℕ) → AreOfKey store key keys passed []
    → passed ≡ length (states_of store key)
none_left store key keys passed are = at (drop passed (states_of store key)) refl are.rows
  where
    at : (states : List (List ℕ)) → drop passed (states_of store key) ≡ states
        → [] ≡ rows_from store key keys (suc passed) states
        → passed ≡ length (states_of store key)
    at [] is rows = dropped_none (states_of store key) passed are.few is
    at (state ∷ states) is rows = absurd (cc rows)

-- after all rows of the key those of the keys after it are left
rest_left : (store : Store) (key : Key) (keys : List Key) (passed : ℕ) (before next : List Row)
    → AreLeft store (key ∷ keys) before → AreOfKey store key keys passed next → passed ≡ length (states_of store key)
    → AreLeft store keys next
rest_left store key keys passed before next left are all =
    let none : drop passed (states_of store key) ≡ [] = drop_all passed (states_of store key) (omega arith) in
    record {
      are = are.rows ∙ ap (rows_from store key keys (suc passed)) none;
      up = left.up.1;
      some = λ k there. left.some k (by_test (key_eq key k) (λ e. rw e refl) (λ e. rw e there));
    }

-- the row list that an entry represents is the next of them
list_there : (stands : Standing) (states : List (List ℕ)) (lists : List (List ArgRow)) (n : ℕ) (entry : List ℕ)
    → EachStands stands states lists → slice_get states n ≡ Some entry
    → (rows : List ArgRow) × stands entry rows × (take (suc n) lists ≡ take n lists ++ rows ∷ [])
list_there stands [] [] n entry each here = absurd (cc here)
list_there stands [] (rows ∷ lists) n entry each here = absurd each
list_there stands (state ∷ states) [] n entry each here = absurd each
list_there stands (state ∷ states) (rows ∷ lists) zero entry each here =
    (rows, subst (λ e. stands e rows) (same_Some _ _ here) each.0, refl)
list_there stands (state ∷ states) (rows ∷ lists) (suc n) entry each here =
    let later = list_there stands states lists n entry each.1 here in (later.0, later.1, ap (λ ls. rows ∷ ls) later.2)

lists_long : (stands : Standing) (states : List (List ℕ)) (lists : List (List ArgRow)) → EachStands stands states lists
    → length states ≡ length lists
lists_long stands [] [] each = refl
lists_long stands [] (rows ∷ lists) each = absurd each
lists_long stands (state ∷ states) [] each = absurd each
lists_long stands (state ∷ states) (rows ∷ lists) each = ap (λ n. suc n) (lists_long stands states lists each.1)

-- a row that comes next, of the key, is passed
pub row_passed : (store : Store) (key : Key) (keys : List Key) (entries : List Row) (from next : ℕ) (row : Row) → from ≤ next
    → slice_get entries next ≡ Some row → row.key ≡ key → AreOfKey store key keys (next - from) (drop next entries)
    → (slice_get (states_of store key) (next - from) ≡ Some row.values)
    × AreOfKey store key keys (next + 1 - from) (drop (next + 1) entries)
row_passed store key keys entries from next row after here same are =
    let further = one_further store key keys (next - from) row (drop (suc next) entries)
    (subst (AreOfKey store key keys (next - from)) (drop_there entries next row here) are) (rw same (key_eq-refl key)) in
    let passed : suc (next - from) ≡ next + 1 - from = omega arith in
    let place : suc next ≡ next + 1 = omega arith in (
      further.0,
      subst (λ j. AreOfKey store key keys j (drop (next + 1) entries)) passed
          (subst (λ n. AreOfKey store key keys (suc (next - from)) (drop n entries)) place further.1),
    )

-- the row list of one entry more is folded
pub list_merged : (stands : Standing) (step : List ℕ → ArgRow → List ℕ) (first state after entry : List ℕ) (states : List (List ℕ))
    (lists : List (List ArgRow)) (n m : ℕ) → EachStands stands states lists → slice_get states n ≡ Some entry
    → ((rows : List ArgRow) → stands entry rows → after ≡ fold step state rows)
    → state ≡ fold step first (flat_map (λ rows. rows) (take n lists)) → m ≡ suc n
    → after ≡ fold step first (flat_map (λ rows. rows) (take m lists))
list_merged stands step first state after entry states lists n m each here merged so_far more =
    let found = list_there stands states lists n entry each here in
    let before = flat_map (λ rows. rows) (take n lists) in
    let all : flat_map (λ rows. rows) (take m lists) ≡ before ++ found.0 =
    ap (λ k. flat_map (λ rows. rows) (take k lists)) more ∙ (ap (flat_map (λ rows. rows)) found.2
    ∙ (flat_map-append (λ rows. rows) (take n lists) (found.0 ∷ []) ∙ ap (λ rows. before ++ rows) (append-nil found.0))) in
    merged found.0 found.1 ∙ (ap (λ s. fold step s found.0) so_far
    ∙ (sym (fold-append step first before found.0) ∙ ap (fold step first) (sym all)))

-- all rows of the key were passed where the next row is of another key, and where there is no next row
pub ends_apart : (store : Store) (key : Key) (keys : List Key) (entries : List Row) (next passed : ℕ) (row : Row)
    → slice_get entries next ≡ Some row → (row.key ≡ key → ⊥) → AreOfKey store key keys passed (drop next entries)
    → passed ≡ length (states_of store key)
ends_apart store key keys entries next passed row here apart are =
    all_passed store key keys passed row (drop (suc next) entries)
    (subst (AreOfKey store key keys passed) (drop_there entries next row here) are)
    (by_test (key_eq row.key key) (λ same. absurd (apart (key_eq-true row.key key same))) (λ other. other))

pub ends_past : (store : Store) (key : Key) (keys : List Key) (entries : List Row) (next passed : ℕ) → length entries ≤ next
    → AreOfKey store key keys passed (drop next entries) → passed ≡ length (states_of store key)
ends_past store key keys entries next passed past are =
    none_left store key keys passed (subst (AreOfKey store key keys passed) (drop_all next entries past) are)

-- after the run the rows of the keys after it are left
pub left_after : (store : Store) (key : Key) (keys : List Key) (entries : List Row) (from next : ℕ) → from ≤ next
    → AreLeft store (key ∷ keys) (drop from entries) → AreOfKey store key keys (next - from) (drop next entries)
    → next - from ≡ length (states_of store key)
    → AreLeft store keys (drop next entries) × (next ≡ from + length (states_of store key))
left_after store key keys entries from next after left are all =
    (rest_left store key keys (next - from) (drop from entries) (drop next entries) left are all, omega arith)

-- where all entries were passed, all lists are folded
pub all_merged : (stands : Standing) (step : List ℕ → ArgRow → List ℕ) (first state : List ℕ) (states : List (List ℕ))
    (lists : List (List ArgRow)) (passed : ℕ) → EachStands stands states lists → passed ≡ length states
    → state ≡ fold step first (flat_map (λ rows. rows) (take passed lists)) → state ≡ fold step first (flat_map (λ rows. rows) lists)
all_merged stands step first state states lists passed each all so_far =
    let long = lists_long stands states lists each in
    so_far ∙ ap (λ ls. fold step first (flat_map (λ rows. rows) ls)) (take_all passed lists (omega arith))

-- the key of the first row is the first of the keys
first_is : (store : Store) (keys : List Key) (row : Row) (rest : List Row) (key : Key) → AreLeft store keys (row ∷ rest)
    → key_cmp row.key key ≡ first_compared keys key
first_is store [] row rest key left = absurd (cc left.are)
first_is store (first ∷ keys) row rest key left =
    at (states_of store first) left.are (left.some first (rw (key_eq-refl first) refl))
  where
    at : (states : List (List ℕ)) → row ∷ rest ≡ rows_from store first keys 1 states
        → 0 < length states → key_cmp row.key key ≡ key_cmp first key
    at [] same some = absurd (omega arith)
    at (state ∷ states) same some = let head : row.key ≡ first = cc same in ap (λ k. key_cmp k key) head

pub none_is : (store : Store) (keys : List Key) (key : Key) → AreLeft store keys [] → Greater ≡ first_compared keys key
none_is store [] key left = refl
none_is store (first ∷ keys) key left = at (states_of store first) left.are (left.some first (rw (key_eq-refl first) refl))
  where
    at : (states : List (List ℕ)) → [] ≡ rows_from store first keys 1 states
        → 0 < length states → Greater ≡ key_cmp first key
    at [] same some = absurd (omega arith)
    at (state ∷ states) same some = absurd (cc same)

-- what a comparison of two keys says
pub tells_same : (a b : Key) (differs : Bool) → differs ≡ not (pointwise nat_eq a b) → differs ≡ false → a ≡ b
tells_same a b differs is equal = by_test (pointwise nat_eq a b) (λ same. (bytes_decides a b).0 same)
    (λ apart. let wrong : false ≡ true = sym equal ∙ (is ∙ ap not apart) in cc wrong)

pub tells_apart : (a b : Key) (differs : Bool) → differs ≡ not (pointwise nat_eq a b) → differs ≡ true → a ≡ b → ⊥
tells_apart a b differs is unequal same =
    let wrong : true ≡ false = sym unequal ∙ (is ∙ ap not ((bytes_decides a b).1 same)) in cc wrong

-- how the key at a place compares with a key
pub first_there : (store : Store) (keys : List Key) (entries : List Row) (at : ℕ) (first key : Key)
    → option_map (λ row. row.key) (slice_get entries at) ≡ Some first → AreLeft store keys (drop at entries)
    → key_cmp first key ≡ first_compared keys key
first_there store keys entries at first key got left = of (slice_get entries at) refl got
  where
    of : (row : Option Row) → slice_get entries at ≡ row → option_map (λ row. row.key) row ≡ Some first
        → key_cmp first key ≡ first_compared keys key
    of None is got = absurd (cc got)
    of (Some row) is got =
        ap (λ k. key_cmp k key) (sym (same_Some _ _ got))
        ∙ first_is store keys row (drop (suc at) entries) key (subst (AreLeft store keys) (drop_there entries at row is) left)

-- the keys that are left begin with the one that is there
pub begins_there : (store : Store) (keys : List Key) (entries : List Row) (at least : ℕ) (first : Key)
    → option_map (λ row. row.key) (slice_get entries at) ≡ Some first → slice_get first 0 ≡ Some least
    → AreLeft store keys (drop at entries) → BeginsAt keys least
unfolding key_cmp
begins_there store keys entries at least [] got begins left word rest less = absurd (cc begins)
begins_there store keys entries at least (first ∷ others) got begins left word rest less =
    let same : first ≡ least = same_Some _ _ begins in
    sym (first_there store keys entries at (first ∷ others) (word ∷ rest) got left)
    ∙ rw (le-ltb first word (omega (arith, same, less)), ne_eqb first word (λ e. omega (arith, same, less, e))) refl

-- a key with a smaller first word comes before them
pub comes_before : (keys : List Key) (least word : ℕ) (key : Key) → BeginsAt keys least → slice_get key 0 ≡ Some word → word < least
    → Greater ≡ first_compared keys key
comes_before keys least word [] begins is less = absurd (cc is)
comes_before keys least word (first ∷ rest) begins is less =
    let same : first ≡ word = same_Some _ _ is in sym (begins first rest (omega (arith, same, less)))

pub below : (a b : ℕ) → (b ≤ a → ⊥) → a < b
below zero zero past = absurd (past (omega arith))
below zero (suc b) past = omega arith
below (suc a) zero past = absurd (past (omega arith))
below (suc a) (suc b) past = let less = below a b (λ le. past (omega (arith, le))) in omega (arith, less)

pub between : {a b : ℕ} → a ≤ b → (a ≡ b → ⊥) → a < b
between {a = a} {b = b} few other = below a b (λ past. other (omega (arith, few, past)))

-- a place with a row of the key is passed
pub there_within : (rows : List Row) (n : ℕ) (key : Key) → option_map (λ (row : Row). row.key) (slice_get rows n) ≡ Some key
    → n < length rows
there_within [] n key is = cc is
there_within (row ∷ rows) zero key is = omega arith
there_within (row ∷ rows) (suc n) key is = omega (arith, there_within rows n key is)

pub goes_on : (rows : List Row) (from next : ℕ) (key : Key) (row : Row) → from ≤ next
    → option_map (λ (r : Row). r.key) (slice_get rows from) ≡ Some key → slice_get rows next ≡ Some row → (row.key ≡ key → ⊥)
    → from < next
goes_on rows from next key row after is here apart = between after (λ same.
    let found : Some row.key ≡ Some key = sym (ap (option_map (λ (r : Row). r.key)) (ap (slice_get rows) same ∙ here)) ∙ is in
    apart (same_Some _ _ found))
