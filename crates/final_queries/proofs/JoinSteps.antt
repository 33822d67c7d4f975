-- Two tables in the order of their keys, walked side by side.
use Rattle.std.proofs.Common.{◌≡◌, ℕ, zero, suc, ◌+◌, true, false, List, [], ◌∷◌, ◌++◌, map, take, drop, refl, sym, ap, ◌∙◌, subst, add-one}
use Rattle.std.{proofs.{Common.append_assoc, lemmas.List.take-append-drop}, specs.Prelude.{Option, None, find, option_map}}
use Rattle.std.specs.{declared.cmp.Ordering.TheVariants.Less, Ordering.is_lt}
use Rattle.epoch_model.specs.{declared.tables.Row.Row, Keys.{Key, key_eq, key_cmp, AreAbove, IsAscending}}
use Rattle.epoch_model.proofs.KeyLists.{by_test, key_eq-sym_false}
use Rattle.final_queries.specs.Finals.{is_read, is_of_key, plain_row, joined_rows}
use Rattle.final_queries.specs.Joining.{reads, AreSmaller, StartsAtLeast, joined_first}
use Rattle.final_queries.proofs.KeyFacts.{key_cmp-less, less_is, less_apart, not_less, above_less}

abbrev key_of : Row → Key
key_of row = row.key

-- one more row was passed over
pub smaller_more : (key : Key) (rows : List Row) (n : ℕ) (row : Row) (rest : List Row) → drop n rows ≡ row ∷ rest
    → (is_read row.mark ≡ true → is_lt (key_cmp row.key key) ≡ true) → AreSmaller key (take n rows) → AreSmaller key (take (n + 1) rows)
smaller_more key rows n row rest e h s = rw add-one (by_suc key rows n row rest e h s)
  where
    same_row : (a b : Row) (xs ys : List Row) → a ∷ xs ≡ b ∷ ys → a ≡ b
    same_row a b xs ys e = cc

    by_suc : (key : Key) (rows : List Row) (n : ℕ) (row : Row) (rest : List Row) → drop n rows ≡ row ∷ rest
        → (is_read row.mark ≡ true → is_lt (key_cmp row.key key) ≡ true) → AreSmaller key (take n rows) → AreSmaller key (take (suc n) rows)
    by_suc key [] n row rest e h s = tt
    by_suc key (r ∷ rows) zero row rest e h s = (rw (same_row r row rows rest e) h, tt)
    by_suc key (r ∷ rows) (suc n) row rest e h s = (s.0, by_suc key rows n row rest e h s.1)

-- rows with smaller keys don't have this key
skipped : (key other : Key) (front rest : List Row) → ((k : Key) → key_cmp k key ≡ Less → key_eq k other ≡ false) → AreSmaller key front
    → find (is_of_key other) (reads (front ++ rest)) ≡ find (is_of_key other) (reads rest)
skipped key other [] rest apart s = refl
skipped key other (row ∷ front) rest apart s = by_test (is_read row.mark)
    (λ t. rw (t, apart row.key (less_is row.key key (s.0 t))) (skipped key other front rest apart s.1))
    (λ t. rw t (skipped key other front rest apart s.1))

abbrev joined_one : List Row → Row → Option Row
joined_one right row = option_map (λ other. plain_row row.key (row.values ++ other.values)) (find (is_of_key row.key) right)

all_skipped : (key : Key) (ls front rest : List Row) → AreAbove key (map key_of ls) → AreSmaller key front
    → joined_rows ls (reads (front ++ rest)) ≡ joined_rows ls (reads rest)
all_skipped key [] front rest above s = refl
all_skipped key (row ∷ ls) front rest above s =
    let one = skipped key row.key front rest (λ k e. less_apart k row.key (key_cmp-less k key row.key e above.0)) s in
    rw (one, all_skipped key ls front rest above.1 s) refl

-- no row has a key that is less than those of all rows
none_above : (key : Key) (rows : List Row) → AreAbove key (map key_of rows) → find (is_of_key key) rows ≡ None
none_above key [] above = refl
none_above key (row ∷ rows) above = rw (key_eq-sym_false key row.key (less_apart key row.key above.0)) (none_above key rows above.1)

next_joined : (row other : Row) (ls rest more : List Row) → IsAscending (map key_of (other ∷ more))
    → is_lt (key_cmp other.key row.key) ≡ false
    → joined_rows (row ∷ ls) (other ∷ more) ≡ joined_first row (other ∷ rest) ++ joined_rows ls (other ∷ more)
next_joined row other ls rest more order least = by_test (key_eq other.key row.key)
    (λ t. rw t refl)
    (λ t.
    let up = not_less other.key row.key least t in
    rw (t, none_above row.key more (above_less row.key other.key (map key_of more) up order.0)) refl)

first_joined : (row : Row) (ls rest : List Row) → IsAscending (map key_of (reads rest)) → StartsAtLeast row.key rest
    → joined_rows (row ∷ ls) (reads rest) ≡ joined_first row rest ++ joined_rows ls (reads rest)
first_joined row ls [] order least = refl
first_joined row ls (other ∷ rest) order least =
    let e : reads (other ∷ rest) ≡ other ∷ reads rest = rw least.0 refl in
    subst (λ xs. joined_rows (row ∷ ls) xs ≡ joined_first row (other ∷ rest) ++ joined_rows ls xs) (sym e)
    (next_joined row other ls rest (reads rest) (rw least.0 at order) least.1)

-- The rows with smaller keys are passed over, and the row is joined with the first of the others.
joined_on : (row : Row) (ls right front rest : List Row) → right ≡ front ++ rest → IsAscending (map key_of (row ∷ ls))
    → IsAscending (map key_of (reads rest))
    → AreSmaller row.key front → StartsAtLeast row.key rest → joined_rows (row ∷ ls) (reads right) ≡ joined_first row rest
    ++ joined_rows ls (reads rest)
joined_on row ls right front rest e left order s least =
    let one = skipped row.key row.key front rest (λ k h. less_apart k row.key h) s in
    let more = all_skipped row.key ls front rest left.0 s in
    let skip : joined_rows (row ∷ ls) (reads (front ++ rest)) ≡ joined_rows (row ∷ ls) (reads rest) = rw (one, more) refl in
    ap (λ xs. joined_rows (row ∷ ls) (reads xs)) e ∙ skip ∙ first_joined row ls rest order least

-- what is left is in order
ordered_on : (front rest : List Row) → IsAscending (map key_of (reads (front ++ rest))) → IsAscending (map key_of (reads rest))
ordered_on [] rest order = order
ordered_on (row ∷ front) rest order = by_test (is_read row.mark)
    (λ t. ordered_on front rest (rw t at order).1)
    (λ t. ordered_on front rest (rw t at order))

-- a row that is read: it is joined, and what is left of both gives the rest
pub joined_turn : (whole made after left right front rest : List Row) (i : ℕ) (row : Row)
    → reads (drop i left) ≡ row ∷ reads (drop (i + 1) left)
    → IsAscending (map key_of (reads left)) → IsAscending (map key_of (reads right)) → right ≡ front ++ rest → AreSmaller row.key front
    → StartsAtLeast row.key rest
    → after ≡ made ++ joined_first row rest → made ++ joined_rows (reads (drop i left)) (reads right) ≡ whole
    → (after ++ joined_rows (reads (drop (i + 1) left)) (reads rest) ≡ whole) × IsAscending (map key_of (reads rest))
joined_turn whole made after left right front rest i row first order right_order e smaller least is so_far =
    let later = ordered_on (take i left) (drop i left) (rw take-append-drop order) in
    let rest_order = ordered_on front rest (rw e at right_order) in
    let ls = reads (drop (i + 1) left) in
    let on = joined_on row ls right front rest e (rw first at later) rest_order smaller least in
    (rw (is, append_assoc, ← on) (rw first at so_far), rest_order)
