-- Finals make the same of rows, whatever their numbers of epochs.
use Rattle.part_laws.proofs.Words.{◌≡◌, ℕ, ◌+◌, cond, List, [], ◌∷◌, ◌++◌, map, filter, flat_map, Some, None, refl, sym, ap, ◌∙◌, find}
use Rattle.part_laws.proofs.Words.{nat_lt, count_by, sum_by-cons, Row, Key, key_eq, ascending, by_test, holds, folded, initial_state}
use Rattle.part_laws.proofs.Words.{expr_value, values_at, columns_of, plain_row, is_of_key, mapped_row, grouped_key, grouped_args}
use Rattle.part_laws.{proofs.{Words.goes_before, FinalRows.{one_joined, with_found, joined_each}}, specs.PartLaws.but_for_epochs}
use Rattle.part_laws.specs.FinalParts.{FiltersReadNoEpochs, MapsReadNoEpochs, GroupbysReadNoEpochs, JoinsReadNoEpochs, TopsReadNoEpochs}

pub filters_bare : FiltersReadNoEpochs
filters_bare condition [] = refl
filters_bare condition (row ∷ rows) = by_test (holds (expr_value condition (columns_of row)))
    (λ e. rw e (ap (λ xs. plain_row row.key row.values ∷ xs) (filters_bare condition rows))) (λ e. rw e (filters_bare condition rows))

pub maps_bare : MapsReadNoEpochs
unfolding mapped_row
maps_bare values [] = refl
maps_bare values (row ∷ rows) = ap (λ xs. mapped_row values row ∷ xs) (maps_bare values rows)

same_map : {A B : Type 0} (f h : A → B) (xs : List A) → ((x : A) → f x ≡ h x) → map f xs ≡ map h xs
same_map f h [] e = refl
same_map f h (x ∷ xs) e = ap (λ y. y ∷ map f xs) (e x) ∙ ap (λ ys. h x ∷ ys) (same_map f h xs e)

bare_keys : (keys : List ℕ) (rows : List Row) → map (grouped_key keys) (map but_for_epochs rows) ≡ map (grouped_key keys) rows
bare_keys keys [] = refl
bare_keys keys (row ∷ rows) = ap (λ ks. grouped_key keys row ∷ ks) (bare_keys _ rows)

bare_args : (keys args : List ℕ) (key : Key) (rows : List Row) → grouped_args keys args (map but_for_epochs rows) key ≡ grouped_args keys
    args rows key
bare_args keys args key [] = refl
bare_args keys args key (row ∷ rows) = by_test (key_eq (grouped_key keys row) key)
    (λ e. rw e (ap (λ xs. values_at (columns_of row) args ∷ xs) (bare_args _ _ _ rows))) (λ e. rw e (bare_args keys args key rows))

pub groupbys_bare : GroupbysReadNoEpochs
groupbys_bare keys None args rows = refl
groupbys_bare keys (Some f) args rows =
    ap (λ ks. map (λ key. plain_row key (folded f (initial_state f) (grouped_args keys args (map but_for_epochs rows) key))) (ascending ks))
    (bare_keys keys rows)
    ∙ same_map _
    _ _
    (λ key. ap (λ list. plain_row key (folded f (initial_state f) list)) (bare_args keys args key rows))

bare_found : (row : Row) (right : List Row) → with_found row (find (is_of_key row.key) (map but_for_epochs right)) ≡ with_found row
    (find (is_of_key row.key) right)
bare_found row [] = refl
bare_found row (other ∷ right) = by_test (key_eq other.key row.key) (λ e. rw e refl) (λ e. rw e (bare_found row right))

bare_joined : (right left : List Row) → flat_map (one_joined (map but_for_epochs right)) (map but_for_epochs left) ≡ flat_map
    (one_joined right) left
bare_joined right [] = refl
bare_joined right (row ∷ left) =
    ap (λ xs. xs ++ flat_map (one_joined (map but_for_epochs right)) (map but_for_epochs left)) (bare_found row right)
    ∙ ap (λ xs. one_joined right row ++ xs) (bare_joined right left)

pub joins_bare : JoinsReadNoEpochs
joins_bare left right =
    joined_each (map but_for_epochs right) (map but_for_epochs left) ∙ (bare_joined right left ∙ sym (joined_each right left))

bare_count : (column : ℕ) (row : Row) (rows : List Row)
    → count_by (λ other. goes_before column other row) (map but_for_epochs rows) ≡ count_by (λ other. goes_before column other row) rows
bare_count column row [] = refl
bare_count column row (first ∷ rows) =
    let one : Row → ℕ = λ other. cond (goes_before column other row) 1 0 in
    sum_by-cons one (but_for_epochs first) (map but_for_epochs rows)
    ∙ (ap (λ n. one first + n) (bare_count column row rows) ∙ sym (sum_by-cons one first rows))

bare_tops : (column kept : ℕ) (all rows : List Row) → map (λ row. plain_row row.key row.values)
    (filter (λ row. nat_lt (count_by (λ other. goes_before column other row) (map but_for_epochs all)) kept) (map but_for_epochs rows))
    ≡ map (λ row. plain_row row.key row.values) (filter (λ row. nat_lt (count_by (λ other. goes_before column other row) all) kept) rows)
bare_tops column kept all [] = refl
bare_tops column kept all (row ∷ rows) =
    let same : nat_lt (count_by (λ other. goes_before column other row) (map but_for_epochs all)) kept ≡ nat_lt
    (count_by (λ other. goes_before column other row) all) kept = ap (λ n. nat_lt n kept) (bare_count column row all) in
    by_test (nat_lt (count_by (λ other. goes_before column other row) all) kept)
    (λ e. rw (same ∙ e) (rw e (ap (λ xs. plain_row row.key row.values ∷ xs) (bare_tops column kept all rows))))
    (λ e. rw (same ∙ e) (rw e (bare_tops column kept all rows)))

pub tops_bare : TopsReadNoEpochs
tops_bare column kept rows = bare_tops column kept rows rows
