-- Lists of epochs: the keys that they have, and the row lists of one key.
use Rattle.std.proofs.Common.{◌≡◌, ℕ, zero, suc, ◌-◌, ◌≤◌, true, false, ◌&&◌, ◌||◌, List, [], ◌∷◌, ◌++◌, length, take, map, filter, refl}
use Rattle.std.proofs.{Common.{sym, ap, ◌∙◌, subst, arith, append-nil, take-append-drop, length-append}, lemmas.Bool.false≢true}
use Rattle.std.{proofs.lemmas.List.{map-append, Elements.filter-append}, specs.Prelude.nat_lt}
use Rattle.epoch_model.specs.{Keys.{Key, ArgRow, key_eq, others, has}, Epochs.onto_last, Machine.{Epoch, is_of, is_open, rows_in_epochs}}
use Rattle.epoch_model.specs.Machine.{without, with_row, with_new, all_but_last, last_alone, lists_of}
use Rattle.epoch_model.proofs.KeyLists.{by_test, key_eq-true, key_eq-refl, key_eq-along, before, has-take, IsDistinct, absent_head}

-- the keys of these epochs
abbrev pub keys_of : List Epoch → List Key
keys_of epochs = map (λ epoch. epoch.key) epochs

pub is_open-has : (k : Key) (epochs : List Epoch) → is_open k epochs ≡ has k (keys_of epochs)
is_open-has k [] = refl
is_open-has k (e ∷ es) = ap (λ t. key_eq e.key k || t) (is_open-has k es)

pub keys_of-without : (k : Key) (epochs : List Epoch) → keys_of (without k epochs) ≡ others k (keys_of epochs)
keys_of-without k [] = refl
keys_of-without k (e ∷ es) = by_test (key_eq e.key k) (λ h. rw h (keys_of-without k es))
    (λ h. rw h (ap (λ ks. e.key ∷ ks) (keys_of-without k es)))

pub lists_of-append : (k : Key) (xs ys : List Epoch) → lists_of k (xs ++ ys) ≡ lists_of k xs ++ lists_of k ys
lists_of-append k xs ys = ap (map (λ epoch. epoch.rows)) (filter-append (is_of k) xs ys)
    ∙ map-append (λ epoch. epoch.rows) (filter (is_of k) xs) (filter (is_of k) ys)

pub lists_of-absent : (k : Key) (epochs : List Epoch) → has k (keys_of epochs) ≡ false → lists_of k epochs ≡ []
lists_of-absent k [] h = refl
lists_of-absent k (e ∷ es) h = let a = absent_head k e.key (keys_of es) h in rw a.0 (lists_of-absent k es a.1)

pub lists_of-without_same : (k : Key) (epochs : List Epoch) → lists_of k (without k epochs) ≡ []
lists_of-without_same k [] = refl
lists_of-without_same k (e ∷ es) = by_test (key_eq e.key k) (λ h. rw h (lists_of-without_same k es))
    (λ h. rw (h, h) (lists_of-without_same k es))

pub lists_of-without_other : (k j : Key) (epochs : List Epoch) → key_eq k j ≡ false → lists_of j (without k epochs) ≡ lists_of j epochs
lists_of-without_other k j [] h = refl
lists_of-without_other k j (e ∷ es) h = by_test (key_eq e.key k)
    (λ i. let f : key_eq e.key j ≡ false = key_eq-along e.key k j i ∙ h in rw (i, f) (lists_of-without_other k j es h))
    (λ i. by_test (key_eq e.key j) (λ f. rw (i, f) (ap (λ ls. e.rows ∷ ls) (lists_of-without_other k j es h)))
    (λ f. rw (i, f) (lists_of-without_other k j es h)))

-- of distinct keys one has one list
pub lists_of-open : (k : Key) (epochs : List Epoch) → IsDistinct (keys_of epochs) → has k (keys_of epochs) ≡ true
    → lists_of k epochs ≡ rows_in_epochs k epochs ∷ []
lists_of-open k [] d h = absurd (false≢true h)
lists_of-open k (e ∷ es) d h = by_test (key_eq e.key k)
    (λ i. rw i (ap (λ ls. e.rows ∷ ls) (lists_of-absent k es (subst (λ j. has j (keys_of es) ≡ false) (key_eq-true e.key k i) d.0))))
    (λ i. rw i (lists_of-open k es d.1 (sym (ap (λ t. t || has k (keys_of es)) i) ∙ h)))

pub lists_of-few : (k : Key) (epochs : List Epoch) → IsDistinct (keys_of epochs) → length (lists_of k epochs) ≤ 1
lists_of-few k epochs d = by_test _ (λ h. rw (lists_of-open k _ d h) (omega arith)) (λ h. rw (lists_of-absent k _ h) (omega arith))

-- a list of at most one element in two parts is the parts the other way round
pub swap_few : {A : Type 0} (xs ys : List A) → length (xs ++ ys) ≤ 1 → ys ++ xs ≡ xs ++ ys
swap_few [] ys h = append-nil ys
swap_few (x ∷ xs) [] h = sym (append-nil (x ∷ xs))
swap_few (x ∷ xs) (y ∷ ys) h = absurd (omega (arith, length-append xs (y ∷ ys)))

pub lists_of-closing : (k : Key) (epochs : List Epoch) → IsDistinct (keys_of epochs) → lists_of k (last_alone epochs)
    ++ lists_of k (all_but_last epochs) ≡ lists_of k epochs
lists_of-closing k epochs d =
    let whole : lists_of k (all_but_last epochs) ++ lists_of k (last_alone epochs) ≡ lists_of k epochs =
    sym (lists_of-append k (all_but_last epochs) (last_alone epochs)) ∙ ap (lists_of k) (take-append-drop (length epochs - 1) epochs) in
    swap_few (lists_of k (all_but_last epochs)) (lists_of k (last_alone epochs))
    (subst (λ ls. length ls ≤ 1) (sym whole) (lists_of-few k epochs d)) ∙ whole

pub lists_of-last_absent : (k : Key) (epochs : List Epoch) → has k (keys_of epochs) ≡ false → lists_of k (last_alone epochs) ≡ []
lists_of-last_absent k epochs h = nothing (lists_of k (all_but_last epochs)) (lists_of k (last_alone epochs)) (sym (lists_of-append k _ _)
    ∙ (ap (lists_of k) (take-append-drop (length epochs - 1) epochs) ∙ lists_of-absent k _ h))
  where
    nothing : (xs ys : List (List ArgRow)) → xs ++ ys ≡ [] → ys ≡ []
    nothing [] ys e = e
    nothing (x ∷ xs) ys e = cc

pub has-front : (n : ℕ) (k : Key) (xs : List Key) → has k xs ≡ false → has k (take n xs) ≡ false
has-front n k xs h = has-take n k _ ∙ ap (λ t. t && nat_lt (length (before k xs)) n) h

pub distinct-take : (n : ℕ) (xs : List Key) → IsDistinct xs → IsDistinct (take n xs)
distinct-take zero xs d = tt
distinct-take (suc n) [] d = tt
distinct-take (suc n) (x ∷ xs) d = (has-front n x _ d.0, distinct-take n _ d.1)

pub rows_of-absent : (k : Key) (epochs : List Epoch) → has k (keys_of epochs) ≡ false → rows_in_epochs k epochs ≡ []
rows_of-absent k [] h = refl
rows_of-absent k (e ∷ es) h = let a = absent_head k e.key (keys_of es) h in rw a.0 (rows_of-absent k es a.1)

pub onto_last-append : (row : ArgRow) (xs : List (List ArgRow)) (rows : List ArgRow) → onto_last row (xs ++ rows ∷ []) ≡ xs
    ++ (rows ++ row ∷ []) ∷ []
onto_last-append row [] rows = refl
onto_last-append row (x ∷ []) rows = refl
onto_last-append row (x ∷ y ∷ xs) rows = ap (λ ls. x ∷ ls) (onto_last-append row (y ∷ xs) rows)

pub lists_of-with_row_same : (k : Key) (row : ArgRow) (epochs : List Epoch)
    → lists_of k (with_row k row epochs) ≡ (rows_in_epochs k epochs ++ row ∷ []) ∷ []
lists_of-with_row_same k row epochs = rw (key_eq-refl k) (ap (λ ls. (rows_in_epochs k epochs ++ row ∷ []) ∷ ls) (lists_of-without_same k _))

pub lists_of-with_row_other : (k j : Key) (row : ArgRow) (epochs : List Epoch) → key_eq k j ≡ false
    → lists_of j (with_row k row epochs) ≡ lists_of j epochs
lists_of-with_row_other k j row epochs h = rw h (lists_of-without_other k j _ h)

pub lists_of-with_new_same : (k : Key) {row : ArgRow} (epochs : List Epoch) → lists_of k (with_new k row epochs) ≡ (row ∷ [])
    ∷ lists_of k epochs
lists_of-with_new_same k epochs = rw (key_eq-refl k) refl

pub lists_of-with_new_other : (k j : Key) (row : ArgRow) (epochs : List Epoch) → key_eq k j ≡ false
    → lists_of j (with_new k row epochs) ≡ lists_of j epochs
lists_of-with_new_other k j row epochs h = rw h refl
