-- Rows in the order of their keys, and what is made of each row alone.
use Rattle.part_laws.proofs.Words.{◌≡◌, Bool, true, false, cond, ◌&&◌, ◌||◌, List, [], ◌∷◌, ◌++◌, map, filter, flat_map, refl, sym, ap, ◌∙◌}
use Rattle.part_laws.proofs.Words.{Less, Equal, true≢false, nat_list_cmp_total, tied_itself, filter-append, Row, Key, key_eq, key_cmp, has}
use Rattle.part_laws.proofs.Words.{ascending, AreAbove, IsAscending, by_test, key_eq-true, ascending-ascends, has-ascending, same_ascending}
use Rattle.part_laws.{proofs.Words.{some, is_of_key}, specs.FinalParts.by_key}
use Rattle.std.proofs.lemmas.Grind.{flat_map-append}

-- ---- lists

pub flat_joined : {A B C : Type 0} (h : B → List C) (f : A → List B) (xs : List A)
    → flat_map h (flat_map f xs) ≡ flat_map (λ x. flat_map h (f x)) xs
flat_joined h f [] = refl
flat_joined h f (x ∷ xs) = flat_map-append h _ _ ∙ ap (λ ys. flat_map h (f x) ++ ys) (flat_joined h f xs)

pub filter_joined : {A B : Type 0} (p : B → Bool) (f : A → List B) (xs : List A)
    → filter p (flat_map f xs) ≡ flat_map (λ x. filter p (f x)) xs
filter_joined p f [] = refl
filter_joined p f (x ∷ xs) = filter-append p _ (flat_map f xs) ∙ ap (λ ys. filter p (f x) ++ ys) (filter_joined p f xs)

pub flat_of_filter : {A B : Type 0} (p : A → Bool) (f : A → List B) (xs : List A)
    → flat_map (λ x. cond (p x) (f x) []) xs ≡ flat_map f (filter p xs)
flat_of_filter p f [] = refl
flat_of_filter p f (x ∷ xs) = by_test (p x) (λ e. rw e (ap (λ ys. f x ++ ys) (flat_of_filter p f xs))) (λ e. rw e (flat_of_filter p f xs))

-- where the test fails, the function gives nothing
pub flat_where : {A B : Type 0} (p : A → Bool) (f : A → List B) (xs : List A) → ((x : A) → p x ≡ false → f x ≡ [])
    → flat_map f xs ≡ flat_map f (filter p xs)
flat_where p f [] none = refl
flat_where p f (x ∷ xs) none = by_test (p x) (λ e. rw e (ap (λ ys. f x ++ ys) (flat_where p f xs none)))
    (λ e. rw e (ap (λ ys. ys ++ flat_map f xs) (none x e) ∙ flat_where p f xs none))

-- ---- keys

above_filtered : (t : Key → Bool) (low : Key) (keys : List Key) → AreAbove low keys → AreAbove low (filter t keys)
above_filtered t low [] above = tt
above_filtered t low (key ∷ keys) above = by_test (t key) (λ e. rw e (above.0, above_filtered t _ keys above.1))
    (λ e. rw e (above_filtered t low keys above.1))

filter_ascends : (t : Key → Bool) (keys : List Key) → IsAscending keys → IsAscending (filter t keys)
filter_ascends t [] s = tt
filter_ascends t (key ∷ keys) s = by_test (t key) (λ e. rw e (above_filtered t _ _ s.0, filter_ascends t keys s.1))
    (λ e. rw e (filter_ascends t keys s.1))

has_filtered : (t : Key → Bool) (k : Key) (keys : List Key) → has k (filter t keys) ≡ (t k && has k keys)
has_filtered t k [] = none (t k)
  where
    none : (b : Bool) → false ≡ (b && false)
    none true = refl
    none false = refl
has_filtered t k (key ∷ keys) = by_test (t key) (λ e. rw e (ap (λ b. key_eq key k || b) (has_filtered t k keys)
    ∙ by_test (key_eq key k) (λ s. let here : t k ≡ true = ap t (sym (key_eq-true key k s)) ∙ e in rw s (rw here refl)) (λ s. rw s refl)))
    (λ e. rw e (has_filtered t k keys ∙ by_test _ (λ s. let here : t k ≡ false = ap t (sym (key_eq-true _ k s)) ∙ e in rw here refl)
    (λ s. rw s refl)))

-- a function that gives nothing of other keys makes the same of both lists
pub only_some : {A : Type 0} (f : Key → List A) (xs ys : List Key) → IsAscending xs → IsAscending ys
    → ((k : Key) → has k ys ≡ true → has k xs ≡ true) → ((k : Key) → has k ys ≡ false → f k ≡ []) → flat_map f xs ≡ flat_map f ys
only_some f xs ys s t more none =
    flat_where _ f _ none
    ∙ ap (flat_map f) (same_ascending _ _ (filter_ascends _ _ s) t
    (λ k. has_filtered _ k xs ∙ by_test (has k ys) (λ e. rw e (more k e)) (λ e. rw e refl)))

pub key_cmp-itself : (a : Key) → key_cmp a a ≡ Equal
unfolding key_cmp
key_cmp-itself a = tied_itself nat_list_cmp_total a

less_apart : (a b : Key) → key_cmp a b ≡ Less → key_eq b a ≡ false
less_apart a b e = by_test _ (λ t. absurd (unlike (sym e ∙ (ap (λ x. key_cmp a x) (key_eq-true b a t) ∙ key_cmp-itself a)))) (λ t. t)
  where
    unlike : Less ≡ Equal → ⊥
    unlike e = cc

pub absent_above : (key : Key) (keys : List Key) → AreAbove key keys → has key keys ≡ false
absent_above key [] above = refl
absent_above key (first ∷ keys) above = ap (λ b. b || has key keys) (less_apart key _ above.0) ∙ absent_above key keys above.1

-- of ascending keys one is this key, or none
pub at_key : {A : Type 0} (f : Key → List A) (k : Key) (keys : List Key) → IsAscending keys
    → flat_map (λ key. cond (key_eq key k) (f key) []) keys ≡ cond (has k keys) (f k) []
at_key f k [] s = refl
at_key f k (key ∷ keys) s = by_test _ (λ e. let same : key ≡ k = key_eq-true _ k e in
    let none : has k keys ≡ false = ap (λ x. has x keys) (sym same) ∙ absent_above _ _ s.0 in
    rw e (ap (λ ys. f key ++ ys) (at_key f k keys s.1 ∙ rw none refl) ∙ (last _ ∙ ap f same)))
    (λ e. rw e (at_key f k keys s.1))
  where
    last : {A : Type 0} (xs : List A) → xs ++ [] ≡ xs
    last [] = refl
    last (x ∷ xs) = ap (λ ys. x ∷ ys) (last _)

-- ---- rows by key

abbrev pub keys_of : List Row → List Key
keys_of rows = map (λ row. row.key) rows

pub key_of_rows : (k : Key) (rows : List Row) → has k (keys_of rows) ≡ some (filter (is_of_key k) rows)
key_of_rows k [] = refl
key_of_rows k (row ∷ rows) = by_test (key_eq row.key k) (λ e. rw e refl) (λ e. rw e (key_of_rows k rows))

none_of_key : (k : Key) (rows : List Row) → has k (keys_of rows) ≡ false → filter (is_of_key k) rows ≡ []
none_of_key k rows e = empty _ (sym (key_of_rows k _) ∙ e)
  where
    empty : (xs : List Row) → some xs ≡ false → xs ≡ []
    empty [] e = refl
    empty (x ∷ xs) e = absurd (true≢false e)

-- what is made of a row has the row's key
abbrev pub KeepsKey : (Row → List Row) → Type 0
KeepsKey f = (row : Row) (k : Key) → filter (is_of_key k) (f row) ≡ cond (key_eq row.key k) (f row) []

module _ (f : Row → List Row) (keeps : KeepsKey f) where
  same_flat : (k : Key) (rows : List Row) → flat_map (λ row. filter (is_of_key k) (f row)) rows ≡ flat_map
      (λ row. cond (key_eq row.key k) (f row) []) rows
  same_flat k [] = refl
  same_flat k (row ∷ rows) =
      ap (λ xs. xs ++ flat_map (λ r. filter (is_of_key k) (f r)) rows) (keeps _ k)
      ∙ ap (λ xs. cond (key_eq row.key k) (f row) [] ++ xs) (same_flat k rows)

  of_key_made : (k : Key) (rows : List Row) → filter (is_of_key k) (flat_map f rows) ≡ flat_map f (filter (is_of_key k) rows)
  of_key_made k rows = filter_joined _ f _ ∙ (same_flat k _ ∙ flat_of_filter (is_of_key k) f rows)

  made_has : (k : Key) (rows : List Row) → has k (keys_of (flat_map f rows)) ≡ true → has k (keys_of rows) ≡ true
  made_has k rows e = by_test _ (λ t. t) (λ t. absurd (true≢false (sym e
      ∙ (key_of_rows k _ ∙ ap some (of_key_made k _ ∙ ap (flat_map f) (none_of_key k _ t))))))

  each_key : (keys : List Key) (rows : List Row)
      → flat_map (λ k. flat_map f (filter (is_of_key k) rows)) keys ≡ flat_map (λ k. filter (is_of_key k) (flat_map f rows)) keys
  each_key [] rows = refl
  each_key (k ∷ keys) rows =
      ap (λ xs. xs ++ flat_map (λ j. flat_map f (filter (is_of_key j) rows)) keys) (sym (of_key_made k _))
      ∙ ap (λ xs. filter (is_of_key k) (flat_map f rows) ++ xs) (each_key keys _)

  -- it makes of rows by key what it makes of the rows, by key
  pub made_by_key : (rows : List Row) → flat_map f (by_key rows) ≡ by_key (flat_map f rows)
  made_by_key rows =
      flat_joined f (λ k. filter (is_of_key k) rows) (ascending (keys_of rows))
      ∙ (each_key (ascending (keys_of rows)) rows
      ∙ only_some (λ k. filter (is_of_key k) (flat_map f rows)) (ascending (keys_of rows)) (ascending (keys_of (flat_map f rows)))
      (ascending-ascends (keys_of rows)) (ascending-ascends (keys_of (flat_map f rows)))
      (λ k e. has-ascending k (keys_of _) ∙ made_has k rows (sym (has-ascending k (keys_of _)) ∙ e))
      (λ k e. none_of_key k (flat_map f rows) (sym (has-ascending k (keys_of _)) ∙ e)))

-- ---- the rows of one key

filter_twice : (k key : Key) (rows : List Row) → filter (is_of_key k) (filter (is_of_key key) rows) ≡ cond (key_eq key k)
    (filter (is_of_key key) rows) []
filter_twice k key [] = none _
  where
    none : (b : Bool) → let empty : List Row = [] in empty ≡ cond b empty empty
    none true = refl
    none false = refl
filter_twice k key (row ∷ rows) = by_test _ (λ e. let same : row.key ≡ key = key_eq-true _ _ e in
    rw e (by_test _
    (λ t. let here : key_eq row.key k ≡ true = ap (λ x. key_eq x k) same ∙ t in
    rw here (rw t (ap (λ xs. row ∷ xs) (filter_twice k _ rows ∙ rw t refl))))
    (λ t. let here : key_eq row.key k ≡ false = ap (λ x. key_eq x k) same ∙ t in
    rw here (rw t (filter_twice k key rows ∙ rw t refl)))))
    (λ e. rw e (filter_twice k key rows))

each_twice : (k : Key) (keys : List Key) (rows : List Row) → flat_map (λ key. filter (is_of_key k) (filter (is_of_key key) rows)) keys
    ≡ flat_map (λ key. cond (key_eq key k) (filter (is_of_key key) rows) []) keys
each_twice k [] rows = refl
each_twice k (key ∷ keys) rows =
    ap (λ xs. xs ++ flat_map (λ j. filter (is_of_key k) (filter (is_of_key j) rows)) keys) (filter_twice k _ _)
    ∙ ap (λ xs. cond (key_eq key k) (filter (is_of_key key) rows) [] ++ xs) (each_twice k keys _)

-- the order of keys leaves the rows of one key as they are
pub of_key_in_order : (k : Key) (rows : List Row) → filter (is_of_key k) (by_key rows) ≡ filter (is_of_key k) rows
of_key_in_order k rows =
    filter_joined (is_of_key k) (λ key. filter (is_of_key key) rows) (ascending (keys_of rows))
    ∙ (each_twice k (ascending (keys_of rows)) rows
    ∙ (at_key (λ key. filter (is_of_key key) rows) k (ascending (keys_of rows)) (ascending-ascends (keys_of rows))
    ∙ (ap (λ b. cond b (filter (is_of_key k) rows) []) (has-ascending k (keys_of rows)) ∙ there)))
  where
    there : cond (has k (keys_of rows)) (filter (is_of_key k) rows) [] ≡ filter (is_of_key k) rows
    there = by_test (has k (keys_of rows)) (λ e. rw e refl) (λ e. rw e (sym (none_of_key k rows e)))
