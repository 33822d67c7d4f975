-- What finals make of rows in the order of their keys, part by part.
use Rattle.part_laws.proofs.Words.{◌≡◌, ◌≢◌, ℕ, Bool, true, false, cond, ◌||◌, ◌==◌, List, [], ◌∷◌, ◌++◌, filter, flat_map, Option, Some}
use Rattle.part_laws.proofs.Words.{None, refl, sym, ap, ◌∙◌, subst, append-nil, length, arith, find, option_map, slice_index, cons_option}
use Rattle.part_laws.proofs.Words.{true≢false, false≢true, All-nil, All-cons, All-head, All-tail, Row, Key, key_eq, key_cmp, by_test}
use Rattle.part_laws.proofs.Words.{key_eq-true, TypedExpr, holds, expr_value, columns_of, plain_row, is_of_key, filtered_rows, mapped_row}
use Rattle.part_laws.proofs.Words.{mapped_rows, joined_rows, AreApart, has_number, same_number, not_number, own_number}
use Rattle.part_laws.proofs.{Packetwise.same_each, Ordered.{flat_joined, filter_joined, KeepsKey, made_by_key, of_key_in_order}}
use Rattle.part_laws.specs.FinalParts.{by_key, rows_of_all, AreInTheirParts, FiltersAreOfParts, MapsAreOfParts, JoinsAreOfParts}
use Rattle.part_laws.specs.FinalParts.{GroupbysAreNotOfParts}
use Rattle.std.proofs.Common.{All}

-- a function of each row alone, of the rows of all parts
of_parts : (f : Row → List Row) → KeepsKey f → (rows : ℕ → List Row) (parts : List ℕ)
    → flat_map f (rows_of_all rows parts) ≡ rows_of_all (λ n. flat_map f (rows n)) parts
of_parts f keeps rows parts = made_by_key f keeps (flat_map rows parts) ∙ ap by_key (flat_joined f rows parts)

-- ---- `filter` and `map`

abbrev one_filtered : TypedExpr → Row → List Row
one_filtered condition row = cond (holds (expr_value condition (columns_of row))) (plain_row row.key row.values ∷ []) []

filtered_each : (condition : TypedExpr) (rows : List Row) → filtered_rows condition rows ≡ flat_map (one_filtered condition) rows
filtered_each condition [] = refl
filtered_each condition (row ∷ rows) = by_test (holds (expr_value condition (columns_of row)))
    (λ e. rw e (ap (λ xs. plain_row row.key row.values ∷ xs) (filtered_each condition rows))) (λ e. rw e (filtered_each condition rows))

-- a row as finals show it, without its mark and its epochs
abbrev pub bare : Row → Row
bare row = plain_row row.key row.values

pub picked_keeps : (test : Row → Bool) → KeepsKey (λ row. cond (test row) (bare row ∷ []) [])
picked_keeps test row k = go _
  where
    none : (b : Bool) → let empty : List Row = [] in empty ≡ cond b empty empty
    none true = refl
    none false = refl

    go : (b : Bool) → filter (is_of_key k) (cond b (plain_row row.key row.values ∷ []) []) ≡ cond (key_eq row.key k)
        (cond b (plain_row row.key row.values ∷ []) []) []
    go true = refl
    go false = none _

pub filters_of_parts : FiltersAreOfParts
filters_of_parts condition rows parts =
    filtered_each _ _
    ∙ (of_parts _ (picked_keeps (λ row. holds (expr_value condition (columns_of row)))) rows _
    ∙ ap by_key (same_each _ _ parts
    (λ n. sym (filtered_each condition (rows n)))))

abbrev one_mapped : List TypedExpr → Row → List Row
one_mapped values row = mapped_row values row ∷ []

mapped_each : (values : List TypedExpr) (rows : List Row) → mapped_rows values rows ≡ flat_map (one_mapped values) rows
mapped_each values [] = refl
mapped_each values (row ∷ rows) = ap (λ xs. mapped_row values row ∷ xs) (mapped_each _ rows)

mapped_keeps : (values : List TypedExpr) → KeepsKey (one_mapped values)
unfolding mapped_row
mapped_keeps values row k = refl

pub maps_of_parts : MapsAreOfParts
maps_of_parts values rows parts =
    mapped_each _ _
    ∙ (of_parts _ (mapped_keeps _) rows _
    ∙ ap by_key (same_each _ _ parts
    (λ n. sym (mapped_each values (rows n)))))

-- ---- `join`

-- a row with what is found of its key
abbrev pub with_found : Row → Option Row → List Row
with_found row None = []
with_found row (Some other) = plain_row row.key (row.values ++ other.values) ∷ []

abbrev pub one_joined : List Row → Row → List Row
one_joined right row = with_found row (find (is_of_key row.key) right)

more_found : (row : Row) (o : Option Row) (xs ys : List Row) → xs ≡ ys
    → cons_option (option_map (λ other. plain_row row.key (row.values ++ other.values)) o) xs ≡ with_found row o ++ ys
more_found row None xs ys e = e
more_found row (Some other) xs ys e = ap (λ list. plain_row row.key (row.values ++ other.values) ∷ list) e

pub joined_each : (right left : List Row) → joined_rows left right ≡ flat_map (one_joined right) left
joined_each right [] = refl
joined_each right (row ∷ left) = more_found row (find (is_of_key row.key) right) (joined_rows left right) _ (joined_each right left)

found_keeps : (row : Row) (k : Key) (o : Option Row) → filter (is_of_key k) (with_found row o) ≡ cond (key_eq row.key k) (with_found row o)
    []
found_keeps row k None = none _
  where
    none : (b : Bool) → let empty : List Row = [] in empty ≡ cond b empty empty
    none true = refl
    none false = refl
found_keeps row k (Some other) = refl

joined_keeps : (right : List Row) → KeepsKey (one_joined right)
joined_keeps right row k = found_keeps row k _

abbrev first_of : List Row → Option Row
first_of [] = None
first_of (row ∷ rows) = Some row

find_first : (p : Row → Bool) (rows : List Row) → find p rows ≡ first_of (filter p rows)
find_first p [] = refl
find_first p (row ∷ rows) = by_test (p row) (λ e. rw e refl) (λ e. rw e (find_first p rows))

-- of parts that are apart, one gives what all give together, where the others give nothing
no_part : {A : Type 0} (f : ℕ → List A) (n : ℕ) (parts : List ℕ) → has_number n parts ≡ false → ((m : ℕ) → m ≢ n → f m ≡ [])
    → flat_map f parts ≡ []
no_part f n [] e none = refl
no_part f n (k ∷ parts) e none = by_test _ (λ t. absurd (true≢false (rw t at e)))
    (λ t. ap (λ xs. xs ++ flat_map f parts) (none k (not_number k n t)) ∙ no_part f n parts (rw t at e) none)

pub only_part : {A : Type 0} (f : ℕ → List A) (n : ℕ) (parts : List ℕ) → AreApart parts → has_number n parts ≡ true
    → ((m : ℕ) → m ≢ n → f m ≡ []) → flat_map f parts ≡ f n
only_part f n [] apart e none = absurd (false≢true e)
only_part f n (k ∷ parts) apart e none = by_test _ (λ t. let same : k ≡ n = same_number k n t in
    ap (λ xs. f k ++ xs) (no_part f n _ (subst (λ x. has_number x parts ≡ false) same apart.0) none) ∙ (append-nil _ ∙ ap f same))
    (λ t. ap (λ xs. xs ++ flat_map f parts) (none k (not_number k n t)) ∙ only_part f n parts apart.1 (rw t at e) none)

pub same_members : {A : Type 0} (f h : ℕ → List A) (parts : List ℕ) → ((n : ℕ) → has_number n parts ≡ true → f n ≡ h n)
    → flat_map f parts ≡ flat_map h parts
same_members f h [] e = refl
same_members f h (k ∷ parts) e =
    ap (λ xs. xs ++ flat_map f parts) (e k (ap (λ b. b || has_number k parts) (own_number k)))
    ∙ ap (λ xs. h k ++ xs) (same_members f h parts (λ n t. e n (ap (λ b. (k == n) || b) t ∙ or_true _)))
  where
    or_true : (b : Bool) → (b || true) ≡ true
    or_true true = refl
    or_true false = refl

module _ (part_of : Key → ℕ) (right : ℕ → List Row) (parts : List ℕ) (apart : AreApart parts) (there : AreInTheirParts part_of right) where
  -- no other part has a row of the key
  pub none_elsewhere : (key : Key) (m : ℕ) → m ≢ part_of key → filter (is_of_key key) (right m) ≡ []
  none_elsewhere key m other = go _ (there m)
    where
      go : (rows : List Row) → All (λ row. part_of row.key ≡ m) rows → filter (is_of_key key) rows ≡ []
      go [] all = refl
      go (row ∷ rows) all = by_test (key_eq row.key key)
          (λ e. absurd (other (sym (All-head (λ (r : Row). part_of r.key ≡ m) row rows all) ∙ ap part_of (key_eq-true row.key key e))))
          (λ e. rw e (go rows (All-tail (λ (r : Row). part_of r.key ≡ m) row rows all)))

  -- so all rows of the key are those of its part
  pub rows_of_key : (key : Key) (n : ℕ) → n ≡ part_of key → has_number n parts ≡ true
      → filter (is_of_key key) (rows_of_all right parts) ≡ filter (is_of_key key) (right n)
  rows_of_key key n is has =
      of_key_in_order key (flat_map right parts)
      ∙ (filter_joined (is_of_key key) right parts
      ∙ only_part (λ m. filter (is_of_key key) (right m)) n _ apart has (λ m other. none_elsewhere key m (λ e. other (e ∙ sym is))))

  same_found : (n : ℕ) → has_number n parts ≡ true → (row : Row) → part_of row.key ≡ n
      → find (is_of_key row.key) (rows_of_all right parts) ≡ find (is_of_key row.key) (right n)
  same_found n has row e =
      find_first (is_of_key row.key) (rows_of_all right parts)
      ∙ (ap first_of (rows_of_key _ n (sym e) has) ∙ sym (find_first (is_of_key row.key) (right n)))

  same_joined : (n : ℕ) → has_number n parts ≡ true → (left : List Row) → All (λ row. part_of row.key ≡ n) left
      → flat_map (one_joined (rows_of_all right parts)) left ≡ flat_map (one_joined (right n)) left
  same_joined n has [] all = refl
  same_joined n has (row ∷ left) all =
      ap (λ o. with_found row o ++ flat_map (one_joined (rows_of_all right parts)) left)
      (same_found n has row (All-head (λ (r : Row). part_of r.key ≡ n) row left all))
      ∙ ap (λ xs. one_joined (right n) row ++ xs) (same_joined n has left (All-tail (λ (r : Row). part_of r.key ≡ n) row left all))

pub joins_of_parts : JoinsAreOfParts
joins_of_parts part_of left right parts apart lefts rights =
    let all = rows_of_all right parts in
    joined_each all (rows_of_all left parts)
    ∙ (of_parts _ (joined_keeps _) left _
    ∙ ap by_key (same_members _ _ _
    (λ n has. same_joined part_of right _ apart rights n has (left n) (lefts n) ∙ sym (joined_each (right n) (left n)))))

-- ---- `groupby`

pub groupbys_not_of_parts : GroupbysAreNotOfParts
unfolding key_eq key_cmp
groupbys_not_of_parts f = (
  λ n. All-cons (λ (r : Row). slice_index r.key 0 ≡ n) (plain_row (n ∷ 5 ∷ []) []) [] refl (All-nil _),
  λ e. let few : 1 ≡ 2 = ap length e in absurd (omega arith),
)
