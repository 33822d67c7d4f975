-- The rows that `top` keeps, by ranks.
use Rattle.std.proofs.Common.{◌≡◌, ℕ, suc, ◌+◌, ◌-◌, ◌<◌, ◌≤◌, Bool, true, false, not, cond, List, [], ◌∷◌, ◌++◌, Option, ◌*◌, zero-mul}
use Rattle.std.proofs.Common.{suc-mul, add_comm, length, map, get_or, refl, sym, ap, ◌∙◌, subst, arith, append_assoc, length-append}
use Rattle.std.proofs.lemmas.{Bool.{true≢false, Decides.nat_tests}, List.Sorted.sum_by-IsPermutation}
use Rattle.std.{proofs.lemmas.List.Sums.{sum_by-append, sum_by-cons, count_by-le-length}, specs.List.{All, filter, count_by}}
use Rattle.std.specs.{List.Sorted.IsPermutation, Prelude.nat_lt, declared.cmp.Ordering.TheVariants.Less, Ordering.is_lt}
use Rattle.epoch_model.{specs.{declared.tables.Row.Row, Keys.{key_cmp, AreAbove, IsAscending}}, proofs.KeyLists.by_test}
use Rattle.final_queries.specs.{declared.top.Rank.Rank, Finals.{is_read, plain_row, goes_before, top_rows}, Joining.reads}
use Rattle.final_queries.specs.{Ranks.{rank_of, ranks_from, is_before, is_within}, TopRows.kept_from}
use Rattle.final_queries.proofs.KeyFacts.{key_cmp-itself, key_cmp-back}

-- ranks have an order

passes_on : (a t q : Rank) → is_before t a ≡ false → is_before t q ≡ true → is_before a q ≡ true
passes_on a t q up h = grind (arith, nat_tests)

stays_after : (a t q : Rank) → is_before a t ≡ false → is_before t q ≡ false → is_before a q ≡ false
stays_after a t q up h = grind (arith, nat_tests)

lt_true : (m n : ℕ) → m < n → true ≡ nat_lt m n
lt_true m n h = grind (arith, nat_tests)

lt_false : (m n : ℕ) → n ≤ m → false ≡ nat_lt m n
lt_false m n h = grind (arith, nat_tests)

count_first : {X : Type 0} (p : X → Bool) (x : X) (xs : List X) → count_by p (x ∷ xs) ≡ cond (p x) 1 0 + count_by p xs
count_first p x xs = sum_by-cons (λ y. cond (p y) 1 0) x xs

-- all of the things pass, or none of them
count_same : {X : Type 0} (p : X → Bool) (b : Bool) (xs : List X) → All (λ x. p x ≡ b) xs → count_by p xs ≡ length xs * cond b 1 0
count_same p b [] all = rw zero-mul refl
count_same p b (x ∷ xs) all =
    let rest = count_same p b xs (λ k d within. all (suc k) d (omega arith)) in
    count_first p x xs ∙ rw (all 0 x (omega arith), rest, suc-mul) (add_comm _ _)

-- with the last rank that is kept in its place, few enough go before a rank exactly if it isn't after that one
pub split_count : (ranks front back : List Rank) (t q : Rank) (kept : ℕ) → IsPermutation ranks (front ++ t ∷ back) → length front ≡ kept - 1
    → 0 < kept
    → ((k : ℕ) (d : Rank) → k < length front → is_before t (get_or front k d) ≡ false)
    → ((k : ℕ) (d : Rank) → k < length back → is_before (get_or back k d) t ≡ false)
    → not (is_before t q) ≡ nat_lt (count_by (λ o. is_before o q) ranks) kept
split_count ranks front back t q kept perm long some ahead later = by (λ o. is_before o q) refl
  where
    by : (p : Rank → Bool) → p ≡ (λ o. is_before o q) → not (is_before t q) ≡ nat_lt (count_by p ranks) kept
    by p is =
        let at : (x : Rank) → p x ≡ is_before x q = λ x. ap (λ (f : Rank → Bool). f x) is in
        let same : count_by p ranks ≡ count_by p front + (cond (p t) 1 0 + count_by p back) =
        sym (sum_by-IsPermutation (λ o. cond (p o) 1 0) ranks (front ++ t ∷ back) perm)
        ∙ (sum_by-append (λ o. cond (p o) 1 0) front (t ∷ back) ∙ ap (λ n. count_by p front + n) (count_first p t back)) in
        by_test (is_before t q)
        (λ h.
        let all = count_same p true front (λ k d within. at (get_or front k d) ∙ passes_on (get_or front k d) t q (ahead k d within) h) in
        let total = rw (at t ∙ h) at same in
        rw h (lt_false (count_by p ranks) kept (omega arith)))
        (λ h.
        let none = count_same p false back (λ k d within. at (get_or back k d) ∙ stays_after (get_or back k d) t q (later k d within) h) in
        let total = rw (at t ∙ h) at same in
        let few = count_by-le-length p front in
        rw h (lt_true (count_by p ranks) kept (omega arith)))

pub all_kept : (ranks : List Rank) (q : Rank) (kept : ℕ) → length ranks < kept → true ≡ nat_lt (count_by (λ o. is_before o q) ranks) kept
all_kept ranks q kept short =
    let few = count_by-le-length (λ (o : Rank). is_before o q) ranks in
    lt_true (count_by (λ o. is_before o q) ranks) kept (omega arith)

abbrev key_of : Row → List ℕ
key_of row = row.key

-- the rows, of which the first has this place, have smaller keys than a row exactly if they are before its place
abbrev AreOrdered : ℕ → List Row → ℕ → Row → Type 0
AreOrdered at [] place row = Unit {0}
AreOrdered at (o ∷ rows) place row = (is_read o.mark ≡ true → is_lt (key_cmp o.key row.key) ≡ nat_lt at place)
    × AreOrdered (suc at) rows place row

-- as many ranks go before the row's as rows go before it
ranks_count : (column at place : ℕ) (rows : List Row) (row : Row) → AreOrdered at rows place row
    → count_by (λ o. is_before o (rank_of column place row)) (ranks_from column at rows) ≡ count_by (λ o. goes_before column o row)
    (reads rows)
ranks_count column at place [] row h = refl
ranks_count column at place (o ∷ rows) row h =
    let rest = ranks_count column (suc at) place rows row h.1 in
    by_test (is_read o.mark)
    (λ t.
    let same : is_before (rank_of column at o) (rank_of column place row) ≡ goes_before column o row = rw (h.0 t) refl in
    rw t (count_first (λ x. is_before x (rank_of column place row)) (rank_of column at o) (ranks_from column (suc at) rows)
    ∙ (rw (same, rest) refl ∙ sym (count_first (λ x. goes_before column x row) o (reads rows)))))
    (λ t. rw t rest)

after_place : (at place : ℕ) (rows : List Row) (row : Row) → place < at → AreAbove row.key (map key_of (reads rows))
    → AreOrdered at rows place row
after_place at place [] row h above = tt
after_place at place (o ∷ rows) row h above = by_test (is_read o.mark)
    (λ t.
    let up = rw t at above in
    (λ _. rw (key_cmp-back row.key o.key up.0) (lt_false at place (omega arith)), after_place (suc at) place rows row (omega arith) up.1))
    (λ t. (λ s. absurd (true≢false (sym s ∙ t)), after_place (suc at) place rows row (omega arith) (rw t at above)))

above_in : (key : List ℕ) (front more : List Row) (row : Row) → is_read row.mark ≡ true
    → AreAbove key (map key_of (reads (front ++ row ∷ more))) → key_cmp key row.key ≡ Less
above_in key [] more row t above = (rw t at above).0
above_in key (o ∷ front) more row t above = by_test (is_read o.mark)
    (λ s. above_in key front more row t (rw s at above).1)
    (λ s. above_in key front more row t (rw s at above))

in_order : (at place : ℕ) (front more : List Row) (row : Row) → place ≡ at + length front → is_read row.mark ≡ true
    → IsAscending (map key_of (reads (front ++ row ∷ more)))
    → AreOrdered at (front ++ row ∷ more) place row
in_order at place [] more row e t order = (
  λ _. rw (key_cmp-itself row.key) (lt_false at place (omega arith)),
  after_place (suc at) place more row (omega arith) (rw t at order).0,
)
in_order at place (o ∷ front) more row e t order = by_test (is_read o.mark)
    (λ s.
    let up = rw s at order in (
      λ _. rw (above_in o.key front more row t up.0) (lt_true at place (omega arith)),
      in_order (suc at) place front more row (omega arith) t up.1,
    ))
    (λ s. (λ h. absurd (true≢false (sym h ∙ s)), in_order (suc at) place front more row (omega arith) t (rw s at order)))

abbrev plain_of : Row → Row
plain_of row = plain_row row.key row.values

abbrev is_top : ℕ → ℕ → List Row → Row → Bool
is_top column kept rows row = nat_lt (count_by (λ o. goes_before column o row) rows) kept

kept_rest : (last : Option Rank) (column kept : ℕ) (all : List Row) → ((rank : Rank)
    → is_within last rank ≡ nat_lt (count_by (λ o. is_before o rank) (ranks_from column 0 all)) kept)
    → IsAscending (map key_of (reads all)) → (front rest : List Row) (place : ℕ) → place ≡ length front → all ≡ front ++ rest
    → kept_from last column place rest ≡ map plain_of (filter (is_top column kept (reads all)) (reads rest))
kept_rest last column kept all within order front [] place long split = refl
kept_rest last column kept all within order front (row ∷ rest) place long split =
    let long_on : suc place ≡ length (front ++ row ∷ []) = let l = length-append front (row ∷ []) in omega arith in
    let next = kept_rest last column kept all within order (front ++ row ∷ []) rest (suc place) long_on
    (split ∙ sym (append_assoc front (row ∷ []) rest)) in
    by_test (is_read row.mark)
    (λ t.
    let ordered = in_order 0 place front rest row (omega arith) t (rw split at order) in
    let counted = ranks_count column 0 place all row (subst (λ xs. AreOrdered 0 xs place row) (sym split) ordered) in
    let same = within (rank_of column place row) ∙ ap (λ n. nat_lt n kept) counted in
    by_test (is_top column kept (reads all) row)
    (λ v. rw (t, same ∙ v, v, next) refl)
    (λ v. rw (t, same ∙ v, v, next) refl))
    (λ t. rw (t, next) refl)

-- The rows within the last rank that is kept are the top rows.
pub kept_top : (last : Option Rank) (column kept : ℕ) (all : List Row)
    → ((rank : Rank) → is_within last rank ≡ nat_lt (count_by (λ o. is_before o rank) (ranks_from column 0 all)) kept)
    → IsAscending (map key_of (reads all)) → kept_from last column 0 all ≡ top_rows column kept (reads all)
kept_top last column kept all within order = kept_rest last column kept all within order [] all 0 refl refl
