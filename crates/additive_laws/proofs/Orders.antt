-- Rows of several switches: one switch's rows stay in order, and pieces are merged in any order.
use Rattle.std.proofs.Common.{◌≡◌, ℕ, ◌+◌, Bool, true, false, cond, ◌==◌, List, [], ◌∷◌, ◌++◌, map, filter, slice_index, refl, sym, ap, ◌∙◌}
use Rattle.std.proofs.{Common.{subst, arith}, lemmas.{Bool.Decides.nat_tests, List.{map-append, Elements.filter-append}}}
use Rattle.std.proofs.lemmas.List.{Sums.{sum_by-cons, sum_by-append}, Sorted.{IsPermutation-refl, IsPermutation-sym, IsPermutation-trans}}
use Rattle.std.proofs.lemmas.List.Sorted.{IsPermutation-cons, IsPermutation-middle, IsPermutation-map, sum_by-IsPermutation}
use Rattle.std.specs.List.{sum_by, flat_map, Sorted.IsPermutation}
use Rattle.epoch_model.specs.Keys.{ArgRow}
use Rattle.query_lang.specs.{declared.fold.TypedFold.TypedFold, Folds.folded}
use Rattle.additive_laws.specs.{Amounts.amount, Laws.IsAdditiveFrom}
use Rattle.additive_laws.specs.Pieces.{Given, Piece, rows_joined, all_rows, rows_from, lists_merged, lists_from, Interleaves}
use Rattle.additive_laws.proofs.Sums.{total, same_totals, any_order}

module _ {X : Type 0} (tag : X → ℕ) where
  -- the elements with this tag
  abbrev tagged : ℕ → List X → List X
  tagged s xs = filter (λ x. tag x == s) xs

  -- a list whose first element with the tag of x is x itself
  record Found (x : X) (rest ys : List X) : Type 0 where
    before : List X
    after : List X
    is : ys ≡ before ++ x ∷ after
    none : tagged (tag x) before ≡ []
    others : tagged (tag x) after ≡ rest

  find_first : {x : X} {rest : List X} (ys : List X) → tagged (tag x) ys ≡ x ∷ rest → Found x rest ys
  find_first [] e = cc
  find_first {x} {rest} (y ∷ ys) e = at (λ h. find_first ys h) (tag y == tag x) refl e
    where
      at : (tagged (tag x) ys ≡ x ∷ rest → Found x rest ys) → (t : Bool) → (tag y == tag x) ≡ t
          → cond t (y ∷ tagged (tag x) ys) (tagged (tag x) ys) ≡ x ∷ rest → Found x rest (y ∷ ys)
      at find true t e =
          let head : y ≡ x = cc in
          let tail : tagged (tag x) ys ≡ rest = cc in
          record { before = []; after = ys; is = ap (λ z. z ∷ ys) head; none = refl; others = tail }
      at find false t e =
          let more = find e in
          record {
            before = y ∷ more.before;
            after = more.after;
            is = ap (λ zs. y ∷ zs) more.is;
            none = ap (λ b. cond b (y ∷ tagged (tag x) more.before) (tagged (tag x) more.before)) t ∙ more.none;
            others = more.others;
          }

  own : (x : X) (xs : List X) → tagged (tag x) (x ∷ xs) ≡ x ∷ tagged (tag x) xs
  own x xs = let e : (tag x == tag x) ≡ true = grind (arith, nat_tests) in ap (λ b. cond b (x ∷ tagged (tag x) xs) (tagged (tag x) xs)) e

  -- two lists with the same elements in the same order at each tag are the same but for the order
  same_at_each : (xs ys : List X) → ((s : ℕ) → tagged s xs ≡ tagged s ys) → IsPermutation xs ys
  same_at_each [] [] h = IsPermutation-refl []
  same_at_each [] (y ∷ ys) h = let none : [] ≡ y ∷ tagged (tag y) ys = h (tag y) ∙ own y ys in cc
  same_at_each (x ∷ xs) ys h =
      let f = find_first ys (sym (h (tag x)) ∙ own x xs) in
      let rest = same_at_each xs (f.before ++ f.after) (λ s. at f s (tag x == s) refl) in
      subst (IsPermutation (x ∷ xs)) (sym f.is) (IsPermutation-trans (x ∷ xs) (x ∷ (f.before ++ f.after)) (f.before ++ x ∷ f.after)
      (IsPermutation-cons x xs (f.before ++ f.after) rest)
      (IsPermutation-sym (f.before ++ x ∷ f.after) (x ∷ (f.before ++ f.after)) (IsPermutation-middle f.before x f.after)))
    where
      at : (f : Found x (tagged (tag x) xs) ys) (s : ℕ) (t : Bool) → (tag x == s) ≡ t → tagged s xs ≡ tagged s (f.before ++ f.after)
      at f s true t =
          let same : tag x ≡ s = grind (arith, nat_tests) in
          subst (λ k. tagged k xs ≡ tagged k (f.before ++ f.after)) same
          (sym f.others ∙ ap (λ zs. zs ++ tagged (tag x) f.after) (sym f.none) ∙ sym (filter-append (λ y. tag y == tag x) f.before f.after))
      at f s false t = ap (λ b. cond b (x ∷ tagged s xs) (tagged s xs)) (sym t) ∙ h s ∙ ap (tagged s) f.is
          ∙ filter-append (λ y. tag y == s) f.before (x ∷ f.after)
          ∙ ap (λ b. tagged s f.before ++ cond b (x ∷ tagged s f.after) (tagged s f.after)) t
          ∙ sym (filter-append (λ y. tag y == s) f.before f.after)

-- the rows of one switch, with their switch
abbrev at_switch : ℕ → List Given → List Given
at_switch s given = filter (λ g. g.switch == s) given

abbrev from_switch : ℕ → ArgRow → Given
from_switch s row = record { switch = s; row = row }

abbrev under : ℕ → List ArgRow → List Given
under s rows = map (from_switch s) rows

is_under : (s : ℕ) (given : List Given) → at_switch s given ≡ under s (rows_from s given)
is_under s [] = refl
is_under s (g ∷ given) = at (is_under s given) (g.switch == s) refl
  where
    same : g.switch ≡ s → g ≡ from_switch s g.row
    same e = ap (λ k. from_switch k g.row) e

    at : at_switch s given ≡ under s (rows_from s given) → (t : Bool) → (g.switch == s) ≡ t →
        cond t (g ∷ at_switch s given) (at_switch s given) ≡ under s (all_rows (cond t (g ∷ at_switch s given) (at_switch s given)))
    at rest true e =
        let is : g.switch ≡ s = grind (arith, nat_tests) in
        ap (λ x. x ∷ at_switch s given) (same is) ∙ ap (λ xs. from_switch s g.row ∷ xs) rest
    at rest false e = rest

pub same_rows : (given other : List Given) → ((s : ℕ) → rows_from s given ≡ rows_from s other)
    → IsPermutation (all_rows given) (all_rows other)
same_rows given other h = IsPermutation-map (λ g. g.row) given other (same_at_each (λ g. g.switch) given other
    (λ s. is_under s given ∙ ap (under s) (h s) ∙ sym (is_under s other)))

pub any_interleaving : (f : TypedFold) (state : List ℕ) (given other : List Given) → IsAdditiveFrom f state
    → ((s : ℕ) → rows_from s given ≡ rows_from s other) → folded f state (all_rows given) ≡ folded f state (all_rows other)
any_interleaving f state given other h e = any_order f state (all_rows given) (all_rows other) h (same_rows given other e)

-- the rows of the pieces, each with its switch
abbrev spread : List Piece → List Given
spread pieces = flat_map (λ p. under p.switch p.rows) pieces

rows_under : (s : ℕ) (rows : List ArgRow) → all_rows (under s rows) ≡ rows
rows_under s [] = refl
rows_under s (row ∷ rows) = ap (λ rs. row ∷ rs) (rows_under s rows)

rows_spread : (pieces : List Piece) → all_rows (spread pieces) ≡ rows_joined (lists_merged pieces)
rows_spread [] = refl
rows_spread (p ∷ pieces) = map-append (λ g. g.row) (under p.switch p.rows) (spread pieces)
    ∙ ap (λ rs. rs ++ all_rows (spread pieces)) (rows_under p.switch p.rows) ∙ ap (λ rs. p.rows ++ rs) (rows_spread pieces)

none_of : (s k : ℕ) (rows : List ArgRow) → (k == s) ≡ false → rows_from s (under k rows) ≡ []
none_of s k [] e = refl
none_of s k (row ∷ rows) e =
    ap (λ b. all_rows (cond b (from_switch k row ∷ at_switch s (under k rows)) (at_switch s (under k rows)))) e ∙ none_of s k rows e

all_of : (s k : ℕ) (rows : List ArgRow) → (k == s) ≡ true → rows_from s (under k rows) ≡ rows
all_of s k [] e = refl
all_of s k (row ∷ rows) e = ap (λ b. all_rows (cond b (from_switch k row ∷ at_switch s (under k rows)) (at_switch s (under k rows)))) e
    ∙ ap (λ rs. row ∷ rs) (all_of s k rows e)

spread_at : (s : ℕ) (pieces : List Piece) → rows_from s (spread pieces) ≡ rows_joined (lists_from s pieces)
spread_at s [] = refl
spread_at s (p ∷ pieces) = ap all_rows (filter-append (λ g. g.switch == s) (under p.switch p.rows) (spread pieces))
    ∙ map-append (λ g. g.row) (at_switch s (under p.switch p.rows)) (at_switch s (spread pieces))
    ∙ at (spread_at s pieces) (p.switch == s) refl
  where
    at : rows_from s (spread pieces) ≡ rows_joined (lists_from s pieces) → (t : Bool) → (p.switch == s) ≡ t
        → rows_from s (under p.switch p.rows)
        ++ rows_from s (spread pieces) ≡ rows_joined (lists_merged (cond t (p ∷ filter (λ q. q.switch == s) pieces)
        (filter (λ q. q.switch == s) pieces)))
    at rest true e = ap (λ rs. rs ++ rows_from s (spread pieces)) (all_of s p.switch p.rows e) ∙ ap (λ rs. p.rows ++ rs) rest
    at rest false e = ap (λ rs. rs ++ rows_from s (spread pieces)) (none_of s p.switch p.rows e) ∙ rest

-- the rows of the pieces are those of the trace in another order
pub interleaved_rows : (given : List Given) (pieces : List Piece) → Interleaves given pieces
    → IsPermutation (rows_joined (lists_merged pieces)) (all_rows given)
interleaved_rows given pieces e = subst (λ rs. IsPermutation rs (all_rows given)) (rows_spread pieces)
    (same_rows (spread pieces) given (λ s. spread_at s pieces ∙ sym (e s)))

-- a sum over the rows of pieces is one over the pieces
total_joined : (f : TypedFold) (v : ℕ) (pieces : List Piece) → total f v (rows_joined (lists_merged pieces)) ≡ sum_by
    (λ p. total f v p.rows) pieces
total_joined f v [] = refl
total_joined f v (p ∷ pieces) = sum_by-append (λ row. slice_index (amount f row) v) p.rows (rows_joined (lists_merged pieces))
    ∙ ap (λ n. total f v p.rows + n) (total_joined f v pieces) ∙ sym (sum_by-cons (λ q. total f v q.rows) p pieces)

pub merged_any_order : (f : TypedFold) (state : List ℕ) (given : List Given) (pieces merged : List Piece) → IsAdditiveFrom f state
    → Interleaves given pieces → IsPermutation pieces merged →
    folded f state (rows_joined (lists_merged merged)) ≡ folded f state (all_rows given)
merged_any_order f state given pieces merged h e p = same_totals (rows_joined (lists_merged merged)) (rows_joined (lists_merged pieces)) h
    (λ v. total_joined f v merged ∙ sum_by-IsPermutation (λ q. total f v q.rows) pieces merged p ∙ sym (total_joined f v pieces))
    ∙ any_order f state (rows_joined (lists_merged pieces)) (all_rows given) h (interleaved_rows given pieces e)
