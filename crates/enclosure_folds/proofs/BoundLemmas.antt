-- The bounds of a key enclose the fold over all of its rows.
use Rattle.std.proofs.Common.{◌≡◌, ℕ, suc, ◌<◌, true, List, [], ◌∷◌, ◌++◌, All, length, map, refl, sym, ap, ◌∙◌, subst, arith}
use Rattle.std.proofs.{Common.{length-append, if◌then◌else◌}, Math.Nat.le_refl}
use Rattle.std.proofs.lemmas.List.{get_or_append_left, append-nil, append_assoc, length-map, length-replicate}
use Rattle.std.specs.{Prelude.{fold, filter}, Cmp.Lexicographic.same_text}
use mathlib.Core.Path.{fun_ext}
use Rattle.query_lang.specs.{declared.fold.TypedFold.TypedFold, Words.AreWords, Folds.{folded, fold_states, initial_state, IsValidFold}}
use Rattle.epoch_model.specs.{Keys.{Key, ArgRow}, Epochs.{Use, Geometry, is_use_of, epochs}}
use Rattle.epoch_model.{specs.Tables.{Folding, epoch_rows, exact_row, key_rows}, proofs.Cuts.epochs_cut_the_rows_lem}
use Rattle.epoch_entry.{specs.Kinds.Sizes, proofs.FoldLemmas.length-folded}
use Rattle.enclosure_folds.specs.{Kinds.is_monotone, States.IsAtMost}
use Rattle.enclosure_folds.proofs.Enclosure as Enclosure
use Rattle.epoch_entry.specs.Triples.{first_third, second_third, last_third}
use Rattle.epoch_entry.specs.Bounds.{least_state, greatest_state, bounds_after, IsBoundsKindOf}
use Rattle.epoch_entry.proofs.TripleLemmas.{first_is, second_is, last_is}
use Rattle.enclosure_folds.specs.Bounds.{last_or, low_bound, high_bound, is_exact, Encloses, row_words, RowsEnclose, all_rows}

pub exact_equal : (low high : List ℕ) → is_exact low high ≡ true → low ≡ high
exact_equal low high e = same_text low high (sym e)

pub equal_exact : (low : List ℕ) → is_exact low low ≡ true
equal_exact [] = refl
equal_exact (x ∷ xs) = grind (arith, equal_exact xs)

at_most_same : (xs : List ℕ) → IsAtMost xs xs
at_most_same [] = tt
at_most_same (x ∷ xs) = (le_refl x, at_most_same xs)

all_front : (xs ys : List ArgRow) → All AreWords (xs ++ ys) → All AreWords xs
all_front xs ys h k d lt = rw (get_or_append_left xs ys d k lt) at (h k d (omega (arith, lt, length-append xs ys)))

-- the last of some lists, and all rows before it
split_last : (x : List ArgRow) (xs : List (List ArgRow)) → (earlier : List ArgRow) × (all_rows (x ∷ xs) ≡ earlier ++ last_or x xs)
split_last x [] = ([], append-nil x)
split_last x (y ∷ ys) = let r = split_last y ys in (x ++ r.0, ap (λ z. x ++ z) r.1 ∙ sym (append_assoc x r.0 (last_or y ys)))

pub last_map : (g : List ArgRow → List ℕ) (x : List ArgRow) (xs : List (List ArgRow)) → last_or (g x) (map g xs) ≡ g (last_or x xs)
last_map g x [] = refl
last_map g x (y ∷ ys) = last_map g y ys

module _ (f : TypedFold) (valid : IsValidFold f) (mono : is_monotone f ≡ true) (words : AreWords (initial_state f)) where
  abbrev n : ℕ
  n = fold_states f

  -- the three states after some rows are as long as a state
  long_first : (rows : List ArgRow) → length (folded f (initial_state f) rows) ≡ n
  long_first rows = length-folded f _ rows ∙ valid.starts

  long_least : (rows : List ArgRow) → length (folded f (least_state f) rows) ≡ n
  long_least rows = length-folded f _ rows ∙ length-replicate {A = ℕ} n 0

  -- one epoch
  alone : (rows : List ArgRow) → Encloses (first_third n (bounds_after f rows)) (first_third n (bounds_after f rows))
      (folded f (initial_state f) (rows ++ []))
  alone rows =
      let state = folded f (initial_state f) rows in
      let here : first_third n (bounds_after f rows) ≡ state = first_is n state (folded f (least_state f) rows)
      (folded f (greatest_state f) rows) (long_first rows) in
      let all : folded f (initial_state f) (rows ++ []) ≡ state = ap (folded f (initial_state f)) (append-nil rows) in
      let same : Encloses state state state = record {
        above = at_most_same state;
        below = at_most_same state;
        exact =
            λ e. (refl, refl);
      } in
      subst (λ z. Encloses z z (folded f (initial_state f) (rows ++ []))) (sym here) (subst (Encloses state state) (sym all) same)

  -- the last of several
  by_last : (earlier last : List ArgRow) → All AreWords earlier → Encloses (folded f (least_state f) last)
      (folded f (greatest_state f) last) (folded f (initial_state f) (earlier ++ last))
  by_last earlier last rows = record {
    above = Enclosure.least_below f earlier last valid mono;
    below = Enclosure.greatest_above f earlier last valid mono words rows;
    exact = λ e.
        let same = exact_equal _ _ e in
        let all = Enclosure.exact f earlier last valid mono words rows same in
        (sym all, sym same ∙ sym all);
  }

  several : (last : List ArgRow) (triple : List ℕ) (all earlier : List ArgRow) → triple ≡ bounds_after f last → all ≡ earlier ++ last
      → All AreWords all →
      Encloses (second_third n triple) (last_third n triple) (folded f (initial_state f) all)
  several last triple all earlier et ea rows =
      let a = folded f (initial_state f) last in
      let b = folded f (least_state f) last in
      let c = folded f (greatest_state f) last in
      let low : second_third n triple ≡ b = ap (second_third n) et ∙ second_is n a b c (long_first last) (long_least last) in
      let high : last_third n triple ≡ c = ap (last_third n) et ∙ last_is n a b c (long_first last) (long_least last) in
      let base = by_last earlier last (all_front earlier last (subst (All AreWords) ea rows)) in
      subst (λ z. Encloses z (last_third n triple) (folded f (initial_state f) all)) (sym low)
      (subst (λ z. Encloses b z (folded f (initial_state f) all)) (sym high)
      (subst (λ z. Encloses b c (folded f (initial_state f) z)) (sym ea) base))

  pub enclosed : (lists : List (List ArgRow)) → All AreWords (all_rows lists) → 0 < length lists →
      Encloses (low_bound n (map (bounds_after f) lists)) (high_bound n (map (bounds_after f) lists))
      (folded f (initial_state f) (all_rows lists))
  enclosed [] rows some = absurd (omega (arith, some))
  enclosed (x ∷ []) rows some = alone x
  enclosed (x ∷ y ∷ ys) rows some =
      let cut = split_last x (y ∷ ys) in
      several (last_or y ys) (last_or (bounds_after f y) (map (bounds_after f) ys)) (all_rows (x ∷ y ∷ ys)) cut.0
      (last_map (bounds_after f) y ys) cut.1 rows

-- some rows are in some pieces
pub some_pieces : (pieces : List (List ArgRow)) (rows : List ArgRow) → all_rows pieces ≡ rows → 0 < length rows → 0 < length pieces
some_pieces [] rows e some = absurd (omega (arith, ap length e, some))
some_pieces (x ∷ xs) rows e some = omega arith

-- the words of an epoch's row are what its rows are folded to
row_words_are : (folding : Folding) (key : Key) (count number : ℕ) (lists : List (List ArgRow))
    → row_words (epoch_rows folding key count number lists) ≡ map (λ rows. fold folding.step folding.initial rows) lists
row_words_are folding key count number [] = refl
row_words_are folding key count number (rows ∷ lists) = ap (λ z. fold folding.step folding.initial rows ∷ z)
    (row_words_are folding key count (suc number) lists)

module _ (f : TypedFold) (sizes : Sizes) (folding : Folding) (opening absorbing : ℕ) (valid : IsValidFold f)
    (h : IsBoundsKindOf f sizes folding opening absorbing) (mono : is_monotone f ≡ true) (words : AreWords (initial_state f)) where
  pub rows_enclosed : (key : Key) (count number : ℕ) (lists : List (List ArgRow)) → All AreWords (all_rows lists) → 0 < length lists →
      RowsEnclose (fold_states f) (epoch_rows folding key count number lists) (folded f (initial_state f) (all_rows lists))
  rows_enclosed key count number lists rows some =
      rw (row_words_are folding key count number lists ∙ ap (λ g. map g lists) (fun_ext h.folded))
      (enclosed f valid mono words lists rows some)

  pub table_enclosed : (g : Geometry) (uses : List Use) (key : Key) → All AreWords (map (λ u. u.row) (filter (is_use_of key) uses))
      → 0 < length (filter (is_use_of key) uses) →
      RowsEnclose (fold_states f) (key_rows folding g uses key) (folded f (initial_state f)
      (map (λ u. u.row) (filter (is_use_of key) uses)))
  table_enclosed g uses key rows some =
      let mine = filter (is_use_of key) uses in
      let given : List ArgRow = map (λ u. u.row) mine in
      let pieces = epochs g uses key in
      let cut : all_rows pieces ≡ given = (epochs_cut_the_rows_lem g uses key).0 in
      let used : 0 < length given = omega (arith, some, length-map {A = Use} {B = ArgRow} mine (λ u. u.row)) in
      let per_epoch : epoch_rows folding key (length pieces) 1 pieces ≡ key_rows folding g uses key =
      ap (λ b. if b then epoch_rows folding key (length pieces) 1 pieces else (exact_row folding key (length pieces) given ∷ []))
      (sym h.row_per_epoch) in
      subst (λ z. RowsEnclose (fold_states f) z (folded f (initial_state f) given)) per_epoch
      (subst (λ z. RowsEnclose (fold_states f) (epoch_rows folding key (length pieces) 1 pieces) (folded f (initial_state f) z)) cut
      (rows_enclosed key (length pieces) 1 pieces (subst (All AreWords) (sym cut) rows) (some_pieces pieces given cut used)))
