-- Parts stored in words, with one more variable, and entries of a map, with one more row.
use Rattle.std.proofs.Common.{◌≡◌, ◌≢◌, ℕ, ◌+◌, ◌*◌, ◌<◌, ◌≤◌, Bool, true, false, nat_lt, List, [], ◌∷◌, ◌++◌, map, length, get_or, drop}
use Rattle.std.proofs.{Common.{slice_index, All, refl, sym, ap, ◌∙◌, subst, arith, append_assoc}, lemmas.Bool.Decides.nat_tests}
use Rattle.std.proofs.lemmas.List.{drop_more}
use Rattle.coeff_algebra.{proofs.PlaceLemmas.one_less, specs.{Elements.Elements, Maps.stored_entry}}
use Rattle.fold_code.specs.{declared.instr.Instr.Instr, Machine.{at, run_code}}
use Rattle.fold_class.specs.{Parts.{Part, Fixed, parts, column_shares}, Step.{list_of, share_of}}
use Rattle.fold_class.specs.Rows.{Origin, Rows, rows_dimension, first_part, column_after, entry_of, fixed_word}
use Rattle.fold_class.proofs.{StepLemmas.list_of_at, StoredLemmas.list_more}

-- one more variable has its part
pub start_more : {A B : Type 0} (g : A → B) (xs : List A) (v : ℕ) (d : A) (P P' : ℕ → B) (x : B) (all : List B) → v < length xs
    → x ≡ g (get_or xs v d) → ((i : ℕ) → i ≢ v → P' i ≡ P i) → P' v ≡ x →
    list_of v P ++ map g (drop v xs) ≡ all → list_of (v + 1) P' ++ map g (drop (v + 1) xs) ≡ all
start_more g xs v d P P' x all h e others here so =
    ap (λ z. z ++ map g (drop (v + 1) xs)) (list_more v P P' x (λ i lt. others i (omega arith)) here)
    ∙ append_assoc (list_of v P) (x ∷ []) (map g (drop (v + 1) xs)) ∙ ap (λ z. list_of v P ++ z ∷ map g (drop (v + 1) xs)) e
    ∙ ap (λ z. list_of v P ++ map g z) (sym (drop_more xs v d h)) ∙ so

-- two places of a table are the same only if their columns are
pub same_column : (n i c j d : ℕ) → c ≤ n → d ≤ n → i * (n + 1) + c ≡ j * (n + 1) + d → c ≡ d
same_column n i c j d hc hd e = place (nat_lt i j) (nat_lt j i) refl refl
  where
    place : (a b : Bool) → nat_lt i j ≡ a → nat_lt j i ≡ b → c ≡ d
    place true b ea eb = let lt : i < j = grind (arith, nat_tests) in absurd (omega (arith, one_less i j (n + 1) lt))
    place false true ea eb = let lt : j < i = grind (arith, nat_tests) in absurd (omega (arith, one_less j i (n + 1) lt))
    place false false ea eb = let same : i ≡ j = grind (arith, nat_tests) in omega (arith, ap (λ k. k * (n + 1)) same)

-- two places of one column are the same only if their rows are
pub same_row : (n i j c : ℕ) → i * (n + 1) + c ≡ j * (n + 1) + c → i ≡ j
same_row n i j c e = place (nat_lt i j) (nat_lt j i) refl refl
  where
    place : (a b : Bool) → nat_lt i j ≡ a → nat_lt j i ≡ b → i ≡ j
    place true b ea eb = let lt : i < j = grind (arith, nat_tests) in absurd (omega (arith, one_less i j (n + 1) lt))
    place false true ea eb = let lt : j < i = grind (arith, nat_tests) in absurd (omega (arith, one_less j i (n + 1) lt))
    place false false ea eb = grind (arith, nat_tests)

-- each item of a list that passes
all_at : (P : ℕ → Type 0) (xs : List ℕ) (i : ℕ) → All P xs → i < length xs → P (slice_index xs i)
all_at P xs i a h = a i 0 h

module _ {C : Type 0} (k : Elements C) (rows : Rows) (history args : List ℕ) (column n : ℕ) (P : ℕ → Part C)
    (vars : list_of n P ≡ column_after k rows column history args) where
  -- the part of a variable at the end of a column, as it is stored in words
  part_there : (v : ℕ) → v < n → P v ≡ at (parts (column_shares k (rows_dimension rows) column) rows.algebra)
      (column_after k rows column history args) v
  part_there v lt = sym (list_of_at n P v (Fixed 0) lt) ∙ ap (λ z. get_or z v (Fixed 0)) vars

  -- the elements of a column, from the parts
  pub entries_from : (words : C → List ℕ) (size : ℕ) (ws linear : List ℕ) → linear ≡ rows.linear → All (λ v. v < n) rows.linear →
      ((i : ℕ) → i < length linear → stored_entry size (length linear) ws i column ≡ words
      (share_of (column_shares k (length linear) column) (P (slice_index linear i)))) →
      (i : ℕ) → i < rows_dimension rows → stored_entry size (rows_dimension rows) ws i column ≡ words
      (entry_of k rows history args i column)
  entries_from words size ws linear e places written i h =
      let Q : List ℕ → Type 0 = λ l. (i : ℕ) → i < length l → stored_entry size (length l) ws i column ≡ words
      (share_of (column_shares k (length l) column) (P (slice_index l i))) in
      subst Q e written i h ∙ ap (λ p. words (share_of (column_shares k (rows_dimension rows) column) p))
      (part_there (slice_index rows.linear i) (all_at (λ v. v < n) rows.linear i places h))

  -- the words of the history, from the parts of the last column
  pub kept_from : (ws places : List ℕ) → places ≡ rows.history → All (λ v. v < n) rows.history
      → ((i : ℕ) → i < length places → slice_index ws i ≡ fixed_word (P (slice_index places i))) →
      (i : ℕ) → i < length rows.history → slice_index ws i ≡ fixed_word
      (at (parts (column_shares k (rows_dimension rows) column) rows.algebra) (column_after k rows column history args)
      (slice_index rows.history i))
  kept_from ws places e inside written i h =
      let Q : List ℕ → Type 0 = λ l. (i : ℕ) → i < length l → slice_index ws i ≡ fixed_word (P (slice_index l i)) in
      subst Q e written i h ∙ ap fixed_word (part_there (slice_index rows.history i) (all_at (λ v. v < n) rows.history i inside h))

-- the elements of all columns but the last, and then those of the last
pub last_column : {C : Type 0} (k : Elements C) (words : C → List ℕ) (size : ℕ) (rows : Rows) (history args before after : List ℕ) (n : ℕ)
    → n ≡ rows_dimension rows →
    ((i c : ℕ) → i < rows_dimension rows → c < rows_dimension rows → stored_entry size (rows_dimension rows) before i c ≡ words
    (entry_of k rows history args i c)) → ((i c : ℕ) → i < rows_dimension rows → c ≤ rows_dimension rows → c ≢ n
    → stored_entry size (rows_dimension rows) after i c ≡ stored_entry size (rows_dimension rows) before i c) →
    ((i : ℕ) → i < rows_dimension rows → stored_entry size (rows_dimension rows) after i n ≡ words (entry_of k rows history args i n)) →
    (i c : ℕ) → i < rows_dimension rows → c ≤ rows_dimension rows → stored_entry size (rows_dimension rows) after i c ≡ words
    (entry_of k rows history args i c)
last_column k words size rows history args before after n e old kept own i c hi hc = place (nat_lt c (rows_dimension rows)) refl
  where
    place : (b : Bool) → nat_lt c (rows_dimension rows) ≡ b → stored_entry size (rows_dimension rows) after i c ≡ words
        (entry_of k rows history args i c)
    place true t =
        let lt : c < rows_dimension rows = grind (arith, nat_tests) in
        let off : c ≢ n = omega arith in
        kept i c hi hc off ∙ old i c hi lt
    place false t =
        let same : n ≡ c = grind (arith, nat_tests) in
        subst (λ j. stored_entry size (rows_dimension rows) after i j ≡ words (entry_of k rows history args i j)) same (own i hi)

-- the parts at the end of a column, by what its start and the run of the code leave
pub column_ran : {C : Type 0} (k : Elements C) (raw rows : Rows) (column states dimension : ℕ) (history args : List ℕ)
    (origins : List Origin) (instrs : List Instr) (start end : ℕ → Part C) → raw ≡ rows → states ≡ length raw.origins
    → origins ≡ raw.origins → instrs ≡ raw.code.instrs → dimension ≡ length raw.linear
    → list_of (length origins) start ≡ map (first_part k column history) origins
    → list_of states end ≡ run_code (parts (column_shares k dimension column) raw.algebra) instrs (map (λ w. Fixed w) args)
    (list_of states start) [] → list_of (length rows.origins) end ≡ column_after k rows column history args
column_ran k raw rows column states dimension history args origins instrs start end e es eo ei ed started ran =
    let fixed = map (λ w. Fixed w) args in
    let vars : list_of states start ≡ map (first_part k column history) raw.origins =
    ap (λ n. list_of n start) (es ∙ sym (ap (λ l. length l) eo)) ∙ started ∙ ap (map (first_part k column history)) eo in
    subst (λ (r : Rows). list_of (length r.origins) end ≡ column_after k r column history args) e
    (ap (λ n. list_of n end) (sym es) ∙ ran
    ∙ ap (λ d. run_code (parts (column_shares k d column) raw.algebra) instrs fixed (list_of states start) []) ed
    ∙ ap (λ is. run_code (parts (column_shares k (rows_dimension raw) column) raw.algebra) is fixed (list_of states start) []) ei
    ∙ ap (λ vs. run_code (parts (column_shares k (rows_dimension raw) column) raw.algebra) raw.code.instrs fixed vs []) vars)
