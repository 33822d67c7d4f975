-- A column of a run over rows is the run over that column.
use Rattle.std.proofs.Common.{◌≡◌, ℕ, zero, suc, Bool, true, false, ◌==◌, if◌then◌else◌, List, [], ◌∷◌, ◌++◌, map, get_or, set, slice_index}
use Rattle.std.proofs.{Common.{refl, ap, ◌∙◌}, lemmas.List.{map-append, map-set}}
use Rattle.query_lang.specs.{Terms.{Term, Literal, Read, Negation, Operation}, declared.fold.TypedFold.TypedFold, Words.op_value}
use Rattle.query_lang.specs.{Blocks.{Block, End, Set, Fork}, Folds.{fold_states, fold_block}}
use Rattle.fold_code.specs.{Machine.{Domain, at}, Tree.{term_in, after_in}}
use Rattle.coeff_algebra.specs.Elements.{Elements}
use Rattle.fold_class.specs.{declared.class.Algebra.Algebra, Kinds.{Role, Sum, Difference, Product, Outside, role}, Depth.is_history}
use Rattle.fold_class.specs.Parts.{Part, Fixed, Share, Lost, parts, part_operation, share_operation, part_negation, part_test, part_mask}
use Rattle.fold_class.specs.Parts.{part_choice, row_shares, column_shares}
use Rattle.fold_class.specs.Step.{list_of, rank, dimension, first_row, step_rows, first_column, step_column}

abbrev pub column_of : {C : Type 0} → ℕ → Part (ℕ → C) → Part C
column_of c (Fixed w) = Fixed w
column_of c (Share e) = Share (e c)
column_of c Lost = Lost

pub get_or-map : {A B : Type 0} (h : A → B) (xs : List A) (i : ℕ) (d : A) → h (get_or xs i d) ≡ get_or (map h xs) i (h d)
get_or-map h [] i d = refl
get_or-map h (x ∷ xs) zero d = refl
get_or-map h (x ∷ xs) (suc i) d = get_or-map _ xs i _

module _ {C : Type 0} (k : Elements C) (n : ℕ) (algebra : Algebra) (c : ℕ) where
  abbrev rows : Domain (Part (ℕ → C))
  rows = parts (row_shares k n) algebra

  abbrev column : Domain (Part C)
  column = parts (column_shares k n c) algebra

  abbrev col : Part (ℕ → C) → Part C
  col = column_of c

  shares_column : (r : Role) (d e : ℕ → C) (product : Part (ℕ → C))
      → col (share_operation (row_shares k n).sum (row_shares k n).scale r d e product)
      ≡ share_operation (column_shares k n c).sum (column_shares k n c).scale r (d c) (e c) (col product)
  shares_column Sum d e product = refl
  shares_column Difference d e product = refl
  shares_column Product d e product = refl
  shares_column Outside d e product = refl

  operation_column : (r : Role) (f : ℕ → ℕ → ℕ) (p q : Part (ℕ → C)) → col (part_operation (row_shares k n) r f p q) ≡ part_operation
      (column_shares k n c) r f (col p) (col q)
  operation_column r f (Fixed u) (Fixed t) = refl
  operation_column r f (Fixed u) (Share e) = shares_column r _ _ _
  operation_column r f (Share d) (Fixed t) = shares_column r _ _ _
  operation_column r f (Share d) (Share e) = shares_column r _ _ _
  operation_column r f (Fixed u) Lost = refl
  operation_column r f (Share d) Lost = refl
  operation_column r f Lost q = refl

  negation_column : (p : Part (ℕ → C)) → col (part_negation p) ≡ part_negation (col p)
  negation_column (Fixed w) = refl
  negation_column (Share e) = refl
  negation_column Lost = refl

  test_column : (b : Bool) (p : Part (ℕ → C)) → col (part_test b p) ≡ part_test b (col p)
  test_column b (Fixed w) = refl
  test_column b (Share e) = refl
  test_column b Lost = refl

  mask_column : (b : Bool) (m p : Part (ℕ → C)) → col (part_mask b m p) ≡ part_mask b (col m) (col p)
  mask_column b (Fixed w) p = either _
    where
      either : (t : Bool) → col (if t then part_test b p else Fixed 0) ≡ (if t then part_test b (col p) else Fixed 0)
      either true = test_column _ _
      either false = refl
  mask_column b (Share e) p = refl
  mask_column b Lost p = refl

  choice_column : (m p q : Part (ℕ → C)) → col (part_choice m p q) ≡ part_choice (col m) (col p) (col q)
  choice_column (Fixed w) p q = either _
    where
      either : (t : Bool) → col (if t then p else q) ≡ (if t then col p else col q)
      either true = refl
      either false = refl
  choice_column (Share e) p q = refl
  choice_column Lost p q = refl

  expr_column : (e : Term) (ps : List (Part (ℕ → C))) → col (term_in rows e ps) ≡ term_in column e (map col ps)
  expr_column (Literal m) ps = refl
  expr_column (Read s) ps = get_or-map col ps s (Fixed 0)
  expr_column (Negation e) ps = cc (negation_column (term_in rows e ps), expr_column e ps)
  expr_column (Operation op a b) ps =
      cc (operation_column (role algebra op) (op_value op) (term_in rows a ps) (term_in rows b ps), expr_column a ps, expr_column b ps)

  pub after_column : (b : Block) (m : Part (ℕ → C)) (args vars : List (Part (ℕ → C)))
      → map col (after_in rows m b args vars) ≡ after_in column (col m) b (map col args) (map col vars)
  after_column End m args vars = refl
  after_column (Set v e rest) m args vars =
      let p = part_choice m (term_in rows e (vars ++ args)) (at rows vars v) in
      after_column rest m args (set vars v p) ∙ ap (after_in column (col m) rest (map col args)) (map-set col vars v p
      ∙ ap (set (map col vars) v) (choice_column m (term_in rows e (vars ++ args)) (at rows vars v)
      ∙ ap (λ z. part_choice (col m) z (col (at rows vars v))) (expr_column e (vars ++ args)
      ∙ ap (term_in column e) (map-append col vars args))
      ∙ ap (part_choice (col m) (term_in column e (map col vars ++ map col args))) (get_or-map col vars v (Fixed 0))))
  after_column (Fork x a b rest) m args vars =
      let q = term_in rows x (vars ++ args) in
      let q' = term_in column x (map col vars ++ map col args) in
      let same : col q ≡ q' = expr_column x (vars ++ args) ∙ ap (term_in column x) (map-append col vars args) in
      let va = after_in rows (part_mask true m q) a args vars in
      let vb = after_in rows (part_mask false m q) b args va in
      let va' = after_in column (part_mask true (col m) q') a (map col args) (map col vars) in
      let ea : map col va ≡ va' = after_column a (part_mask true m q) args vars
      ∙ ap (λ z. after_in column z a (map col args) (map col vars)) (mask_column true m q ∙ ap (part_mask true (col m)) same) in
      let eb : map col vb ≡ after_in column (part_mask false (col m) q') b (map col args) va' = after_column b (part_mask false m q) args va
      ∙ ap (λ z. after_in column z b (map col args) (map col va)) (mask_column false m q ∙ ap (part_mask false (col m)) same)
      ∙ ap (after_in column (part_mask false (col m) q') b (map col args)) ea in
      after_column rest m args vb ∙ ap (after_in column (col m) rest (map col args)) eb

map_list_of : {A B : Type 0} (h : A → B) (n : ℕ) (f : ℕ → A) (g : ℕ → B) → ((i : ℕ) → h (f i) ≡ g i) → map h (list_of n f) ≡ list_of n g
map_list_of h zero f g e = refl
map_list_of h (suc n) f g e = cc (map-append h (list_of n f) (f n ∷ []), map_list_of h n f g e, e n)

map_fixed : {C : Type 0} (c : ℕ) (args : List ℕ) → map (column_of {C = C} c) (map (λ w. Fixed w) args) ≡ map (λ w. Fixed w) args
map_fixed c [] = refl
map_fixed c (w ∷ args) = ap (λ z. Fixed w ∷ z) (map_fixed _ args)

pub step_column_is : {C : Type 0} (k : Elements C) (algebra : Algebra) (f : TypedFold) (c : ℕ) (state args : List ℕ)
    → step_column k algebra f c state args ≡ map (column_of c) (step_rows k algebra f state args)
step_column_is k algebra f c state args = cc (
  after_column k (dimension f) algebra c (fold_block f) (Fixed 1) (map (λ w. Fixed w) args)
      (list_of (fold_states f) (first_row k algebra f state)),
  map_fixed c args,
  map_list_of (column_of c) (fold_states f)
      (first_row k algebra f state) (first_column k algebra f c state)
      (λ v. first v (is_history f v)),
)
  where
    first : (v : ℕ) (b : Bool) → column_of c (if b then Fixed (slice_index state v) else Share
        (λ j. if j == rank f v then k.one else k.zero)) ≡ (if b then Fixed (slice_index state v) else Share
        (if c == rank f v then k.one else k.zero))
    first v true = refl
    first v false = refl
