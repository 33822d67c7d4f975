-- Folds with the same number of variables and the same statements have the same class and depth, and a line gives one class and one depth.
use Rattle.std.proofs.Common.{◌≡◌, ℕ, zero, suc, not, ◌||◌, List, [], ◌∷◌, Some, refl, sym, ap, ◌∙◌, arith}
use Rattle.std.specs.Prelude.{nat_lt, if◌then◌else◌, codes}
use mathlib.Core.Path.{fun_ext}
use Rattle.query_lang.specs.{declared.{fold.TypedFold.TypedFold, typed.Class.{Class, TheVariants.Linear}}, Folds.{fold_states, fold_block}}
use Rattle.fold_class.specs.declared.class.{Algebra.{Algebra, TheVariants.{Sums, Maxima}}, Kind.{Kind, TheVariants.{Pure, Affine}}}
use Rattle.fold_class.specs.{Tables.all_below, Depth.{reads_after, reads_first, fold_reads, is_within, is_history, IsDepth}}
use Rattle.fold_class.specs.Kinds.{role, kinds_after, kinds_first, fold_kinds, is_no_other, is_linear_by, algebra_of, class_of}
use Rattle.fold_class.proofs.DepthLemmas.{all_same}
use Rattle.stage_plan.specs.Shape.{class_word}
use Rattle.plan_file.specs.{Lexis.number, FoldLines.IsFoldWords}

module _ (f g : TypedFold) (e : fold_states f ≡ fold_states g) (h : fold_block f ≡ fold_block g) where
  reads_same : fold_reads f ≡ fold_reads g
  reads_same = ap (λ b. reads_after b (reads_first (fold_states f))) h ∙ ap (λ n. reads_after (fold_block g) (reads_first n)) e

  within_same : (d v : ℕ) → is_within f d v ≡ is_within g d v
  within_same zero v = refl
  within_same (suc d) v = ap (λ n. all_below n (λ u. not (fold_reads f v u) || is_within f d u)) e
      ∙ all_same (fold_states g) (λ u. not (fold_reads f v u) || is_within f d u) (λ u. not (fold_reads g v u) || is_within g d u)
      (λ u lt. ap (λ r. not (r v u) || is_within f d u) reads_same ∙ ap (λ z. not (fold_reads g v u) || z) (within_same d u))

  history_same : (v : ℕ) → is_history f v ≡ is_history g v
  history_same v = ap (λ n. is_within f n v) e ∙ within_same (fold_states g) v

  first_same : kinds_first f ≡ kinds_first g
  first_same = fun_ext (λ s. ap (λ n. if nat_lt s n then (if is_history f s then Pure else Affine) else Pure) e
      ∙ ap (λ z. if nat_lt s (fold_states g) then (if z then Pure else Affine) else Pure) (history_same s))

  kinds_same : (algebra : Algebra) → fold_kinds algebra f ≡ fold_kinds algebra g
  kinds_same algebra = ap (λ b. kinds_after (role algebra) b (kinds_first f)) h ∙ ap (kinds_after (role algebra) (fold_block g)) first_same

  linear_same : (algebra : Algebra) → is_linear_by algebra f ≡ is_linear_by algebra g
  linear_same algebra = ap (λ (k : ℕ → Kind). all_below (fold_states f) (λ v. is_no_other (k v))) (kinds_same algebra)
      ∙ ap (λ n. all_below n (λ v. is_no_other (fold_kinds algebra g v))) e

  pub class_same : class_of f ≡ class_of g
  class_same = ap (λ z. if z || is_linear_by Maxima f then Linear else Class.Other) (linear_same Sums)
      ∙ ap (λ z. if is_linear_by Sums g || z then Linear else Class.Other) (linear_same Maxima)

  pub algebra_same : algebra_of f ≡ algebra_of g
  algebra_same = ap (λ z. if z then Sums else (if is_linear_by Maxima f then Maxima else Sums)) (linear_same Sums)
      ∙ ap (λ z. if is_linear_by Sums g then Sums else (if z then Maxima else Sums)) (linear_same Maxima)

  pub depth_same : (d : ℕ) → IsDepth f d → IsDepth g d
  depth_same d p = record {
    enough = λ v lt old. sym (within_same d v) ∙ p.enough v (omega (arith, lt, e)) (old.0, within_same old.0 v ∙ old.1);
    least = λ x all. p.least x (λ v lt old. within_same x v ∙ all v (omega (arith, lt, e)) (old.0, sym (within_same old.0 v) ∙ old.1));
  }

pub depth_once : (f : TypedFold) (d c : ℕ) → IsDepth f d → IsDepth f c → d ≡ c
depth_once f d c p q = omega (arith, p.least c q.enough, q.least d p.enough)

class_once : (a b : Class) → class_word a ≡ class_word b → a ≡ b
class_once Linear Linear e = refl
class_once Linear Class.Other e = cc
class_once Class.Other Linear e = cc
class_once Class.Other Class.Other e = refl

value_same : (x y : ℕ) → Some x ≡ Some y → x ≡ y
value_same x y e = cc

second_same : (w a b : List ℕ) (xs ys : List (List ℕ)) → w ∷ a ∷ xs ≡ w ∷ b ∷ ys → (a ≡ b) × (xs ≡ ys)
second_same w a b xs ys e = (cc, cc)

-- a line `fold` gives one class and one of each number
pub words_once : (line : List ℕ) (k l : Class) (d c n m s t : ℕ) → IsFoldWords line k d n s → IsFoldWords line l c m t → (k ≡ l) × (d ≡ c)
    × (n ≡ m) × (s ≡ t)
words_once line k l d c n m s t p q =
    let both = second_same (codes "fold") (class_word k) (class_word l) (p.depth_token ∷ p.nodes_token ∷ p.statements_token ∷ [])
    (q.depth_token ∷ q.nodes_token ∷ q.statements_token ∷ []) (sym p.words ∙ q.words) in
    let tokens = both.1 in
    let depth : p.depth_token ≡ q.depth_token = cc in
    let nodes : p.nodes_token ≡ q.nodes_token = cc in
    let statements : p.statements_token ≡ q.statements_token = cc in (
      class_once k l both.0,
      value_same d c (sym p.depth_is ∙ ap number depth ∙ q.depth_is),
      value_same n m (sym p.nodes_are ∙ ap number nodes ∙ q.nodes_are),
      value_same s t (sym p.statements_are ∙ ap number statements ∙ q.statements_are),
    )
