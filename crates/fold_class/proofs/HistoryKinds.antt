-- A history variable is Pure at the end of each walk.
use Rattle.std.proofs.Common.{◌≡◌, ℕ, zero, suc, ◌<◌, Bool, true, false, not, ◌&&◌, ◌||◌, ◌==◌, nat_lt, if◌then◌else◌, refl, ap, ◌∙◌, arith}
use Rattle.std.proofs.lemmas.Bool.Decides.{nat_tests}
use Rattle.query_lang.specs.{Terms.{Term, Literal, Read, Negation, Operation}, declared.fold.TypedFold.TypedFold}
use Rattle.query_lang.specs.{Blocks.{Block, End, Set, Fork}, Folds.{fold_states, fold_block}}
use Rattle.fold_class.specs.{declared.class.{Algebra.Algebra, Kind.{Kind, TheVariants.{Pure, Affine}}}, Tables.update}
use Rattle.fold_class.specs.{Depth.{assigns, expr_reads, reads_after, reads_first, fold_reads, is_within, is_history}, Kinds.{Role, Sum}}
use Rattle.fold_class.specs.Kinds.{Difference, Product, Outside, role, greater, outside_kind, role_kind, expr_kind, marked, chosen_kinds}
use Rattle.fold_class.specs.Kinds.{kinds_after, kinds_first, fold_kinds}
use Rattle.fold_class.proofs.TableLemmas.{or_false_left, or_false_right, or_true_left, or_true_right, implied, below_at}
use Rattle.fold_class.proofs.History.{within_next}

pub role_pure : (r : Role) → role_kind r Pure Pure ≡ Pure
role_pure Sum = refl
role_pure Difference = refl
role_pure Product = refl
role_pure Outside = refl

greater_self : (k : Kind) → greater k k ≡ k
greater_self Pure = refl
greater_self Affine = refl
greater_self Kind.Other = refl

updated : {A : Type 0} (f : ℕ → A) (v : ℕ) (x : A) (s : ℕ) → (s == v) ≡ false → update f v x s ≡ f s
updated f v x s e = ap (λ b. if b then x else f s) e

pub marked_kept : (b : Block) (kinds : ℕ → Kind) (s : ℕ) → assigns b s ≡ false → marked b kinds s ≡ kinds s
marked_kept End kinds s h = refl
marked_kept (Set v e rest) kinds s h = marked_kept rest (update kinds v Kind.Other) s (or_false_right (s == v) (assigns rest s) h)
    ∙ updated kinds v Kind.Other s (or_false_left (s == v) (assigns rest s) h)
marked_kept (Fork c a b rest) kinds s h =
    let first = or_false_left (assigns a s || assigns b s) (assigns rest s) h in
    marked_kept rest (marked b (marked a kinds)) s (or_false_right (assigns a s || assigns b s) (assigns rest s) h)
    ∙ marked_kept b (marked a kinds) s (or_false_right (assigns a s) (assigns b s) first)
    ∙ marked_kept a kinds s (or_false_left (assigns a s) (assigns b s) first)

pub chosen_kept : (kc : Kind) (ka kb km kinds : ℕ → Kind) (s : ℕ) → ka s ≡ kinds s → kb s ≡ kinds s → km s ≡ kinds s
    → chosen_kinds kc ka kb km s ≡ kinds s
chosen_kept Pure ka kb km kinds s ea eb em = ap (λ z. greater z (kb s)) ea ∙ ap (greater (kinds s)) eb ∙ greater_self (kinds s)
chosen_kept Affine ka kb km kinds s ea eb em = em
chosen_kept Kind.Other ka kb km kinds s ea eb em = em

module _ (algebra : Algebra) where
  pub kinds_kept : (b : Block) (kinds : ℕ → Kind) (s : ℕ) → assigns b s ≡ false → kinds_after (role algebra) b kinds s ≡ kinds s
  kinds_kept End kinds s h = refl
  kinds_kept (Set v e rest) kinds s h =
      kinds_kept rest (update kinds v (expr_kind (role algebra) e kinds)) s (or_false_right (s == v) (assigns rest s) h)
      ∙ updated kinds v (expr_kind (role algebra) e kinds) s (or_false_left (s == v) (assigns rest s) h)
  kinds_kept (Fork c a b rest) kinds s h =
      let first = or_false_left (assigns a s || assigns b s) (assigns rest s) h in
      let na = or_false_left (assigns a s) (assigns b s) first in
      let nb = or_false_right (assigns a s) (assigns b s) first in
      kinds_kept rest (chosen_kinds (expr_kind (role algebra) c kinds) (kinds_after (role algebra) a kinds)
      (kinds_after (role algebra) b kinds) (marked b (marked a kinds))) s (or_false_right (assigns a s || assigns b s) (assigns rest s) h)
      ∙ chosen_kept (expr_kind (role algebra) c kinds) (kinds_after (role algebra) a kinds) (kinds_after (role algebra) b kinds)
      (marked b (marked a kinds)) kinds s
      (kinds_kept a kinds s na) (kinds_kept b kinds s nb) (marked_kept b (marked a kinds) s nb ∙ marked_kept a kinds s na)

  module _ (n : ℕ) (known : ℕ → Bool) where
    -- what depends on known variables alone is Pure
    abbrev PureWhere : (ℕ → ℕ → Bool) → (ℕ → Kind) → Type 0
    PureWhere reads kinds = (s : ℕ) → ((u : ℕ) → u < n → reads s u ≡ true → known u ≡ true) → kinds s ≡ Pure

    expr_pure : (e : Term) (reads : ℕ → ℕ → Bool) (kinds : ℕ → Kind) → PureWhere reads kinds
        → ((u : ℕ) → u < n → expr_reads e reads u ≡ true → known u ≡ true) → expr_kind (role algebra) e kinds ≡ Pure
    expr_pure (Literal m) reads kinds h p = refl
    expr_pure (Read s) reads kinds h p = h s p
    expr_pure (Negation e) reads kinds h p = ap (outside_kind Pure) (expr_pure e reads kinds h p)
    expr_pure (Operation op a b) reads kinds h p = ap (λ z. role_kind (role algebra op) z (expr_kind (role algebra) b kinds))
        (expr_pure a reads kinds h (λ u lt t. p u lt (or_true_left (expr_reads a reads u) (expr_reads b reads u) t)))
        ∙ ap (role_kind (role algebra op) Pure) (expr_pure b reads kinds h
        (λ u lt t. p u lt (or_true_right (expr_reads a reads u) (expr_reads b reads u) t))) ∙ role_pure (role algebra op)

    block_pure : (b : Block) (reads : ℕ → ℕ → Bool) (kinds : ℕ → Kind) → PureWhere reads kinds
        → PureWhere (reads_after b reads) (kinds_after (role algebra) b kinds)
    block_pure End reads kinds h = h
    block_pure (Set v e rest) reads kinds h =
        block_pure rest (update reads v (expr_reads e reads)) (update kinds v (expr_kind (role algebra) e kinds))
        (λ s p. at_each s (s == v) p)
      where
        at_each : (s : ℕ) (b : Bool) → ((u : ℕ) → u < n → (if b then expr_reads e reads else reads s) u ≡ true → known u ≡ true)
            → (if b then expr_kind (role algebra) e kinds else kinds s) ≡ Pure
        at_each s true p = expr_pure e reads kinds h p
        at_each s false p = h s p
    block_pure (Fork c a b rest) reads kinds h =
        block_pure rest (λ v. if assigns a v || assigns b v then (λ u. (reads_after a reads v u || reads_after b reads v u) || expr_reads c
        reads u) else reads v)
        (chosen_kinds (expr_kind (role algebra) c kinds) (kinds_after (role algebra) a kinds) (kinds_after (role algebra) b kinds)
        (marked b (marked a kinds)))
        (λ s p. at_each (block_pure a reads kinds h) (block_pure b reads kinds h) s (assigns a s || assigns b s) refl p)
      where
        at_each : PureWhere (reads_after a reads) (kinds_after (role algebra) a kinds)
            → PureWhere (reads_after b reads) (kinds_after (role algebra) b kinds) → (s : ℕ) (t : Bool) → (assigns a s || assigns b s) ≡ t →
            ((u : ℕ) → u < n → (if t then (λ u. (reads_after a reads s u || reads_after b reads s u) || expr_reads c reads u) else reads s)
            u ≡ true → known u ≡ true) →
            chosen_kinds (expr_kind (role algebra) c kinds) (kinds_after (role algebra) a kinds) (kinds_after (role algebra) b kinds)
            (marked b (marked a kinds)) s ≡ Pure
        at_each ia ib s true e p =
            let kc = expr_pure c reads kinds h (λ u lt t. p u lt (or_true_right (reads_after a reads s u || reads_after b reads s u)
            (expr_reads c reads u) t)) in
            let pa = ia s (λ u lt t. p u lt (or_true_left (reads_after a reads s u || reads_after b reads s u) (expr_reads c reads u)
            (or_true_left (reads_after a reads s u) (reads_after b reads s u) t))) in
            let pb = ib s (λ u lt t. p u lt (or_true_left (reads_after a reads s u || reads_after b reads s u) (expr_reads c reads u)
            (or_true_right (reads_after a reads s u) (reads_after b reads s u) t))) in
            ap (λ z. chosen_kinds z (kinds_after (role algebra) a kinds) (kinds_after (role algebra) b kinds) (marked b (marked a kinds)) s)
            kc ∙ ap (λ z. greater z (kinds_after (role algebra) b kinds s)) pa ∙ pb
        at_each ia ib s false e p =
            let na = or_false_left (assigns a s) (assigns b s) e in
            let nb = or_false_right (assigns a s) (assigns b s) e in
            chosen_kept (expr_kind (role algebra) c kinds) (kinds_after (role algebra) a kinds) (kinds_after (role algebra) b kinds)
            (marked b (marked a kinds)) kinds s
            (kinds_kept a kinds s na) (kinds_kept b kinds s nb) (marked_kept b (marked a kinds) s nb ∙ marked_kept a kinds s na) ∙ h s p

  start_pure : (f : TypedFold) → PureWhere (fold_states f) (is_history f) (reads_first (fold_states f)) (kinds_first f)
  start_pure f s p = at_each (nat_lt s (fold_states f)) refl (is_history f s) refl
    where
      at_each : (b : Bool) → nat_lt s (fold_states f) ≡ b → (t : Bool) → is_history f s ≡ t
          → (if nat_lt s (fold_states f) then (if is_history f s then Pure else Affine) else Pure) ≡ Pure
      at_each false e t et = ap (λ b. if b then (if is_history f s then Pure else Affine) else Pure) e
      at_each true e true et = ap (λ b. if b then (if is_history f s then Pure else Affine) else Pure) e
          ∙ ap (λ t. if t then Pure else Affine) et
      at_each true e false et =
          let lt : s < fold_states f = grind (arith, nat_tests) in
          let self : (s == s) ≡ true = grind (arith, nat_tests) in
          let known = p s lt (ap (λ b. b && (s == s)) e ∙ self) in
          cc

  reads_known : (f : TypedFold) (n v : ℕ) → n ≡ fold_states f → is_within f n v ≡ true → (u : ℕ) → u < fold_states f
      → fold_reads f v u ≡ true → is_within f n u ≡ true
  reads_known f zero v e h u lt t = cc
  reads_known f (suc m) v e h u lt t = within_next f m u (implied (fold_reads f v u) (is_within f m u) (below_at (fold_states f)
      (λ u. not (fold_reads f v u) || is_within f m u) u lt h) t)

  pub history_pure : (f : TypedFold) (v : ℕ) → is_history f v ≡ true → fold_kinds algebra f v ≡ Pure
  history_pure f v h =
      block_pure (fold_states f) (is_history f) (fold_block f) (reads_first (fold_states f)) (kinds_first f) (start_pure f) v
      (λ u lt t. reads_known f (fold_states f) v refl h u lt t)
