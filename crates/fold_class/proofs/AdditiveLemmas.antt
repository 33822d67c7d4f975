-- An additive fold is linear by sums, and no variable of it has a depth.
use Rattle.std.proofs.Common.{◌≡◌, ℕ, zero, suc, ◌<◌, ◌≤◌, Bool, true, false, ◌&&◌, ◌||◌, ◌==◌, nat_lt, if◌then◌else◌, refl, sym, ap, ◌∙◌}
use Rattle.std.proofs.{Common.{subst, arith}, lemmas.Bool.Decides.nat_tests}
use Rattle.query_lang.specs.{declared.fold.Op.{Op, TheVariants.{Add, Sub}}, Terms.{Term, Literal, Read, Negation, Operation}}
use Rattle.query_lang.specs.{declared.fold.TypedFold.TypedFold, Blocks.{Block, End, Set, Fork}}
use Rattle.query_lang.specs.Folds.{fold_states, fold_block, IsValidBlock, IsValidFold}
use Rattle.fold_class.specs.{declared.class.{Algebra.TheVariants.Sums, Kind.{Kind, TheVariants.{Pure, Affine}}}, Tables.{update, all_below}}
use Rattle.fold_class.specs.Depth.{assigns, expr_reads, reads_after, fold_reads, is_within, is_history}
use Rattle.fold_class.specs.Kinds.{greater, expr_kind, role, role_kind, marked, chosen_kinds, kinds_after, is_no_other, is_linear_by}
use Rattle.fold_class.proofs.TableLemmas.{and_three, and_true_left, and_true_right, or_true_left, implied, below_at}
use Rattle.fold_class.proofs.HistoryKinds.{role_pure, marked_kept, chosen_kept, kinds_kept}
use Rattle.fold_code.proofs.BlockLemmas.{argument_is}
use Rattle.fold_code.specs.Additive.{names_no_state, adds_or_subtracts, is_variable, is_increment, is_additive_block, is_additive}

greater_pure : (k : Kind) → greater k Pure ≡ k
greater_pure Pure = refl
greater_pure Affine = refl
greater_pure Kind.Other = refl

greater_good : (k l : Kind) → is_no_other k ≡ true → is_no_other l ≡ true → is_no_other (greater k l) ≡ true
greater_good Pure l h i = i
greater_good Affine Pure h i = refl
greater_good Affine Affine h i = refl
greater_good Affine Kind.Other h i = i
greater_good Kind.Other l h i = h

and_false : (b : Bool) → (b && false) ≡ false
and_false true = refl
and_false false = refl

or_both_false : (a b : Bool) → a ≡ false → b ≡ false → (a || b) ≡ false
or_both_false a b e f = rw (e, f)

module _ (states : ℕ) where
  -- where the enclosing conditions are not free, nothing is assigned
  none_assigned : (b : Block) → is_additive_block states false b ≡ true → (s : ℕ) → assigns b s ≡ false
  none_assigned End h s = refl
  none_assigned (Set v e _) h s = cc
  none_assigned (Fork c a b rest) h s =
      let parts = and_three _ _ _ h in
      or_both_false _ _ (or_both_false _ _ (none_assigned a parts.0 _) (none_assigned b parts.1.0 _)) (none_assigned rest parts.1.1 _)

  -- a valid block assigns to no argument
  args_kept : (nargs : ℕ) (b : Block) → IsValidBlock states nargs b → (s : ℕ) → states ≤ s → assigns b s ≡ false
  args_kept _ End _ s h = refl
  args_kept _ (Set v e rest) valid s h =
      let off : (s == v) ≡ false = grind (arith, nat_tests) in
      or_both_false _ _ off (args_kept _ rest valid.3 _ h)
  args_kept _ (Fork c a b rest) valid s h = or_both_false _ _ (or_both_false _ _ (args_kept _ a valid.2 _ h)
      (args_kept _ b valid.3 _ h)) (args_kept _ rest valid.4 _ h)

  clean_pure : (e : Term) (kinds : ℕ → Kind) → ((s : ℕ) → states ≤ s → kinds s ≡ Pure) → names_no_state states e ≡ true
      → expr_kind (role Sums) e kinds ≡ Pure
  clean_pure (Literal n) _ p h = refl
  clean_pure (Read s) _ p h = p s (argument_is _ _ h)
  clean_pure (Negation e) kinds p h = cc (clean_pure e _ p h)
  clean_pure (Operation op a b) kinds p h = cc (
    clean_pure a _ p (and_true_left (names_no_state states a) (names_no_state states b) h),
    clean_pure b _ p (and_true_right (names_no_state states a) (names_no_state states b) h),
    role_pure _,
  )

  op_kind : (op : Op) → adds_or_subtracts op ≡ true → (k : Kind) → role_kind (role Sums op) k Pure ≡ k
  op_kind Add h k = greater_pure _
  op_kind Sub h k = greater_pure _
  op_kind _ h k = cc

  variable_kind : (v : ℕ) (a : Term) (kinds : ℕ → Kind) → is_variable v a ≡ true → expr_kind (role Sums) a kinds ≡ kinds v
  variable_kind v (Read s) _ h = let same : s ≡ v = grind (arith, nat_tests) in rw same
  variable_kind v (Literal n) _ h = cc
  variable_kind v (Negation e) _ h = cc
  variable_kind v (Operation op a b) _ h = cc

  increment_kind : (v : ℕ) (e : Term) (kinds : ℕ → Kind) → ((s : ℕ) → states ≤ s → kinds s ≡ Pure) → is_increment states v e ≡ true
      → expr_kind (role Sums) e kinds ≡ kinds v
  increment_kind v (Literal n) _ p h = cc
  increment_kind v (Read s) _ p h = cc
  increment_kind v (Negation e) _ p h = cc
  increment_kind v (Operation op a b) kinds p h =
      let right = and_true_right (adds_or_subtracts op) (is_variable v a && names_no_state states b) h in
      cc (
        variable_kind _ a kinds (and_true_left (is_variable v a) (names_no_state states b) right),
        clean_pure b kinds p (and_true_right (is_variable v a) (names_no_state states b) right),
        op_kind op (and_true_left (adds_or_subtracts op) (is_variable v a && names_no_state states b) h) (kinds v),
      )

  stays : (free : Bool) (b : Block) → is_additive_block states (free && false) b ≡ true → (s : ℕ) → assigns b s ≡ false
  stays _ b h = none_assigned b (subst (λ z. is_additive_block states z b ≡ true) (and_false _) h)

  additive_good : (nargs : ℕ) (b : Block) (free : Bool) (kinds : ℕ → Kind) → IsValidBlock states nargs b
      → ((s : ℕ) → states ≤ s → kinds s ≡ Pure) → ((s : ℕ) → is_no_other (kinds s) ≡ true) →
      is_additive_block states free b ≡ true → (s : ℕ) → is_no_other (kinds_after (role Sums) b kinds s) ≡ true
  additive_good nargs End free kinds valid p g h = g
  additive_good nargs (Set v e rest) free kinds valid p g h =
      let front = and_true_left (free && is_increment states v e) (is_additive_block states free rest) h in
      let more = and_true_right (free && is_increment states v e) (is_additive_block states free rest) h in
      let same = increment_kind v e kinds p (and_true_right free (is_increment states v e) front) in
      additive_good nargs rest free (update kinds v (expr_kind (role Sums) e kinds)) valid.3
      (λ s ge. let off : (s == v) ≡ false = apart s ge in ap (λ b. if b then expr_kind (role Sums) e kinds else kinds s) off ∙ p s ge)
      (λ s. at_each (s == v) s (ap is_no_other same ∙ g v) (g s)) more
    where
      apart : (s : ℕ) → states ≤ s → (s == v) ≡ false
      apart s ge = grind (arith, nat_tests)

      at_each : (b : Bool) (s : ℕ) → is_no_other (expr_kind (role Sums) e kinds) ≡ true → is_no_other (kinds s) ≡ true
          → is_no_other (if b then expr_kind (role Sums) e kinds else kinds s) ≡ true
      at_each true s x y = x
      at_each false s x y = y
  additive_good nargs (Fork c a b rest) free kinds valid p g h =
      let inner = free && names_no_state states c in
      let parts = and_three _ _ _ h in
      let ga = additive_good nargs a inner kinds valid.2 p g parts.0 in
      let gb = additive_good nargs b inner kinds valid.3 p g parts.1.0 in
      additive_good nargs rest free (chosen_kinds (expr_kind (role Sums) c kinds) (kinds_after (role Sums) a kinds)
      (kinds_after (role Sums) b kinds) (marked b (marked a kinds))) valid.4
      (λ s ge. kept s (args_kept nargs a valid.2 s ge) (args_kept nargs b valid.3 s ge) ∙ p s ge)
      (λ s. at_each (names_no_state states c) refl ga gb parts.0 parts.1.0 s) parts.1.1
    where
      kept : (s : ℕ) → assigns a s ≡ false → assigns b s ≡ false → chosen_kinds (expr_kind (role Sums) c kinds)
          (kinds_after (role Sums) a kinds) (kinds_after (role Sums) b kinds) (marked b (marked a kinds)) s ≡ kinds s
      kept s na nb = chosen_kept (expr_kind (role Sums) c kinds) (kinds_after (role Sums) a kinds) (kinds_after (role Sums) b kinds)
          (marked b (marked a kinds)) kinds s
          (kinds_kept Sums a kinds s na) (kinds_kept Sums b kinds s nb) (marked_kept b (marked a kinds) s nb ∙ marked_kept a kinds s na)

      at_each : (t : Bool) → names_no_state states c ≡ t → ((s : ℕ) → is_no_other (kinds_after (role Sums) a kinds s) ≡ true)
          → ((s : ℕ) → is_no_other (kinds_after (role Sums) b kinds s) ≡ true) →
          is_additive_block states (free && names_no_state states c) a ≡ true
          → is_additive_block states (free && names_no_state states c) b ≡ true →
          (s : ℕ) → is_no_other (chosen_kinds (expr_kind (role Sums) c kinds) (kinds_after (role Sums) a kinds)
          (kinds_after (role Sums) b kinds) (marked b (marked a kinds)) s) ≡ true
      at_each true e ga gb ha hb s =
          ap (λ z. is_no_other (chosen_kinds z (kinds_after (role Sums) a kinds) (kinds_after (role Sums) b kinds)
          (marked b (marked a kinds)) s)) (clean_pure c kinds p e)
          ∙ greater_good (kinds_after (role Sums) a kinds s) (kinds_after (role Sums) b kinds s) (ga s) (gb s)
      at_each false e ga gb ha hb s =
          let na = stays free a (subst (λ z. is_additive_block states (free && z) a ≡ true) e ha) s in
          let nb = stays free b (subst (λ z. is_additive_block states (free && z) b ≡ true) e hb) s in
          ap is_no_other (kept s na nb) ∙ g s

  variable_reads : (v : ℕ) (a : Term) (reads : ℕ → ℕ → Bool) → is_variable v a ≡ true → reads v v ≡ true → expr_reads a reads v ≡ true
  variable_reads v (Read s) _ h r = let same : v ≡ s = grind (arith, nat_tests) in rw (← same) r
  variable_reads v (Literal n) _ h r = cc
  variable_reads v (Negation e) _ h r = cc
  variable_reads v (Operation op a b) _ h r = cc

  increment_reads : (v : ℕ) (e : Term) (reads : ℕ → ℕ → Bool) → is_increment states v e ≡ true → reads v v ≡ true
      → expr_reads e reads v ≡ true
  increment_reads v (Literal n) _ h r = cc
  increment_reads v (Read s) _ h r = cc
  increment_reads v (Negation e) _ h r = cc
  increment_reads v (Operation op a b) reads h r = or_true_left _ (expr_reads b reads v)
      (variable_reads v a reads (and_true_left (is_variable v a) (names_no_state states b)
      (and_true_right (adds_or_subtracts op) (is_variable v a && names_no_state states b) h)) r)

  -- each variable still depends on itself
  reads_self : (b : Block) (free : Bool) (reads : ℕ → ℕ → Bool) → is_additive_block states free b ≡ true
      → ((v : ℕ) → v < states → reads v v ≡ true) → (s : ℕ) → s < states → reads_after b reads s s ≡ true
  reads_self End _ _ h r = r
  reads_self (Set v e rest) free reads h r =
      let front = and_true_left (free && is_increment states v e) (is_additive_block states free rest) h in
      reads_self rest _ _ (and_true_right (free && is_increment states v e)
      (is_additive_block states free rest) h) (λ s lt. at_each _ _ refl lt (and_true_right free (is_increment states v e) front))
    where
      at_each : (s : ℕ) (b : Bool) → (s == v) ≡ b → s < states → is_increment states v e ≡ true
          → (if s == v then expr_reads e reads else reads s) s ≡ true
      at_each s true t lt inc =
          let same : v ≡ s = grind (arith, nat_tests) in
          cc (subst (λ z. expr_reads e reads z ≡ true) same (increment_reads _ e reads inc (r v (subst (λ z. z < states) (sym same) lt))))
      at_each s false t lt _ = simp (t, r)
  reads_self (Fork c a b rest) free reads h r =
      let inner = free && names_no_state states c in
      let front = and_true_left (is_additive_block states inner a && is_additive_block states inner b) (is_additive_block states free rest)
      h in
      let ia = reads_self a _ _ (and_true_left (is_additive_block states inner a) (is_additive_block states inner b) front) r in
      reads_self rest _ _
      (and_true_right (is_additive_block states inner a && is_additive_block states inner b) (is_additive_block states free rest) h)
      (λ s lt. at_each _ _ (ia s lt) (r s lt))
    where
      at_each : (s : ℕ) (t : Bool) → reads_after a reads s s ≡ true → reads s s ≡ true
          → (if t then (λ u. (reads_after a reads s u || reads_after b reads s u) || expr_reads c reads u) else reads s) s ≡ true
      at_each s true x y = or_true_left _ _ (or_true_left _ _ x)
      at_each s false x y = y

below_all : (n : ℕ) (p : ℕ → Bool) → ((s : ℕ) → p s ≡ true) → all_below n p ≡ true
below_all zero p h = refl
below_all (suc n) p h = cc (below_all n _ h, h n)

-- an additive fold is linear by sums
pub additive_linear : (f : TypedFold) → IsValidFold f → is_additive f ≡ true → is_linear_by Sums f ≡ true
additive_linear f valid h = below_all (fold_states f) _ (additive_good _ _ _ _ _ valid.statements
    (λ s ge. let off : nat_lt s (fold_states f) ≡ false = grind (arith, nat_tests) in ap
    (λ b. if b then (if is_history f s then Pure else Affine) else Pure) off) (λ s. start _ _) h)
  where
    start : (b t : Bool) → is_no_other (if b then (if t then Pure else Affine) else Pure) ≡ true
    start true true = refl
    start true false = refl
    start false t = refl

-- and none of its variables has a depth, so its depth is 0
pub additive_no_depth : (f : TypedFold) → is_additive f ≡ true → (d v : ℕ) → v < fold_states f → is_within f d v ≡ false
additive_no_depth f h zero v lt = refl
additive_no_depth f h (suc d) v lt = place (additive_no_depth f h d _ lt) _ refl
  where
    self : fold_reads f v v ≡ true
    self = reads_self _ (fold_block f) _ _ h
        (λ s ls. let a : nat_lt s (fold_states f) ≡ true = grind (arith, nat_tests) in let b : (s == s) ≡ true =
        grind (arith, nat_tests) in ap (λ z. z && (s == s)) a ∙ b) _ lt

    place : is_within f d v ≡ false → (b : Bool) → is_within f (suc d) v ≡ b → is_within f (suc d) v ≡ false
    place _ false e = e
    place shallower true e =
        let deeper = implied _ _ (below_at _ _ _ lt e) self in
        cc
