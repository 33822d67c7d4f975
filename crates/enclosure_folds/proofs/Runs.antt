-- Two runs of a block from tied states end in tied states.
use Rattle.std.proofs.Common.{◌≡◌, ℕ, ◌+◌, ◌<◌, Bool, true, false, ◌==◌, if◌then◌else◌, List, ◌++◌, length, set, slice_index, refl, sym, ap}
use Rattle.std.proofs.{Common.{◌∙◌, subst, arith, length-set, length-append}, lemmas.List.set-append_left}
use Rattle.query_lang.specs.{Words.holds, Blocks.{Block, End, Set, Fork}, Folds.{term_value, after, IsValidBlock}}
use Rattle.fold_class.specs.{declared.class.Kind.{Kind, TheVariants.{Pure as Free, Affine as Rising, Other as Wild}}, Tables.update}
use Rattle.fold_class.{specs.Kinds.{greater, expr_kind, marked, chosen_kinds, kinds_after, is_no_other}, proofs.History.length-after}
use Rattle.fold_class.proofs.TableLemmas.{set_index}
use Rattle.enclosure_folds.{specs.Kinds.role, proofs.Ties.{Tied, Ties, greater_left, greater_right, expr_tied}}

set_row : (xs args : List ℕ) (v x s : ℕ) → v < length xs → slice_index (set xs v x ++ args) s ≡ update (slice_index (xs ++ args)) v x s
set_row xs args v x s h =
    let inside : v < length (xs ++ args) = omega (arith, length-append xs args) in
    sym (ap (λ z. slice_index z s) (set-append_left xs args v x h)) ∙ set_index _ v x s inside

set_tied : (kinds : ℕ → Kind) (xs ys args : List ℕ) (v : ℕ) (k : Kind) (x y : ℕ) → v < length xs → v < length ys
    → Ties kinds (xs ++ args) (ys ++ args) → Tied k x y →
    Ties (update kinds v k) (set xs v x ++ args) (set ys v y ++ args)
set_tied kinds xs ys args v k x y hx hy h t s =
    rw (set_row _ _ v x s hx) (rw (set_row ys args v y s hy) (at (s == v)))
  where
    at : (b : Bool) → Tied (if b then k else kinds s) (if b then x else slice_index (xs ++ args) s)
        (if b then y else slice_index (ys ++ args) s)
    at true = t
    at false = h s

module _ (states nargs : ℕ) (args : List ℕ) where
  module _ (kinds : ℕ → Kind) (start : List ℕ) where
    -- a variable that is not Wild in a later table has its kind and its value from the start
    abbrev pub Kept : (ℕ → Kind) → List ℕ → Type 0
    Kept later state = (s : ℕ) → is_no_other (later s) ≡ true → (later s ≡ kinds s)
        × (slice_index (state ++ args) s ≡ slice_index (start ++ args) s)

    set_kept : (later : ℕ → Kind) (state : List ℕ) (v x : ℕ) → v < length state → Kept later state
        → Kept (update later v Wild) (set state v x)
    set_kept later state v x hv h s =
        rw (set_row _ _ v x s hv) (at (s == v))
      where
        at : (b : Bool) → is_no_other (if b then Wild else later s) ≡ true → ((if b then Wild else later s) ≡ kinds s)
            × ((if b then x else slice_index (state ++ args) s) ≡ slice_index (start ++ args) s)
        at true e = cc
        at false e = h s e

    -- marks alone
    mark_kept : (b : Block) (later : ℕ → Kind) (state : List ℕ) → Kept later state → Kept (marked b later) state
    mark_kept End later state h = h
    mark_kept (Set v e rest) later state h = mark_kept rest (update later v Wild) state (λ s. at s (s == v))
      where
        at : (s : ℕ) (b : Bool) → is_no_other (if b then Wild else later s) ≡ true → ((if b then Wild else later s) ≡ kinds s)
            × (slice_index (state ++ args) s ≡ slice_index (start ++ args) s)
        at s true e = cc
        at s false e = h s e
    mark_kept (Fork c a b rest) later state h = mark_kept rest (marked b (marked a later)) state
        (mark_kept b (marked a later) state (mark_kept a later state h))

    -- marks beside a run
    run_kept : (b : Block) (later : ℕ → Kind) (state : List ℕ) → IsValidBlock states nargs b → length state ≡ states → Kept later state
        → Kept (marked b later) (after b args state)
    run_kept End later state valid hs h = h
    run_kept (Set v e rest) later state valid hs h =
        let x = term_value e (state ++ args) in
        run_kept rest (update later v Wild) (set state v x) valid.3 (length-set state v x ∙ hs)
        (set_kept _ _ v x (omega (arith, valid.0)) h)
    run_kept (Fork c a b rest) later state valid hs h =
        let t = holds (term_value c (state ++ args)) in
        run_kept rest (marked b (marked a later)) (if t then after a args state else after b args state) valid.4 (size t)
        (branch t (run_kept a later state valid.2 hs h) (run_kept b (marked a later) state valid.3 hs (mark_kept a _ _ h)))
      where
        size : (t : Bool) → length (if t then after a args state else after b args state) ≡ states
        size true = length-after a _ _ ∙ hs
        size false = length-after b _ _ ∙ hs

        branch : (t : Bool) → Kept (marked a later) (after a args state) → Kept (marked b (marked a later)) (after b args state)
            → Kept (marked b (marked a later)) (if t then after a args state else after b args state)
        branch true p q = mark_kept b _ _ p
        branch false p q = q

    pub choice_kept : (a b : Block) (t : Bool) → IsValidBlock states nargs a → IsValidBlock states nargs b → length start ≡ states
        → Kept (marked b (marked a kinds)) (if t then after a args start else after b args start)
    choice_kept a b true va vb hs = mark_kept b _ _ (run_kept a _ _ va hs (λ s e. (refl, refl)))
    choice_kept a b false va vb hs = run_kept b _ _ vb hs (mark_kept a _ _ (λ s e. (refl, refl)))

  same_tied : (k l : Kind) (x y p q : ℕ) → (k ≡ l) × (x ≡ p) → (k ≡ l) × (y ≡ q) → Tied l p q → Tied k x y
  same_tied k l x y p q hx hy t = rw hx.0 (rw hx.1 (subst (λ z. Tied l p z) (sym hy.1) t))

  kept_tied : (k l : Kind) (x y p q : ℕ) → (is_no_other k ≡ true → (k ≡ l) × (x ≡ p)) → (is_no_other k ≡ true → (k ≡ l) × (y ≡ q))
      → Tied l p q → Tied k x y
  kept_tied Free l x y p q hx hy t = same_tied _ l x y p q (hx refl) (hy refl) t
  kept_tied Rising l x y p q hx hy t = same_tied _ l x y p q (hx refl) (hy refl) t
  kept_tied Wild l x y p q hx hy t = tt

  pub block_tied : (b : Block) (kinds : ℕ → Kind) (xs ys : List ℕ) → IsValidBlock states nargs b → length xs ≡ states → length ys ≡ states
      → Ties kinds (xs ++ args) (ys ++ args) →
      Ties (kinds_after role b kinds) (after b args xs ++ args) (after b args ys ++ args)
  block_tied End kinds xs ys valid hx hy h = h
  block_tied (Set v e rest) kinds xs ys valid hx hy h =
      let x = term_value e (xs ++ args) in
      let y = term_value e (ys ++ args) in
      block_tied rest (update kinds v (expr_kind role e kinds)) (set xs v x) (set ys v y) valid.3 (length-set xs v x ∙ hx)
      (length-set ys v y ∙ hy)
      (set_tied kinds xs ys args v (expr_kind role e kinds) x y (omega (arith, valid.0)) (omega (arith, valid.0)) h
      (expr_tied (states + nargs) e kinds (xs ++ args) (ys ++ args) valid.1 h))
  block_tied (Fork c a b rest) kinds xs ys valid hx hy h =
      let cx = term_value c (xs ++ args) in
      let cy = term_value c (ys ++ args) in
      block_tied rest (chosen_kinds (expr_kind role c kinds) (kinds_after role a kinds) (kinds_after role b kinds)
      (marked b (marked a kinds)))
      (if holds cx then after a args xs else after b args xs) (if holds cy then after a args ys else after b args ys) valid.4
      (size xs hx (holds cx)) (size ys hy (holds cy))
      (choice (expr_kind role c kinds) cx cy (expr_tied (states + nargs) c kinds (xs ++ args) (ys ++ args) valid.0 h)
      (block_tied a kinds xs ys valid.2 hx hy h) (block_tied b kinds xs ys valid.3 hx hy h))
    where
      size : (zs : List ℕ) → length zs ≡ states → (t : Bool) → length (if t then after a args zs else after b args zs) ≡ states
      size zs hz true = length-after a _ _ ∙ hz
      size zs hz false = length-after b _ _ ∙ hz

      -- a Free condition takes the same branch in both runs
      same_branch : (p q : Bool) → p ≡ q →
          Ties (kinds_after role a kinds) (after a args xs ++ args) (after a args ys ++ args)
          → Ties (kinds_after role b kinds) (after b args xs ++ args) (after b args ys ++ args) →
          Ties (λ v. greater (kinds_after role a kinds v) (kinds_after role b kinds v))
          ((if p then after a args xs else after b args xs) ++ args) ((if q then after a args ys else after b args ys) ++ args)
      same_branch true true e ta tb s = greater_left _ _
          _ _ (ta s)
      same_branch true false e ta tb s = cc
      same_branch false true e ta tb s = cc
      same_branch false false e ta tb s = greater_right _ _
          _ _ (tb s)

      any_branch : (p q : Bool) → Ties (marked b (marked a kinds)) ((if p then after a args xs else after b args xs) ++ args)
          ((if q then after a args ys else after b args ys) ++ args)
      any_branch p q s =
          kept_tied _ _ _
          _
          _ _
          (choice_kept _ _ a b p valid.2 valid.3 hx s) (choice_kept _ _ a b q valid.2 valid.3 hy s) (h s)

      choice : (k : Kind) (cx cy : ℕ) → Tied k cx cy →
          Ties (kinds_after role a kinds) (after a args xs ++ args) (after a args ys ++ args)
          → Ties (kinds_after role b kinds) (after b args xs ++ args) (after b args ys ++ args) →
          Ties (chosen_kinds k (kinds_after role a kinds) (kinds_after role b kinds) (marked b (marked a kinds)))
          ((if holds cx then after a args xs else after b args xs) ++ args)
          ((if holds cy then after a args ys else after b args ys) ++ args)
      choice Free cx cy e ta tb = same_branch _ _ (ap holds e) ta tb
      choice Rising cx cy e ta tb = any_branch _ _
      choice Wild cx cy e ta tb = any_branch _ _
