-- What the walk with kinds says of a run over parts.
use Rattle.std.proofs.Common.{◌≡◌, ◌≢◌, ℕ, ◌<◌, Bool, true, false, not, ◌==◌, if◌then◌else◌, List, ◌++◌, length, set, refl, sym, ap, ◌∙◌}
use Rattle.std.proofs.{Common.{subst, arith, length-set, length-append, get_or-set_same, get_or-set_other}, lemmas.Bool.Decides.nat_tests}
use Rattle.std.proofs.lemmas.List.{set-get_or, set-append_left}
use Rattle.query_lang.specs.{Terms.{Term, Literal, Read, Negation, Operation}, Words.{flag, holds, op_value}}
use Rattle.query_lang.specs.{Blocks.{Block, End, Set, Fork}, Folds.IsValidBlock}
use Rattle.fold_code.{specs.{Machine.{Domain, at}, Tree.{term_in, after_in}}, proofs.Runs.length-after}
use Rattle.fold_class.specs.{declared.class.{Algebra.Algebra, Kind.{Kind, TheVariants.{Pure, Affine}}}, Kinds.{Role, Sum, Difference}}
use Rattle.fold_class.specs.Kinds.{Product, Outside, role, greater, product_kind, outside_kind, role_kind, expr_kind, marked, chosen_kinds}
use Rattle.fold_class.specs.{Kinds.kinds_after, Parts.{Part, Fixed, Share, Lost, Shares, minus_one, parts, part_mask, part_choice}}
use Rattle.fold_class.specs.{Parts.{part_negation, part_operation}, Fitting.Allows, Tables.update}

module _ {A : Type 0} (sh : Shares A) (algebra : Algebra) where
  abbrev pub pdom : Domain (Part A)
  pdom = parts sh algebra

  fixed_allowed : (k : Kind) (w : ℕ) → Allows {A = A} k (Fixed w)
  fixed_allowed Pure w = tt
  fixed_allowed Affine w = tt
  fixed_allowed Kind.Other w = tt

  -- a share is allowed at every kind that allows another share
  share_left : (k l : Kind) (d e : A) → Allows k (Share d) → Allows (greater k l) (Share e)
  share_left Pure l d e h = absurd h
  share_left Affine Pure d e h = tt
  share_left Affine Affine d e h = tt
  share_left Affine Kind.Other d e h = tt
  share_left Kind.Other l d e h = tt

  share_right : (k l : Kind) (d e : A) → Allows l (Share d) → Allows (greater k l) (Share e)
  share_right Pure Pure d e h = absurd h
  share_right Pure Affine d e h = tt
  share_right Pure Kind.Other d e h = tt
  share_right Affine Pure d e h = tt
  share_right Affine Affine d e h = tt
  share_right Affine Kind.Other d e h = tt
  share_right Kind.Other l d e h = tt

  lost_left : (r : Role) (k l : Kind) → Allows {A = A} k Lost → Allows {A = A} (role_kind r k l) Lost
  lost_left r Pure l h = absurd h
  lost_left r Affine l h = absurd h
  lost_left Sum Kind.Other l h = tt
  lost_left Difference Kind.Other l h = tt
  lost_left Product Kind.Other l h = tt
  lost_left Outside Kind.Other l h = tt

  -- with an operand that is Other, the result is Other
  to_other : (r : Role) (k : Kind) → role_kind r k Kind.Other ≡ Kind.Other
  to_other Sum Pure = refl
  to_other Sum Affine = refl
  to_other Sum Kind.Other = refl
  to_other Difference Pure = refl
  to_other Difference Affine = refl
  to_other Difference Kind.Other = refl
  to_other Product Pure = refl
  to_other Product Affine = refl
  to_other Product Kind.Other = refl
  to_other Outside Pure = refl
  to_other Outside Affine = refl
  to_other Outside Kind.Other = refl

  lost_right : (r : Role) (k l : Kind) → Allows {A = A} l Lost → Allows {A = A} (role_kind r k l) Lost
  lost_right r k Pure h = absurd h
  lost_right r k Affine h = absurd h
  lost_right r k Kind.Other h = subst (λ m. Allows {A = A} m Lost) (sym (to_other r k)) tt

  -- a product is allowed to be a share where a sum is
  product_share : (k l : Kind) (e : A) → Allows (greater k l) (Share e) → Allows (product_kind k l) (Share e)
  product_share Pure l e h = h
  product_share Affine Pure e h = tt
  product_share Affine Affine e h = tt
  product_share Affine Kind.Other e h = tt
  product_share Kind.Other l e h = tt

  product_both : (k l : Kind) (d e : A) → Allows k (Share d) → Allows l (Share e) → Allows {A = A} (product_kind k l) Lost
  product_both Pure l d e h i = absurd h
  product_both k Pure d e h i = absurd i
  product_both Affine Affine d e h i = tt
  product_both Affine Kind.Other d e h i = tt
  product_both Kind.Other l d e h i = tt

  outside_left : (k l : Kind) (d : A) → Allows k (Share d) → Allows {A = A} (outside_kind k l) Lost
  outside_left Pure l d h = absurd h
  outside_left Affine l d h = tt
  outside_left Kind.Other l d h = tt

  outside_right : (k l : Kind) (d : A) → Allows l (Share d) → Allows {A = A} (outside_kind k l) Lost
  outside_right k Pure d h = absurd h
  outside_right Pure Affine d h = tt
  outside_right Pure Kind.Other d h = tt
  outside_right Affine l d h = tt
  outside_right Kind.Other l d h = tt

  operation_allowed : (r : Role) (f : ℕ → ℕ → ℕ) (k l : Kind) (p q : Part A) → Allows k p → Allows l q
      → Allows (role_kind r k l) (part_operation sh r f p q)
  operation_allowed r f k l (Fixed u) (Fixed t) h i = fixed_allowed (role_kind r k l) (f u t)
  operation_allowed Sum f k l (Fixed u) (Share e) h i = share_right k l e (sh.sum (sh.lift u) e) i
  operation_allowed Sum f k l (Share d) (Fixed t) h i = share_left k l d (sh.sum d (sh.lift t)) h
  operation_allowed Sum f k l (Share d) (Share e) h i = share_left k l d (sh.sum d e) h
  operation_allowed Difference f k l (Fixed u) (Share e) h i = share_right k l e (sh.sum (sh.lift u) (sh.scale minus_one e)) i
  operation_allowed Difference f k l (Share d) (Fixed t) h i = share_left k l d (sh.sum d (sh.scale minus_one (sh.lift t))) h
  operation_allowed Difference f k l (Share d) (Share e) h i = share_left k l d (sh.sum d (sh.scale minus_one e)) h
  operation_allowed Product f k l (Fixed u) (Share e) h i = product_share k l (sh.scale u e) (share_right k l e (sh.scale u e) i)
  operation_allowed Product f k l (Share d) (Fixed t) h i = product_share k l (sh.scale t d) (share_left k l d (sh.scale t d) h)
  operation_allowed Product f k l (Share d) (Share e) h i = product_both k l d e h i
  operation_allowed Outside f k l (Fixed u) (Share e) h i = outside_right k l e i
  operation_allowed Outside f k l (Share d) (Fixed t) h i = outside_left k l d h
  operation_allowed Outside f k l (Share d) (Share e) h i = outside_left k l d h
  operation_allowed r f k l (Fixed u) Lost h i = lost_right r k l i
  operation_allowed r f k l (Share d) Lost h i = lost_right r k l i
  operation_allowed r f k l Lost q h i = lost_left r k l h

  negation_allowed : (k : Kind) (p : Part A) → Allows k p → Allows (outside_kind Pure k) (part_negation p)
  negation_allowed k (Fixed w) h = fixed_allowed (outside_kind Pure k) (flag (not (holds w)))
  negation_allowed Pure (Share e) h = absurd h
  negation_allowed Affine (Share e) h = tt
  negation_allowed Kind.Other (Share e) h = tt
  negation_allowed Pure Lost h = absurd h
  negation_allowed Affine Lost h = absurd h
  negation_allowed Kind.Other Lost h = tt

  greater_allows_left : (k l : Kind) (p : Part A) → Allows k p → Allows (greater k l) p
  greater_allows_left k l (Fixed w) h = fixed_allowed (greater k l) w
  greater_allows_left k l (Share e) h = share_left k l e e h
  greater_allows_left k l Lost h = lost_left Sum k l h

  greater_allows_right : (k l : Kind) (p : Part A) → Allows l p → Allows (greater k l) p
  greater_allows_right k l (Fixed w) h = fixed_allowed (greater k l) w
  greater_allows_right k l (Share e) h = share_right k l e e h
  greater_allows_right k l Lost h = lost_right Sum k l h

  abbrev pub AllAllowed : (ℕ → Kind) → List (Part A) → Type 0
  AllAllowed kinds ps = (s : ℕ) → Allows (kinds s) (at pdom ps s)

  expr_allowed : (e : Term) (kinds : ℕ → Kind) (ps : List (Part A)) → AllAllowed kinds ps
      → Allows (expr_kind (role algebra) e kinds) (term_in pdom e ps)
  expr_allowed (Literal n) kinds ps h = tt
  expr_allowed (Read s) kinds ps h = h s
  expr_allowed (Negation e) kinds ps h = negation_allowed (expr_kind (role algebra) e kinds) (term_in pdom e ps) (expr_allowed e kinds ps h)
  expr_allowed (Operation op a b) kinds ps h =
      operation_allowed (role algebra op) (op_value op) (expr_kind (role algebra) a kinds) (expr_kind (role algebra) b kinds)
      (term_in pdom a ps) (term_in pdom b ps) (expr_allowed a kinds ps h) (expr_allowed b kinds ps h)

  set_allowed : (vars fargs : List (Part A)) (kinds : ℕ → Kind) (v : ℕ) (k : Kind) (p : Part A) → v < length vars
      → AllAllowed kinds (vars ++ fargs) → Allows k p → AllAllowed (update kinds v k) (set vars v p ++ fargs)
  set_allowed vars fargs kinds v k p hv h q =
      subst (AllAllowed (update kinds v k)) (set-append_left vars fargs v p hv) (λ s. at_each s (s == v) refl)
    where
      inside : v < length (vars ++ fargs)
      inside = omega (arith, length-append vars fargs)

      at_each : (s : ℕ) (b : Bool) → (s == v) ≡ b → Allows (if s == v then k else kinds s) (at pdom (set (vars ++ fargs) v p) s)
      at_each s true e =
          let same : v ≡ s = grind (arith, nat_tests) in
          subst (λ b. Allows (if b then k else kinds s) (at pdom (set (vars ++ fargs) v p) s)) (sym e)
          (subst (λ t. Allows k (at pdom (set (vars ++ fargs) v p) t)) same
          (subst (Allows k) (sym (get_or-set_same (vars ++ fargs) v p (Fixed 0) inside)) q))
      at_each s false e =
          let other : s ≢ v = grind (arith, nat_tests) in
          subst (λ b. Allows (if b then k else kinds s) (at pdom (set (vars ++ fargs) v p) s)) (sym e)
          (subst (Allows (kinds s)) (sym (get_or-set_other (vars ++ fargs) v s p (Fixed 0) other)) (h s))

  dead_parts : (b : Block) (args vars : List (Part A)) → after_in pdom (Fixed 0) b args vars ≡ vars
  dead_parts End args vars = refl
  dead_parts (Set v e rest) args vars = ap (after_in pdom (Fixed 0) rest args) (set-get_or vars v (Fixed 0)) ∙ dead_parts rest args vars
  dead_parts (Fork c a b rest) args vars =
      ap (λ z. after_in pdom (Fixed 0) rest args (after_in pdom (Fixed 0) b args z)) (dead_parts a args vars)
      ∙ ap (after_in pdom (Fixed 0) rest args) (dead_parts b args vars) ∙ dead_parts rest args vars

  module _ (states nargs : ℕ) (fargs : List (Part A)) where
    -- whatever the mask is, only the marked variables change
    marked_allowed : (b : Block) (m : Part A) (kinds : ℕ → Kind) (vars : List (Part A)) → IsValidBlock states nargs b → length vars ≡ states
        → AllAllowed kinds (vars ++ fargs) → AllAllowed (marked b kinds) (after_in pdom m b fargs vars ++ fargs)
    marked_allowed End m kinds vars valid hs h = h
    marked_allowed (Set v e rest) m kinds vars valid hs h =
        let p = part_choice m (term_in pdom e (vars ++ fargs)) (at pdom vars v) in
        marked_allowed rest m (update kinds v Kind.Other) (set vars v p) valid.3 (length-set vars v p ∙ hs)
        (set_allowed vars fargs kinds v Kind.Other p (omega (arith, valid.0)) h tt)
    marked_allowed (Fork c a b rest) m kinds vars valid hs h =
        let q = term_in pdom c (vars ++ fargs) in
        let m1 = part_mask true m q in
        let m2 = part_mask false m q in
        let va = after_in pdom m1 a fargs vars in
        let vb = after_in pdom m2 b fargs va in
        let la = length-after pdom m1 a fargs vars ∙ hs in
        let lb = length-after pdom m2 b fargs va ∙ la in
        marked_allowed rest m (marked b (marked a kinds)) vb valid.4 lb
        (marked_allowed b m2 (marked a kinds) va valid.3 la (marked_allowed a m1 kinds vars valid.2 hs h))

    -- a choice: by its condition's kind
    choice_allowed : (a b : Block) (kc : Kind) (q : Part A) (kinds : ℕ → Kind) (vars : List (Part A)) → IsValidBlock states nargs a
        → IsValidBlock states nargs b → length vars ≡ states → Allows kc q → AllAllowed kinds (vars ++ fargs) →
        AllAllowed (kinds_after (role algebra) a kinds) (after_in pdom (Fixed 1) a fargs vars ++ fargs)
        → AllAllowed (kinds_after (role algebra) b kinds) (after_in pdom (Fixed 1) b fargs vars ++ fargs) →
        AllAllowed (chosen_kinds kc (kinds_after (role algebra) a kinds) (kinds_after (role algebra) b kinds) (marked b (marked a kinds)))
        (after_in pdom (part_mask false (Fixed 1) q) b fargs (after_in pdom (part_mask true (Fixed 1) q) a fargs vars) ++ fargs)
    choice_allowed a b Pure (Fixed w) kinds vars va vb hs hq h ha hb = fixed (holds w)
      where
        fixed : (t : Bool) → AllAllowed (λ v. greater (kinds_after (role algebra) a kinds v) (kinds_after (role algebra) b kinds v))
            (after_in pdom (Fixed (flag (not t))) b fargs (after_in pdom (Fixed (flag t)) a fargs vars) ++ fargs)
        fixed true = subst (λ z. AllAllowed (λ v. greater (kinds_after (role algebra) a kinds v) (kinds_after (role algebra) b kinds v))
            (z ++ fargs)) (sym (dead_parts b fargs (after_in pdom (Fixed 1) a fargs vars)))
            (λ s. greater_allows_left (kinds_after (role algebra) a kinds s) (kinds_after (role algebra) b kinds s)
            (at pdom (after_in pdom (Fixed 1) a fargs vars ++ fargs) s) (ha s))
        fixed false = subst (λ z. AllAllowed (λ v. greater (kinds_after (role algebra) a kinds v) (kinds_after (role algebra) b kinds v))
            (after_in pdom (Fixed 1) b fargs z ++ fargs)) (sym (dead_parts a fargs vars))
            (λ s. greater_allows_right (kinds_after (role algebra) a kinds s) (kinds_after (role algebra) b kinds s)
            (at pdom (after_in pdom (Fixed 1) b fargs vars ++ fargs) s) (hb s))
    choice_allowed a b Pure (Share e) kinds vars va vb hs hq h ha hb = absurd hq
    choice_allowed a b Pure Lost kinds vars va vb hs hq h ha hb = absurd hq
    choice_allowed a b Affine q kinds vars va vb hs hq h ha hb =
        marked_allowed b (part_mask false (Fixed 1) q) (marked a kinds) (after_in pdom (part_mask true (Fixed 1) q) a fargs vars) vb
        (length-after pdom (part_mask true (Fixed 1) q) a fargs vars ∙ hs)
        (marked_allowed a (part_mask true (Fixed 1) q) kinds vars va hs h)
    choice_allowed a b Kind.Other q kinds vars va vb hs hq h ha hb =
        marked_allowed b (part_mask false (Fixed 1) q) (marked a kinds) (after_in pdom (part_mask true (Fixed 1) q) a fargs vars) vb
        (length-after pdom (part_mask true (Fixed 1) q) a fargs vars ∙ hs)
        (marked_allowed a (part_mask true (Fixed 1) q) kinds vars va hs h)

    pub live_allowed : (b : Block) (kinds : ℕ → Kind) (vars : List (Part A)) → IsValidBlock states nargs b → length vars ≡ states
        → AllAllowed kinds (vars ++ fargs) → AllAllowed (kinds_after (role algebra) b kinds) (after_in pdom (Fixed 1) b fargs vars ++ fargs)
    live_allowed End kinds vars valid hs h = h
    live_allowed (Set v e rest) kinds vars valid hs h =
        let p = term_in pdom e (vars ++ fargs) in
        let k = expr_kind (role algebra) e kinds in
        live_allowed rest (update kinds v k) (set vars v p) valid.3 (length-set vars v p ∙ hs)
        (set_allowed vars fargs kinds v k p (omega (arith, valid.0)) h (expr_allowed e kinds (vars ++ fargs) h))
    live_allowed (Fork c a b rest) kinds vars valid hs h =
        let q = term_in pdom c (vars ++ fargs) in
        let m1 = part_mask true (Fixed 1) q in
        let m2 = part_mask false (Fixed 1) q in
        let va = after_in pdom m1 a fargs vars in
        let vb = after_in pdom m2 b fargs va in
        live_allowed rest (chosen_kinds (expr_kind (role algebra) c kinds) (kinds_after (role algebra) a kinds)
        (kinds_after (role algebra) b kinds) (marked b (marked a kinds))) vb valid.4
        (length-after pdom m2 b fargs va ∙ length-after pdom m1 a fargs vars ∙ hs)
        (choice_allowed a b (expr_kind (role algebra) c kinds) q kinds vars valid.2 valid.3 hs (expr_allowed c kinds (vars ++ fargs) h) h
        (live_allowed a kinds vars valid.2 hs h) (live_allowed b kinds vars valid.3 hs h))
