-- A run over rows of shares represents the run over words.
use Rattle.std.proofs.Common.{◌≡◌, ◌≢◌, ℕ, ◌+◌, ◌<◌, Bool, true, false, not, ◌==◌, if◌then◌else◌, List, ◌++◌, length, set, slice_index}
use Rattle.std.proofs.Common.{refl, sym, ap, ◌∙◌, subst, arith, length-set, length-append, get_or-set_same, get_or-set_other}
use Rattle.std.proofs.lemmas.{Bool.Decides.nat_tests, List.{set-get_or, set-append_left}}
use Rattle.query_lang.specs.{Terms.{Term, Literal, Read, Negation, Operation}, Words.{IsWord, flag, holds}, Blocks.{Block, End, Set, Fork}}
use Rattle.query_lang.{specs.Folds.{term_value, after, IsValidTerm, IsValidBlock}, proofs.WordLemmas.{flag_word, op_word}}
use Rattle.fold_code.specs.{Machine.{Domain, at}, Tree.{term_in, after_in}}
use Rattle.coeff_algebra.specs.Elements.{Elements, ElementLaws}
use Rattle.fold_class.specs.{declared.class.Algebra.Algebra, Kinds.role}
use Rattle.fold_class.specs.Parts.{Part, Fixed, Share, Lost, parts, part_mask, part_negation, row_shares, StandsFor, IsAlgebraOf}
use Rattle.fold_class.proofs.PartLemmas.{operation_stands}

module _ {C : Type 0} {is_element : C → Type 0} {k : Elements C} (laws : ElementLaws is_element k) (n : ℕ) (x : ℕ → ℕ) (algebra : Algebra)
    (alg : IsAlgebraOf algebra k) where
  abbrev pub Row : Type 0
  Row = Part (ℕ → C)

  abbrev pub dom : Domain Row
  dom = parts (row_shares k n) algebra

  abbrev pub Stands : Row → ℕ → Type 0
  Stands p v = StandsFor k n x p v

  -- each slot of a row of parts represents the value at that slot, which is a word
  pub record AllStand (ps : List Row) (vs : List ℕ) : Type 0 where
    pub each : (s : ℕ) → Stands (at dom ps s) (slice_index vs s)
    pub are_words : (s : ℕ) → IsWord (slice_index vs s)

  negation_stands : (p : Row) (v : ℕ) → Stands p v → Stands (part_negation p) (flag (not (holds v)))
  negation_stands (Fixed w) v h = ap (λ z. flag (not (holds z))) h
  negation_stands (Share e) v h = tt
  negation_stands Lost v h = tt

  expr_word : (slots : ℕ) (e : Term) (vs : List ℕ) → IsValidTerm slots e → ((s : ℕ) → IsWord (slice_index vs s)) → IsWord (term_value e vs)
  expr_word slots (Literal m) vs valid h = valid
  expr_word slots (Read s) vs valid h = h s
  expr_word slots (Negation e) vs valid h = flag_word (not (holds (term_value e vs)))
  expr_word slots (Operation op a b) vs valid h = op_word op (term_value a vs) (term_value b vs) (expr_word slots a vs valid.0 h)
      (expr_word slots b vs valid.1 h)

  expr_stands : (slots : ℕ) (e : Term) (ps : List Row) (vs : List ℕ) → IsValidTerm slots e → AllStand ps vs
      → Stands (term_in dom e ps) (term_value e vs)
  expr_stands slots (Literal m) ps vs valid h = refl
  expr_stands slots (Read s) ps vs valid h = h.each s
  expr_stands slots (Negation e) ps vs valid h = negation_stands (term_in dom e ps) (term_value e vs) (expr_stands slots e ps vs valid.0 h)
  expr_stands slots (Operation op a b) ps vs valid h =
      operation_stands laws n x algebra alg op (role algebra op) refl (term_in dom a ps) (term_in dom b ps) (term_value a vs)
      (term_value b vs)
      (expr_word slots a vs valid.0 h.are_words) (expr_word slots b vs valid.1 h.are_words) (expr_stands slots a ps vs valid.0 h)
      (expr_stands slots b ps vs valid.1 h)

  -- under the mask that does not hold, nothing happens
  dead : (b : Block) (args vars : List Row) → after_in dom (Fixed 0) b args vars ≡ vars
  dead End args vars = refl
  dead (Set v e rest) args vars = ap (after_in dom (Fixed 0) rest args) (set-get_or vars v (Fixed 0)) ∙ dead rest args vars
  dead (Fork c a b rest) args vars = ap (λ z. after_in dom (Fixed 0) rest args (after_in dom (Fixed 0) b args z)) (dead a args vars)
      ∙ ap (after_in dom (Fixed 0) rest args) (dead b args vars) ∙ dead rest args vars

  set_stands : (ps : List Row) (vs : List ℕ) (v : ℕ) (p : Row) (w : ℕ) → v < length ps → v < length vs → AllStand ps vs → Stands p w
      → IsWord w → AllStand (set ps v p) (set vs v w)
  set_stands ps vs v p w hp hv h q hw = record { each = λ s. at_each s (s == v) refl; are_words = λ s. at_word s (s == v) refl }
    where
      at_each : (s : ℕ) (b : Bool) → (s == v) ≡ b → Stands (at dom (set ps v p) s) (slice_index (set vs v w) s)
      at_each s true e =
          let same : v ≡ s = grind (arith, nat_tests) in
          subst (λ t. Stands (at dom (set ps v p) t) (slice_index (set vs v w) t)) same
          (subst (λ z. Stands z (slice_index (set vs v w) v)) (sym (get_or-set_same ps v p (Fixed 0) hp))
          (subst (Stands p) (sym (get_or-set_same vs v w 0 hv)) q))
      at_each s false e =
          let other : s ≢ v = grind (arith, nat_tests) in
          subst (λ z. Stands z (slice_index (set vs v w) s)) (sym (get_or-set_other ps v s p (Fixed 0) other))
          (subst (Stands (at dom ps s)) (sym (get_or-set_other vs v s w 0 other)) (h.each s))

      at_word : (s : ℕ) (b : Bool) → (s == v) ≡ b → IsWord (slice_index (set vs v w) s)
      at_word s true e = let same : v ≡ s = grind (arith, nat_tests) in subst (λ t. IsWord (slice_index (set vs v w) t)) same
          (subst IsWord (sym (get_or-set_same vs v w 0 hv)) hw)
      at_word s false e = let other : s ≢ v = grind (arith, nat_tests) in subst IsWord (sym (get_or-set_other vs v s w 0 other))
          (h.are_words s)

  lose_stands : (ps : List Row) (vs : List ℕ) (v : ℕ) → v < length ps → AllStand ps vs → AllStand (set ps v Lost) vs
  lose_stands ps vs v hp h = record { each = λ s. at_each s (s == v) refl; are_words = h.are_words }
    where
      at_each : (s : ℕ) (b : Bool) → (s == v) ≡ b → Stands (at dom (set ps v Lost) s) (slice_index vs s)
      at_each s true e =
          let same : v ≡ s = grind (arith, nat_tests) in
          subst (λ t. Stands (at dom (set ps v Lost) t) (slice_index vs t)) same
          (subst (λ z. Stands z (slice_index vs v)) (sym (get_or-set_same ps v Lost (Fixed 0) hp)) tt)
      at_each s false e =
          let other : s ≢ v = grind (arith, nat_tests) in
          subst (λ z. Stands z (slice_index vs s)) (sym (get_or-set_other ps v s Lost (Fixed 0) other)) (h.each s)

  module _ (states nargs : ℕ) (fargs : List Row) (args : List ℕ) where
    -- the variables, with the arguments after them, represent the state and the arguments
    pub record VarsStand (vars : List Row) (state : List ℕ) : Type 0 where
      pub vars_long : length vars ≡ states
      pub state_long : length state ≡ states
      pub stand : AllStand (vars ++ fargs) (state ++ args)

    set_vars : (vars : List Row) (state : List ℕ) (v : ℕ) (p : Row) (w : ℕ) → v < states → VarsStand vars state → Stands p w → IsWord w
        → VarsStand (set vars v p) (set state v w)
    set_vars vars state v p w hv h q hw =
        let a : v < length vars = omega (arith, h.vars_long) in
        let b : v < length state = omega (arith, h.state_long) in
        let a' : v < length (vars ++ fargs) = omega (arith, a, length-append vars fargs) in
        let b' : v < length (state ++ args) = omega (arith, b, length-append state args) in
        let both = set_stands (vars ++ fargs) (state ++ args) v p w a' b' h.stand q hw in
        record {
          vars_long = length-set vars v p ∙ h.vars_long;
          state_long = length-set state v w ∙ h.state_long;
          stand = subst (λ z. AllStand z (set state v w ++ args)) (set-append_left vars fargs v p a)
              (subst (AllStand (set (vars ++ fargs) v p)) (set-append_left state args v w b) both);
        }

    lose_vars : (vars : List Row) (state : List ℕ) (v : ℕ) → v < states → VarsStand vars state → VarsStand (set vars v Lost) state
    lose_vars vars state v hv h =
        let a : v < length vars = omega (arith, h.vars_long) in
        let a' : v < length (vars ++ fargs) = omega (arith, a, length-append vars fargs) in
        record {
          vars_long = length-set vars v Lost ∙ h.vars_long;
          state_long = h.state_long;
          stand = subst (λ z. AllStand z (state ++ args)) (set-append_left vars fargs v Lost a)
              (lose_stands (vars ++ fargs) (state ++ args) v a' h.stand);
        }

    lost_same : (b : Block) (vars : List Row) (state : List ℕ) → IsValidBlock states nargs b → VarsStand vars state
        → VarsStand (after_in dom Lost b fargs vars) state
    lost_same End vars state valid h = h
    lost_same (Set v e rest) vars state valid h = lost_same rest (set vars v Lost) state valid.3 (lose_vars vars state v valid.0 h)
    lost_same (Fork c a b rest) vars state valid h =
        let va = after_in dom Lost a fargs vars in
        lost_same rest (after_in dom Lost b fargs va) state valid.4 (lost_same b va state valid.3 (lost_same a vars state valid.2 h))

    lost_after : (b : Block) (vars : List Row) (state : List ℕ) → IsValidBlock states nargs b → VarsStand vars state
        → VarsStand (after_in dom Lost b fargs vars) (after b args state)
    lost_after End vars state valid h = h
    lost_after (Set v e rest) vars state valid h =
        let w = term_value e (state ++ args) in
        lost_after rest (set vars v Lost) (set state v w) valid.3 (set_vars vars state v Lost w valid.0 h tt
        (expr_word (states + nargs) e (state ++ args) valid.1 h.stand.are_words))
    lost_after (Fork c a b rest) vars state valid h =
        let va = after_in dom Lost a fargs vars in
        let vb = after_in dom Lost b fargs va in
        let t = holds (term_value c (state ++ args)) in
        lost_after rest vb (if t then after a args state else after b args state) valid.4
        (either t (lost_same b va (after a args state) valid.3 (lost_after a vars state valid.2 h))
        (lost_after b va state valid.3 (lost_same a vars state valid.2 h)))
      where
        either : (t : Bool) → VarsStand (after_in dom Lost b fargs (after_in dom Lost a fargs vars)) (after a args state)
            → VarsStand (after_in dom Lost b fargs (after_in dom Lost a fargs vars)) (after b args state) →
            VarsStand (after_in dom Lost b fargs (after_in dom Lost a fargs vars)) (if t then after a args state else after b args state)
        either true p q = p
        either false p q = q

    -- a choice whose condition represents a word
    branch : (a b : Block) (vars : List Row) (state : List ℕ) (q : Row) (cv : ℕ) → IsValidBlock states nargs a → IsValidBlock states nargs b
        → VarsStand vars state → Stands q cv → VarsStand (after_in dom (Fixed 1) a fargs vars) (after a args state)
        → VarsStand (after_in dom (Fixed 1) b fargs vars) (after b args state) →
        VarsStand (after_in dom (part_mask false (Fixed 1) q) b fargs (after_in dom (part_mask true (Fixed 1) q) a fargs vars))
        (if holds cv then after a args state else after b args state)
    branch a b vars state (Fixed w) cv va vb h e la lb = subst (λ z. VarsStand
        (after_in dom (Fixed (flag (not (holds w)))) b fargs (after_in dom (Fixed (flag (holds w))) a fargs vars))
        (if holds z then after a args state else after b args state)) e (fixed (holds w))
      where
        fixed : (t : Bool) → VarsStand (after_in dom (Fixed (flag (not t))) b fargs (after_in dom (Fixed (flag t)) a fargs vars))
            (if t then after a args state else after b args state)
        fixed true = subst (λ z. VarsStand z (after a args state)) (sym (dead b fargs (after_in dom (Fixed 1) a fargs vars))) la
        fixed false = subst (λ z. VarsStand (after_in dom (Fixed 1) b fargs z) (after b args state)) (sym (dead a fargs vars)) lb
    branch a b vars state (Share r) cv va vb h e la lb = lost (holds cv)
      where
        lost : (t : Bool) → VarsStand (after_in dom Lost b fargs (after_in dom Lost a fargs vars))
            (if t then after a args state else after b args state)
        lost true = lost_same b (after_in dom Lost a fargs vars) (after a args state) vb (lost_after a vars state va h)
        lost false = lost_after b (after_in dom Lost a fargs vars) state vb (lost_same a vars state va h)
    branch a b vars state Lost cv va vb h e la lb = lost (holds cv)
      where
        lost : (t : Bool) → VarsStand (after_in dom Lost b fargs (after_in dom Lost a fargs vars))
            (if t then after a args state else after b args state)
        lost true = lost_same b (after_in dom Lost a fargs vars) (after a args state) vb (lost_after a vars state va h)
        lost false = lost_after b (after_in dom Lost a fargs vars) state vb (lost_same a vars state va h)

    pub live_stands : (b : Block) (vars : List Row) (state : List ℕ) → IsValidBlock states nargs b → VarsStand vars state
        → VarsStand (after_in dom (Fixed 1) b fargs vars) (after b args state)
    live_stands End vars state valid h = h
    live_stands (Set v e rest) vars state valid h =
        let p = term_in dom e (vars ++ fargs) in
        let w = term_value e (state ++ args) in
        live_stands rest (set vars v p) (set state v w) valid.3
        (set_vars vars state v p w valid.0 h (expr_stands (states + nargs) e (vars ++ fargs) (state ++ args) valid.1 h.stand)
        (expr_word (states + nargs) e (state ++ args) valid.1 h.stand.are_words))
    live_stands (Fork c a b rest) vars state valid h =
        let q = term_in dom c (vars ++ fargs) in
        let cv = term_value c (state ++ args) in
        live_stands rest (after_in dom (part_mask false (Fixed 1) q) b fargs (after_in dom (part_mask true (Fixed 1) q) a fargs vars))
        (if holds cv then after a args state else after b args state) valid.4
        (branch a b vars state q cv valid.2 valid.3 h (expr_stands (states + nargs) c (vars ++ fargs) (state ++ args) valid.0 h.stand)
        (live_stands a vars state valid.2 h) (live_stands b vars state valid.3 h))
